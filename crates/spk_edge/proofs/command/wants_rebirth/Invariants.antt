use Rattle.std.proofs.Common.{◌≡◌, ◌||◌, map, drop}
use Rattle.spk_edge_rules.specs.Commands as rule
use Rattle.spk_edge.specs.Ordered.{order_view}
use Rattle.spk_edge.proofs.command.wants_rebirth.Given as goal

-- one so far, or one of what remains
abbrev pub invariant-loop-order : goal.invariant-loop-order
invariant-loop-order l =
    rule.wants_rebirth (map order_view l.fn.orders) ≡ (l.asked || rule.wants_rebirth (map order_view (drop l.order-index l.fn.orders)))
