use Rattle.std.proofs.Common.{◌≡◌, ◌++◌, map}
use Rattle.spk_edge_rules.specs.Commands as rule
use Rattle.spk_edge.specs.Ordered.{order_view}
use Rattle.spk_edge.specs.View.{write_view}
use Rattle.spk_edge.proofs.command.writes_in.Given as goal

-- the writes so far, and in what remains those behind them
abbrev pub invariant-loop-order : goal.invariant-loop-order
invariant-loop-order l =
    rule.writes_in (map order_view l.fn.orders.items)
    ≡ map write_view l.writes.items ++ rule.writes_in (map order_view l.order-iterator.rest.items)
