use Rattle.std.proofs.Common.{◌≡◌, ◌++◌, map}
use Rattle.std.specs.Option.{option_map}
use Rattle.spk_payload.specs.View.{metric_view}
use Rattle.spk_edge_rules.specs.Commands.{orders_of}
use Rattle.spk_edge.specs.Ordered.{order_view, target_view}
use Rattle.spk_edge.proofs.command.orders_in.Given as goal

-- the orders so far, and behind them those of what remains
abbrev pub invariant-loop-metric : goal.invariant-loop-metric
invariant-loop-metric l =
    orders_of l.fn.registry (target_view l.fn.target) (map metric_view l.fn.metrics.items)
    ≡ option_map (λ rest. map order_view l.orders.items ++ rest) (orders_of l.fn.registry (target_view l.fn.target) (map metric_view l.metric-iterator.rest.items))
