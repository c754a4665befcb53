use Rattle.std.proofs.Common.{◌≡◌, map}
use Rattle.spk_payload.specs.View.{metric_view}
use Rattle.spk_host_rules.specs.Step.{show_all}
use Rattle.spk_view.proofs.table.Table.show_all.Given as goal

-- the rest of the metrics shows what all show
abbrev pub invariant-loop-metric : goal.invariant-loop-metric
invariant-loop-metric l = show_all (map metric_view l.metric-iterator.rest.items) l.self ≡ show_all (map metric_view l.fn.metrics.items) l.fn.self
