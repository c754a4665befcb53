use Rattle.std.proofs.Common.{◌≡◌, map, drop}
use Rattle.spk_payload.specs.View.{metric_view}
use Rattle.spk_host_rules.specs.Table.{is_lacking}
use Rattle.spk_view.proofs.table.Table.is_lacking.Given as goal

-- it is so of all exactly where it is of the rest
abbrev pub invariant-loop-metric : goal.invariant-loop-metric
invariant-loop-metric l = is_lacking l.self (map metric_view l.metrics) ≡ is_lacking l.self (map metric_view (drop l.metric-index l.metrics))
