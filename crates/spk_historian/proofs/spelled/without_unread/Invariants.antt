use Rattle.std.proofs.Common.{◌≡◌, map, take}
use Rattle.spk_payload.specs.View.{metric_view}
use Rattle.spk_historian.specs.Kept.{kept_metric}
use Rattle.spk_historian.proofs.spelled.without_unread.Given as goal

-- the copies so far are what is kept of the metrics so far
abbrev pub invariant-loop-metric : goal.invariant-loop-metric
invariant-loop-metric l = map metric_view l.metrics.items ≡ map kept_metric (map metric_view (take l.metric-index l.payload.metrics.items))
