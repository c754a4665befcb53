use Rattle.std.proofs.Common.{◌≡◌, map}
use Rattle.spk_payload.specs.View.{metric_view}
use Rattle.spk_refusals.specs.Wrong.{stamped}
use Rattle.spk_refusals.proofs.Walks.{changed_so_far}
use Rattle.spk_refusals.proofs.turning.stamp_metrics.Given as goal

-- the first ones have the stamp, the others are as they were
abbrev pub invariant-loop-metric : goal.invariant-loop-metric
invariant-loop-metric l = map metric_view l.metrics ≡ changed_so_far metric_view (stamped l.stamp) (map metric_view l.initial.metrics) l.metric-index
