use Rattle.std.proofs.Common.{◌≡◌, map, take}
use Rattle.spk_payload.specs.View.{metric_view}
use Rattle.spk_view.proofs.ready.copied.Given as goal

-- the copies so far are equal to the metrics so far
abbrev pub invariant-loop-metric : goal.invariant-loop-metric
invariant-loop-metric l = map metric_view l.copies.items ≡ map metric_view (take l.metric-index l.metrics)
