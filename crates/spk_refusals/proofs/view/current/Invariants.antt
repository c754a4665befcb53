use Rattle.std.proofs.Common.{◌≡◌, map, take}
use Rattle.spk_payload.specs.View.{metric_view}
use Rattle.spk_refusals.specs.Wrong.{current}
use Rattle.spk_refusals.proofs.view.current.Given as goal

-- the copies so far are the metrics so far, and current
abbrev pub invariant-loop-metric : goal.invariant-loop-metric
invariant-loop-metric l = map metric_view l.copies.items ≡ map current (map metric_view (take l.metric-index l.metrics))
