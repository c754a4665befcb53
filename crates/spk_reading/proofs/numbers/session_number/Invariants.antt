use Rattle.std.proofs.Common.{◌≡◌, map, take}
use Rattle.spk_payload.specs.View.{metric_view}
use Rattle.spk_reading.specs.Meaning.{session_of}
use Rattle.spk_reading.proofs.numbers.session_number.Given as goal

-- that of the metrics so far
abbrev pub invariant-loop-metric : goal.invariant-loop-metric
invariant-loop-metric l = l.found ≡ session_of (map metric_view (take l.metric-index l.fn.metrics))
