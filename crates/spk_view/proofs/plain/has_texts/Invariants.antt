use Rattle.std.proofs.Common.{◌≡◌, map, drop}
use Rattle.spk_payload.specs.View.{metric_view}
use Rattle.spk_view.specs.Plain.{has_texts}
use Rattle.spk_view.proofs.plain.has_texts.Given as goal

-- it is so of all exactly where it is of the rest
abbrev pub invariant-loop-metric : goal.invariant-loop-metric
invariant-loop-metric l = has_texts (map metric_view l.metrics) ≡ has_texts (map metric_view (drop l.metric-index l.metrics))
