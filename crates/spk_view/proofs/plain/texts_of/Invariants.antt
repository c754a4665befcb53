use Rattle.std.proofs.Common.{◌≡◌, ◌++◌, map, drop}
use Rattle.std.specs.Option.{option_map}
use Rattle.spk_payload.specs.View.{content_of, metric_view}
use Rattle.spk_view.specs.Plain.{texts_in}
use Rattle.spk_view.proofs.plain.texts_of.Given as goal

-- with those of the rest they are all
abbrev pub invariant-loop-metric : goal.invariant-loop-metric
invariant-loop-metric l = map (option_map content_of) l.texts.items ++ texts_in (map metric_view (drop l.metric-index l.metrics)) ≡ texts_in (map metric_view l.metrics)
