use Rattle.std.proofs.Common.{◌∙◌, sym, ap}
use Rattle.std.specs.Option.{option_map}
use Rattle.spk_topics.specs.Levels.{levels_left}
use Rattle.spk_topics.specs.Fitting.{fits}
use Rattle.spk_topics.proofs.LevelLemmas.{is_empty-levels_left}
use Rattle.spk_topics.proofs.matching.fits.Goals as goal

pub returns : goal.returns
returns c =
    is_empty-levels_left _ _ c.is_none-2.ensures
    ∙ sym (c.loop-filter_left.invariant ∙ ap (λ o. fits (levels_left (option_map (λ rest. rest.now) o)) (levels_left (option_map (λ rest. rest.now) c.loop-filter_left.topic_left))) c.in_default.is)
