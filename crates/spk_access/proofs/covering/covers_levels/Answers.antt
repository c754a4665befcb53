use Rattle.std.proofs.Common.{◌∙◌, sym, ap}
use Rattle.std.specs.Option.{option_map}
use Rattle.spk_topics.specs.Levels.{levels_left}
use Rattle.spk_access.specs.Covering.{covers_levels}
use Rattle.spk_access.proofs.Cutting.{is_empty-left}
use Rattle.spk_access.proofs.covering.covers_levels.Goals as goal

pub returns : goal.returns
returns c =
    is_empty-left _ _ c.is_none.ensures
    ∙ sym (c.loop-wide_left.invariant ∙ ap (λ o. covers_levels (levels_left (option_map (λ rest. rest.now) o)) (levels_left (option_map (λ rest. rest.now) c.loop-wide_left.filter_left))) c.in_default.is)
