use Rattle.std.proofs.Common.{◌∙◌, ap}
use Rattle.std.specs.Prelude.{◌&&◌}
use Rattle.std.specs.Option.{option_map}
use Rattle.spk_topics.specs.Levels.{is_empty, levels_left}
use Rattle.spk_access.proofs.Cutting.{is_empty-left}
use Rattle.spk_access.proofs.covering.is_rest.Goals as goal

pub returns-then-eq : goal.returns-then-eq
returns-then-eq c =
    is_empty-left _ _ c.is_none.ensures ∙ ap (λ t. t && is_empty (levels_left (option_map (λ rest. rest.now) c.args.behind))) c.if-eq.ensures
