use Rattle.std.proofs.Common.{◌∙◌, ◌∷◌, sym, ap}
use Rattle.std.specs.Option.{option_map}
use Rattle.spk_topics.specs.Levels.{levels_left}
use Rattle.spk_access.specs.Rights.{rights_by}
use Rattle.spk_access.proofs.Cutting.{nobody-by}
use Rattle.spk_access.proofs.rights.Rights.of_client.Goals as goal

pub returns-then-is_some-clause-ok : goal.returns-then-is_some-clause-ok
returns-then-is_some-clause-ok c =
    let first = c.cut.result.0.now in
    let parts = c.cut.ensures.levels ∙ ap (λ o. first ∷ levels_left (option_map (λ rest. rest.now) o)) c.in-Some.is ∙ ap (λ ls. first ∷ ls) c.cut-2.ensures.levels in
    c.of_nobody-then-is_some.ensures ∙ sym (ap rights_by parts ∙ nobody-by first c.cut-2.result.0.now c.cut-2.result.1 c.if-is_some.ensures)
