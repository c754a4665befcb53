use Rattle.std.proofs.Common.{◌∙◌, sym, ap, cond, string_bytes, map, [], ◌∷◌, ◌++◌}
use Rattle.std.specs.Prelude.{is_some}
use Rattle.spk_names.specs.Names.{number_in}
use Rattle.spk_names.proofs.NameLemmas.{entry_of, insert_entry-numbers}
use Rattle.spk_names.proofs.names.Names.push.Goals as goal

pub returns-clause-ok : goal.returns-clause-ok
returns-clause-ok c =
    let new = ap (λ es. number_in es (string_bytes c.args.name)) c.self.view_is ∙ c.requires in
    let names = c.args.self.now in
    ap (map entry_of) c.in_ok-insert.ensures.entries
    ∙ insert_entry-numbers c.self.inside.table c.args.name c.args.number new
    ∙ ap (λ es. es ++ (string_bytes c.args.name, c.args.number) ∷ []) c.self.view_is
    ∙ sym (ap (λ o. cond (is_some o) names (names ++ (string_bytes c.args.name, c.args.number) ∷ [])) c.requires)
