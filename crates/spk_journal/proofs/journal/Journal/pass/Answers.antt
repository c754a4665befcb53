use Rattle.std.proofs.Common.{map, sym, ap, ◌∙◌, ◌++◌, subst, string_bytes}
use Rattle.std.specs.Option.{option_to_list}
use Rattle.std.proofs.lemmas.List.{map-append}
use Rattle.spk_journal.specs.Journal.{Stands}
use Rattle.spk_journal.proofs.Noting.{passed}
use Rattle.spk_journal.proofs.journal.Journal.pass.Goals as goal

pub returns-clause-stands : goal.returns-clause-stands
returns-clause-stands c =
    let front = option_to_list c.pop_front.result in
    let are = ap (map string_bytes) c.pop_front.ensures.items ∙ map-append string_bytes front c.pop_front.new.self.items in
    λ file stands e. passed (file ++ c.self.inside.tail.unwritten.items) (map string_bytes c.self.inside.lines.items) (map string_bytes front) (map string_bytes c.pop_front.new.self.items) are
    (subst (λ j. Stands file j) (sym c.self.view_is) stands e)
