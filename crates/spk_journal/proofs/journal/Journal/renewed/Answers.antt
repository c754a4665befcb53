use Rattle.std.proofs.Common.{◌++◌, map, sym, ap, ◌∙◌, append-nil, subst, string_bytes}
use Rattle.spk_journal.specs.Journal.{JournalData, SayThatWait, made_anew}
use Rattle.spk_journal.proofs.Noting.{anew}
use Rattle.spk_journal.proofs.journal.Journal.renewed.Goals as goal

pub returns-clause-stands : goal.returns-clause-stands
returns-clause-stands c =
    let wait = map string_bytes c.self.inside.lines.items in
    let same = ap (λ (j : JournalData). j.lines) c.self.view_is in
    λ base lines says e. subst (λ t. SayThatWait t wait)
    (sym (append-nil (made_anew base wait)) ∙ ap (λ u. made_anew base wait ++ u) (sym c.clear.ensures.items) ∙ ap (λ w. made_anew base w ++ c.clear.new.self.items) same)
    (anew base lines wait says c.self.invariant)
