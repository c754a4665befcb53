use Rattle.std.proofs.Common.{◌++◌, ◌∙◌, ap, sym}
use Rattle.std.proofs.lemmas.List.{append-nil}
use Rattle.spk_server.specs.Data.{Begun, Wrote}
use Rattle.spk_server.specs.Past.{kept_of}
use Rattle.spk_server.specs.Step.{after}
use Rattle.spk_server.proofs.Notes.{all_kept, amid_run}
use Rattle.spk_server.proofs.laws.written_once_kept.Goals as goal

pub returns : goal.returns
returns c = λ limit before behind r s conn count run none.
    let q = amid_run before behind (Wrote conn count) (after Begun r) s run in
    sym (append-nil (kept_of before)) ∙ ap (λ t. kept_of before ++ t) (sym (all_kept q.0 q.2.1))
    ∙ c.notes_are_of_the_log.ensures.notes limit before r q.0 q.1 none
