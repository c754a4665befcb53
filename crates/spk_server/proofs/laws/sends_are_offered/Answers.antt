use Rattle.std.proofs.Common.{◌++◌, ◌∙◌, ap, sym}
use Rattle.std.proofs.lemmas.List.{append-nil}
use Rattle.spk_server.specs.Calls.{room_with}
use Rattle.spk_server.specs.Log.{any_deed}
use Rattle.spk_server.specs.Past.{handed_of}
use Rattle.spk_server.proofs.Histories.{sends_run}
use Rattle.spk_server.proofs.laws.sends_are_offered.Goals as goal

pub returns : goal.returns
returns c = λ x log r run none. sym (append-nil (handed_of log)) ∙ ap (λ ps. handed_of log ++ ps) (sym none) ∙ sym (sends_run any_deed log (room_with x) r run)
