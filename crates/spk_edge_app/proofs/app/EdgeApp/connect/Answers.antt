use Rattle.std.proofs.Common.{◌∙◌, ap, false, refl}
use Rattle.spk_edge_app.specs.Step.{bytes_in, given_up}
use Rattle.spk_edge_app.proofs.Runs.{connects_by}
use Rattle.spk_edge_app.proofs.app.EdgeApp.connect.Goals as goal

pub returns-in-Ok-clause-sent : goal.returns-in-Ok-clause-sent
returns-in-Ok-clause-sent c =
    connects_by c.args.self.now c.note.new.self c.send-sent.new.self c.end.new.self c.args.out c.in-Ok.bytes.items c.deref.result.now c.send-sent.result c.args.now c.note.ensures c.in-Ok.ensures.said c.deref.ensures.value c.send-sent.ensures.sent c.end.ensures

pub returns-in-Err-NoMemory-clause-sent : goal.returns-in-Err-NoMemory-clause-sent
returns-in-Err-NoMemory-clause-sent c = (bytes_in c.args.out, false, refl, c.give_up.ensures ∙ ap (given_up c.args.now) c.note.ensures)
