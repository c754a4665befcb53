use Rattle.std.proofs.Common.{ap}
use Rattle.spk_packets.specs.View.{view}
use Rattle.spk_edge_app.specs.View.{app_view}
use Rattle.spk_edge_app.proofs.Runs.{comes_heard, comes_refused, on_ok}
use Rattle.spk_edge_app.proofs.app.EdgeApp.come.Goals as goal

pub returns-in-Ok-clause-comes : goal.returns-in-Ok-clause-comes
returns-in-Ok-clause-comes c =
    comes_heard (app_view c.self.inside) c.args.self.now c.packet.new.self c.args.now (view c.args.packet.now) c.in-Ok.out c.answer.new.self c.self.view_is c.in-Ok.ensures.done c.answer.ensures

pub returns-in-Err-clause-comes : goal.returns-in-Err-clause-comes
returns-in-Err-clause-comes c =
    on_ok c.turn_down.result _ _
    (comes_refused (app_view c.self.inside) c.args.self.now c.packet.new.self c.args.now (view c.args.packet.now) c.in-Err.fault c.input_of-ack.result.ack c.turn_down.new.self c.self.view_is c.in-Err.ensures.err c.in-Err.ensures.refused (ap (λ i. i.ack) c.input_of-ack.ensures))
    c.turn_down.ensures.sent
