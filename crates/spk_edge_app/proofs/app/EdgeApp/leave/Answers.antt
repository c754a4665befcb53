use Rattle.std.proofs.Common.{◌≡◌, refl, rules}
use Rattle.spk_edge.specs.Patch.{plain_input}
use Rattle.spk_edge_rules.specs.Inputs as inputs
use Rattle.spk_edge_app.specs.Fault.{edge_fault}
use Rattle.spk_edge_app.specs.View.{app_view}
use Rattle.spk_edge_app.proofs.Runs.{is_told, untold}
use Rattle.spk_edge_app.proofs.app.EdgeApp.leave.Goals as goal

pub returns-in-Ok-clause-told : goal.returns-in-Ok-clause-told
returns-in-Ok-clause-told c =
    is_told (app_view c.self.inside) c.args.self.now c.stop.new.self (plain_input c.args.now (inputs.Stop)) c.in-Ok.out c.answer.new.self refl c.self.view_is c.in-Ok.ensures.done c.answer.ensures

pub returns-in-Err-clause-refused : goal.returns-in-Err-clause-refused
returns-in-Err-clause-refused c =
    let is : c.into.result ≡ edge_fault c.in-Err.fault = search rules in
    untold (app_view c.self.inside) c.args.self.now (plain_input c.args.now inputs.Stop) c.in-Err.fault c.into.result c.self.view_is c.in-Err.ensures.refused is
