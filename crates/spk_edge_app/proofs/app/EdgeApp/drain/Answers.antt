use Rattle.std.proofs.Common.{inl, ◌∙◌, sym, refl}
use Rattle.spk_edge.specs.Patch.{plain_input}
use Rattle.spk_edge_rules.specs.Inputs as inputs
use Rattle.spk_edge_app.specs.View.{app_view}
use Rattle.spk_edge_app.proofs.Runs.{is_told}
use Rattle.spk_edge_app.proofs.app.EdgeApp.drain.Goals as goal

pub returns-in_ok-out-clause-drained : goal.returns-in_ok-out-clause-drained
returns-in_ok-out-clause-drained c =
    inl (sym c.may_drain.ensures ∙ c.if-may_drain.true, is_told (app_view c.self.inside) c.args.self.now c.drain.new.self (plain_input c.args.now inputs.Drain) c.in_ok-out.out c.answer.new.self refl c.self.view_is c.in_ok-out.ensures.done c.answer.ensures)
