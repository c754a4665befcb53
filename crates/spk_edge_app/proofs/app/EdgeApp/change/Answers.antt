use Rattle.std.proofs.Common.{refl}
use Rattle.std.specs.Option.{option_map}
use Rattle.spk_payload.specs.Typing.{typed_view}
use Rattle.spk_edge.specs.Patch.{plain_input}
use Rattle.spk_edge_rules.specs.Inputs as inputs
use Rattle.spk_edge_app.specs.View.{app_view}
use Rattle.spk_edge_app.proofs.Runs.{is_told}
use Rattle.spk_edge_app.proofs.app.EdgeApp.change.Goals as goal

pub returns-clause-told : goal.returns-clause-told
returns-clause-told c =
    is_told (app_view c.self.inside) c.args.self.now c.change.new.self (plain_input c.args.now (inputs.Change c.args.alias (option_map typed_view c.args.value.now))) c.in_ok-out.out c.answer.new.self refl c.self.view_is c.in_ok-out.ensures.done c.answer.ensures
