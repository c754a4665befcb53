use Rattle.spk_packets.specs.View.{view}
use Rattle.spk_edge_app.specs.View.{app_view}
use Rattle.spk_edge_app.proofs.Runs.{hears_one}
use Rattle.spk_edge_app.proofs.app.EdgeApp.hear_next.Goals as goal

pub returns-in_ok-come-in-Ok-Some-clause-heard : goal.returns-in_ok-come-in-Ok-Some-clause-heard
returns-in_ok-come-in-Ok-Some-clause-heard c =
    hears_one (app_view c.self.inside) c.args.self.now c.take.new.self (view c.in-Ok-Some.packet) c.args.now c.come.new.self c.self.view_is c.requires (rw c.in-Ok-Some.field-0-is at c.in-Ok-Some.ensures.taken) c.in_ok-come-in-Ok-Some.ensures.comes
