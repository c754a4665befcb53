use Rattle.std.proofs.Common.{◌≡◌, ◌∙◌, ap, refl, subst, List, ◌∷◌}
use Rattle.std.specs.Prelude.{is_err}
use Rattle.spk_edge.specs.View.{act_view}
use Rattle.spk_edge_rules.specs.Inputs.{Input}
use Rattle.spk_edge_rules.specs.Run.{right_at, run_of}
use Rattle.spk_plant_edge.specs.At.{Stands}
use Rattle.spk_plant_edge.specs.Log.{Asks, asked_at, inputs_of}
use Rattle.spk_plant_edge.proofs.Hearing.{asked-as}
use Rattle.spk_plant_edge.proofs.Leading.{at-asks}
use Rattle.spk_plant_edge.proofs.desk.Desk.ask.Goals as goal

pub returns-clause-asked : goal.returns-clause-asked
returns-clause-asked g c = λ o log at.
    let same = asked-as o log c.args.self.now (act_view c.args.act) c.moment_of-now.result at.stands c.moment_of-now.ensures in
    let told = c.in_ok-refused.ensures.told o (inputs_of log) at.stands in (
      Asks (asked_at log (act_view c.args.act)) ∷ log,
      at-asks o log c.args.self.now c.tell.new.self (act_view c.args.act) at (subst (λ (i : Input). Stands o (i ∷ inputs_of log) c.tell.new.self) same told.0) c.in_ok-refused.ensures.inlet,
      (refl, told.1 ∙ ap (λ (i : Input). is_err (right_at o.setup (run_of o.setup (inputs_of log)) i)) same),
    )
