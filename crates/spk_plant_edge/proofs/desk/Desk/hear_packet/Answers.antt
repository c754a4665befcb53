use Rattle.std.proofs.Common.{◌≡◌, ◌∙◌, ◌∷◌, subst}
use Rattle.spk_edge_rules.specs.Inputs.{Input}
use Rattle.spk_plant_edge.specs.At.{Stands}
use Rattle.spk_plant_edge.proofs.Hearing.{heard-as}
use Rattle.spk_plant_edge.proofs.desk.Desk.hear_packet.Goals as goal

pub returns-clause-heard : goal.returns-clause-heard
returns-clause-heard g c = λ o is h.
    let same = heard-as o is c.args.self.now c.args.packet.now c.now.result h c.now.ensures in
    let told = c.in_ok-tell.ensures.told o is h in
    subst (λ (i : Input). Stands o (i ∷ is) c.tell.new.self) (c.input_for-input.ensures ∙ same) told.0
