use Rattle.std.proofs.Common.{◌^◌, refl}
use Rattle.std.specs.Option.{option_map}
use Rattle.std.proofs.lemmas.Bool.{lt-ltb}
use Rattle.spk_payload.specs.Typing.{typed_view}
use Rattle.spk_edge.proofs.Told.{kept-planned}
use Rattle.spk_edge.proofs.node.EdgeNode.kept_plan.Goals as goal

pub returns-clause-planned : goal.returns-clause-planned
returns-clause-planned c =
    kept-planned c.args.self.now c.args.now c.args.alias c.in_ok-value.value (option_map typed_view c.args.value.now) c.in_ok-change.change _
    (lt-ltb c.args.now (2 ^ 63) c.requires.moment) c.requires.accepted c.requires.asked c.in_ok-value.ensures c.in_ok-change.ensures
    c.still_plan-plan.ensures.packets c.still_plan-plan.ensures.writes c.still_plan-plan.ensures.close c.still_plan-plan.ensures.messages c.still_plan-plan.ensures.tally
    c.still_plan-plan.ensures.set refl
