use Rattle.std.proofs.Common.{◌^◌}
use Rattle.std.specs.Option.{option_map}
use Rattle.std.proofs.lemmas.Bool.{lt-ltb}
use Rattle.spk_payload.specs.Typing.{typed_view}
use Rattle.spk_edge.proofs.Told.{set-book, still-planned}
use Rattle.spk_edge.proofs.node.EdgeNode.set_plan.Goals as goal

pub returns-clause-planned : goal.returns-clause-planned
returns-clause-planned c =
    let n = c.args.self.now in
    let v = option_map typed_view c.args.value.now in
    still-planned n c.args.now c.args.alias v c.still_plan.result (lt-ltb c.args.now (2 ^ 63) c.requires.moment) c.requires.asked
    c.still_plan.ensures.packets c.still_plan.ensures.writes c.still_plan.ensures.close c.still_plan.ensures.messages c.still_plan.ensures.tally
    (set-book n c.args.alias c.in_ok-value.value v c.still_plan.result.setting c.requires.accepted c.in_ok-value.ensures c.still_plan.ensures.set) c.still_plan.ensures.kept
