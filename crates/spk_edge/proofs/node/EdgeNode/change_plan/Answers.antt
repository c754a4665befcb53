use Rattle.std.proofs.Common.{◌∙◌, ◌^◌, ap, sym}
use Rattle.std.specs.Option.{option_map}
use Rattle.std.proofs.lemmas.Bool.{lt-ltb}
use Rattle.spk_payload.specs.Typing.{typed_view}
use Rattle.spk_device.specs.Step.{set_change, set_refusal}
use Rattle.spk_edge.specs.View.{NodeData}
use Rattle.spk_edge.proofs.Still.{is-same}
use Rattle.spk_edge.proofs.Told.{same-planned}
use Rattle.spk_edge.proofs.node.EdgeNode.change_plan.Goals as goal

pub returns-in-Ok-Same-clause-planned : goal.returns-in-Ok-Same-clause-planned
returns-in-Ok-Same-clause-planned c =
    let n = c.args.self.now in
    let v = option_map typed_view c.args.value.now in
    same-planned n c.args.now c.args.alias v c.still_plan.result (lt-ltb c.args.now (2 ^ 63) c.requires)
    (ap (λ (n : NodeData). set_refusal n.standing.asked.book c.args.alias v) (sym c.self.view_is) ∙ c.in-Ok-Same.ensures.accepted)
    (is-same n.standing.asked.book c.args.alias v
    (sym c.in-Ok-Same.field-0-is ∙ c.in-Ok-Same.ensures.change ∙ ap (λ (n : NodeData). set_change n.standing.asked.book c.args.alias v) c.self.view_is))
    c.still_plan.ensures.packets c.still_plan.ensures.writes c.still_plan.ensures.close c.still_plan.ensures.messages c.still_plan.ensures.tally
    c.still_plan.ensures.set c.still_plan.ensures.kept
