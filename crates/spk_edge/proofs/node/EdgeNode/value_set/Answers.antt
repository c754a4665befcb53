use Rattle.std.proofs.Common.{◌∙◌, ap, sym}
use Rattle.std.specs.Option.{option_map}
use Rattle.spk_payload.specs.Typing.{typed_view}
use Rattle.spk_device.specs.Step.{set_change}
use Rattle.spk_edge.specs.View.{NodeData}
use Rattle.spk_edge.proofs.Still.{set-same}
use Rattle.spk_edge.proofs.node.EdgeNode.value_set.Goals as goal

pub returns-in-Ok-Same-clause-set : goal.returns-in-Ok-Same-clause-set
returns-in-Ok-Same-clause-set c =
    let n = c.args.self.now in
    let value = option_map typed_view c.args.value.now in
    set-same n.standing.asked.book c.args.alias value
    (sym c.in-Ok-Same.field-0-is ∙ c.in-Ok-Same.ensures.change ∙ ap (λ (n : NodeData). set_change n.standing.asked.book c.args.alias value) c.self.view_is)
