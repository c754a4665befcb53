use Rattle.std.proofs.Common.{◌∙◌, ap, sym}
use Rattle.std.specs.Option.{option_map}
use Rattle.spk_payload.specs.Typing.{typed_view}
use Rattle.spk_device.specs.Step.{set_change}
use Rattle.spk_edge_rules.specs.Births.{owner_is_up}
use Rattle.spk_edge.specs.View.{NodeData, given_of}
use Rattle.spk_edge.proofs.Changed.{told}
use Rattle.spk_edge.proofs.node.EdgeNode.changing.Goals as goal

pub returns-in_ok-telling-in-Ok-Changed-clause-given :
    goal.returns-in_ok-telling-in-Ok-Changed-clause-given
returns-in_ok-telling-in-Ok-Changed-clause-given c =
    let n = c.args.self.now in
    c.in_ok-telling-in-Ok-Changed.ensures
    ∙ ap (given_of n.config n.standing.asked.heard)
    (told n.standing.asked c.args.now c.args.alias (option_map typed_view c.args.value.now) (sym c.in-Ok-Changed.field-0-is ∙ c.in-Ok-Changed.ensures.change ∙ ap (λ (n : NodeData). set_change n.standing.asked.book c.args.alias (option_map typed_view c.args.value.now)) c.self.view_is)
    (ap (owner_is_up n.standing.asked.book) (sym c.owner.ensures) ∙ sym c.is_owner_up.ensures ∙ c.if-is_owner_up.true))
