use Rattle.std.proofs.Common.{◌∙◌, ap}
use Rattle.std.proofs.lemmas.Result.{IfOk-weaker}
use Rattle.spk_edge_rules.specs.Config.{Config}
use Rattle.spk_plant.proofs.Ends.{by_lists, by_names}
use Rattle.spk_plant.proofs.tie.handed_of.Goals as goal

pub returns : goal.returns
returns c =
    IfOk-weaker c.of_node.result _ _
    (λ o is. by_names c.as_str.result.now c.as_str-2.result.now c.args.node.now.config c.args.place c.args.seen.taken.now.items c.args.seen.accepted.now.items c.args.seen.given.now.items
    o.given.items o.consumed.items (c.as_str.ensures.value ∙ ap (λ (v : Config). v.group) c.config.ensures) (c.as_str-2.ensures.value ∙ ap (λ (v : Config). v.node) c.config-2.ensures)
    (by_lists c.as_str.result.now c.as_str-2.result.now c.args.place c.deref.result.now c.args.seen.taken.now.items c.deref-2.result.now c.args.seen.accepted.now.items
    c.deref-3.result.now c.args.seen.given.now.items o.given.items o.consumed.items c.deref.ensures.value c.deref-2.ensures.value c.deref-3.ensures.value is))
    c.of_node.ensures
