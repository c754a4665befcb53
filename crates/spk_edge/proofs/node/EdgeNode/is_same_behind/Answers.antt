use Rattle.std.proofs.Common.{◌≡◌, ◌∙◌, ap, sym, false, Option, Some, None}
use Rattle.std.specs.Option.{option_map, option_map_or}
use Rattle.spk_payload.specs.Typing.{typed_view}
use Rattle.spk_device.specs.Book.{GaugeData, gauge_at}
use Rattle.spk_device.specs.Values.{value_eq}
use Rattle.spk_device.specs.View.{gauge_view}
use Rattle.spk_edge_rules.specs.Run.{last_in}
use Rattle.spk_edge.specs.Several.{pairs}
use Rattle.spk_edge.specs.View.{NodeData}
use Rattle.spk_edge.proofs.Sets.{same-behind}
use Rattle.spk_edge.proofs.node.EdgeNode.is_same_behind.Goals as goal

pub returns-in-Some : goal.returns-in-Some
returns-in-Some c =
    let b = c.args.self.now.standing.asked.book in
    let v = option_map typed_view c.args.value.now in
    let ys = pairs c.args.before.now in
    let found : gauge_at b c.args.alias ≡ Some (gauge_view c.in-Some.gauge.now) =
    ap (λ (n : NodeData). gauge_at n.standing.asked.book c.args.alias) (sym c.self.view_is) ∙ sym c.metric.ensures ∙ ap (option_map (λ r. gauge_view r.now)) c.in-Some.is in
    c.is_last.ensures ∙ sym (same-behind b ys c.args.alias v ∙ ap (λ (o : Option GaugeData). option_map_or (λ (g : GaugeData). value_eq (last_in ys c.args.alias g.value) v) o false) found)

pub returns-in-None : goal.returns-in-None
returns-in-None c =
    let b = c.args.self.now.standing.asked.book in
    let v = option_map typed_view c.args.value.now in
    let ys = pairs c.args.before.now in
    let found : gauge_at b c.args.alias ≡ None =
    ap (λ (n : NodeData). gauge_at n.standing.asked.book c.args.alias) (sym c.self.view_is) ∙ sym c.metric.ensures ∙ ap (option_map (λ r. gauge_view r.now)) c.in-None.is in
    sym (same-behind b ys c.args.alias v ∙ ap (λ (o : Option GaugeData). option_map_or (λ (g : GaugeData). value_eq (last_in ys c.args.alias g.value) v) o false) found)
