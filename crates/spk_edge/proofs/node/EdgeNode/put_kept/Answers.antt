use Rattle.std.proofs.Common.{◌≡◌, ◌∙◌, ap, sym, Some, None, slice_get, option_copied}
use Rattle.std.specs.Option.{option_map}
use Rattle.spk_payload.specs.View.{content_of}
use Rattle.spk_edge.specs.History.{all_kept}
use Rattle.spk_edge.specs.View.{NodeData, change_view}
use Rattle.spk_edge.proofs.Drains.{get-view}
use Rattle.spk_edge.proofs.Flushed.{kept-is, kept-none, no-metric, tried-at}
use Rattle.spk_edge.proofs.node.EdgeNode.put_kept.Goals as goal

pub returns : goal.returns
returns c =
    let n = c.args.self.now in
    let x = c.in-Some.change.now in
    let there : slice_get n.standing.asked.store.items c.args.place ≡ Some (change_view x) =
    ap (λ (n : NodeData). slice_get n.standing.asked.store.items c.args.place) (sym c.self.view_is)
    ∙ get-view c.self.inside.store.items c.args.place
    ∙ ap (option_map change_view) (sym c.get.ensures ∙ ap option_copied c.in-Some.is) in
    let row = kept-is n.standing.asked.book n.standing.asked.store.items c.args.place x.owner x.alias x.time x.value c.is_none.result (option_map content_of c.in_ok-value.value) there c.is_none.ensures c.in_ok-value.ensures in
    tried-at c.put_within.result c.args.limit c.args.out.now.items c.put_within.new.out.items (all_kept n.standing.asked) c.args.place _ row c.put_within.ensures

pub returns-in_default : goal.returns-in_default
returns-in_default c =
    let n = c.args.self.now in
    let none : slice_get n.standing.asked.store.items c.args.place ≡ None =
    ap (λ (n : NodeData). slice_get n.standing.asked.store.items c.args.place) (sym c.self.view_is)
    ∙ get-view c.self.inside.store.items c.args.place
    ∙ ap (option_map change_view) (sym c.get.ensures ∙ ap option_copied c.in_default.is) in
    no-metric c.args.limit c.args.out.now.items (all_kept n.standing.asked) c.args.place (kept-none n.standing.asked.book n.standing.asked.store.items c.args.place none)
