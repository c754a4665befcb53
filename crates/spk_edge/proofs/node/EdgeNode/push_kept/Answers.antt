use Rattle.std.proofs.Common.{◌≡◌, ◌∙◌, ap, sym, refl, ◌++◌, ◌∷◌, [], map, slice_get, option_copied, Some, None, arith}
use Rattle.std.specs.Option.{option_map}
use Rattle.std.proofs.lemmas.List.{map_push}
use Rattle.spk_payload.specs.Meaning.{MetricData}
use Rattle.spk_payload.specs.View.{content_of, metric_view}
use Rattle.spk_edge.specs.History.{all_kept}
use Rattle.spk_edge.specs.Saying.{null_said}
use Rattle.spk_edge.specs.View.{NodeData, change_view}
use Rattle.spk_edge.proofs.Drains.{get-view}
use Rattle.spk_edge.proofs.Filled.{none-pushed, pushed-at, pushed-total}
use Rattle.spk_edge.proofs.Flushed.{kept-is, kept-none, kept-there, kept_so, some-same}
use Rattle.spk_edge.proofs.node.EdgeNode.push_kept.Goals as goal

pub returns-then-total-limit : goal.returns-then-total-limit
returns-then-total-limit c =
    let n = c.args.self.now in
    let x = c.in-Some.change.now in
    let there : slice_get n.standing.asked.store.items c.args.place ≡ Some (change_view x) =
    ap (λ (n : NodeData). slice_get n.standing.asked.store.items c.args.place) (sym c.self.view_is)
    ∙ get-view c.self.inside.store.items c.args.place
    ∙ ap (option_map change_view) (sym c.get.ensures ∙ ap option_copied c.in-Some.is) in
    let old = map metric_view c.args.metrics.now.items in
    let value = option_map content_of c.in_ok-metric.metric.value in
    let said = kept_so x.alias x.time (null_said c.is_none.result) value in
    let row = kept-is n.standing.asked.book n.standing.asked.store.items c.args.place x.owner x.alias x.time x.value c.is_none.result value there c.is_none.ensures
    (ap (λ (m : MetricData). m.value) c.in_ok-metric.ensures) in
    pushed-at c.args.size c.args.limit c.saturating_add-total.result old old (all_kept n.standing.asked) c.args.place said row
    (record {
      is = pushed-total c.args.size c.whole_size.result c.saturating_add-total.result said c.whole_size.ensures c.saturating_add-total.ensures;
      pushed = λ within. absurd (let over = c.if-total-limit.true in omega (arith, over, within));
      past = λ over. refl;
    })

pub returns : goal.returns
returns c =
    let n = c.args.self.now in
    let x = c.in-Some.change.now in
    let there : slice_get n.standing.asked.store.items c.args.place ≡ Some (change_view x) =
    ap (λ (n : NodeData). slice_get n.standing.asked.store.items c.args.place) (sym c.self.view_is)
    ∙ get-view c.self.inside.store.items c.args.place
    ∙ ap (option_map change_view) (sym c.get.ensures ∙ ap option_copied c.in-Some.is) in
    let old = map metric_view c.args.metrics.now.items in
    let value = option_map content_of c.in_ok-metric.metric.value in
    let said = kept_so x.alias x.time (null_said c.is_none.result) value in
    let row = kept-is n.standing.asked.book n.standing.asked.store.items c.args.place x.owner x.alias x.time x.value c.is_none.result value there c.is_none.ensures
    (ap (λ (m : MetricData). m.value) c.in_ok-metric.ensures) in
    let same : metric_view c.in_ok-metric.metric ≡ said =
    c.in_ok-metric.ensures ∙ some-same _ said (sym (kept-there n.standing.asked.book n.standing.asked.store.items c.args.place (change_view x) there) ∙ row) in
    pushed-at c.args.size c.args.limit c.saturating_add-total.result old (map metric_view c.push.new.self.items) (all_kept n.standing.asked) c.args.place said row
    (record {
      is = pushed-total c.args.size c.whole_size.result c.saturating_add-total.result said c.whole_size.ensures c.saturating_add-total.ensures;
      pushed = λ within. ap (map metric_view) c.in_ok-push.ensures.items ∙ map_push metric_view c.args.metrics.now.items c.in_ok-metric.metric ∙ ap (λ (m : MetricData). old ++ m ∷ []) same;
      past = λ over. absurd (let within = c.if-total-limit.false in omega (arith, over, within));
    })

pub returns-in_default : goal.returns-in_default
returns-in_default c =
    let n = c.args.self.now in
    let none : slice_get n.standing.asked.store.items c.args.place ≡ None =
    ap (λ (n : NodeData). slice_get n.standing.asked.store.items c.args.place) (sym c.self.view_is)
    ∙ get-view c.self.inside.store.items c.args.place
    ∙ ap (option_map change_view) (sym c.get.ensures ∙ ap option_copied c.in_default.is) in
    none-pushed c.args.size c.args.limit (map metric_view c.args.metrics.now.items) (all_kept n.standing.asked) c.args.place
    (kept-none n.standing.asked.book n.standing.asked.store.items c.args.place none)
