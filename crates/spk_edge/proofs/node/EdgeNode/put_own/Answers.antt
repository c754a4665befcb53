use Rattle.std.proofs.Common.{◌≡◌, ◌∙◌, ◌++◌, ap, sym, subst, Option, Some}
use Rattle.std.specs.Prelude.{IfSome}
use Rattle.std.specs.Option.{option_map}
use Rattle.spk_payload.specs.Meaning.{MetricData}
use Rattle.spk_payload.specs.Spelling.{MetricFits, if_there}
use Rattle.spk_payload.specs.View.{content_of}
use Rattle.spk_device.specs.Owned.{owned_at}
use Rattle.spk_device.specs.View.{gauge_view}
use Rattle.spk_edge.specs.Rows.{spelled}
use Rattle.spk_edge.specs.View.{NodeData}
use Rattle.spk_edge.proofs.Born.{row-is}
use Rattle.spk_edge.proofs.Written.{on-ok}
use Rattle.spk_edge.proofs.node.EdgeNode.put_own.Goals as goal

pub returns-clause-ok : goal.returns-clause-ok
returns-clause-ok c =
    let b = c.args.self.now.standing.asked.book in
    let g = c.in-Some.gauge.now in
    let found : owned_at b c.args.owner c.args.place ≡ Some (c.in-Some.alias, gauge_view g) =
    ap (λ (n : NodeData). owned_at n.standing.asked.book c.args.owner c.args.place) (sym c.self.view_is) ∙ c.in-Some.ensures.some in
    let row = row-is b c.args.stamp c.args.owner c.args.place c.in-Some.alias g c.as_str.result.now c.is_none.result (option_map content_of c.in_ok-value.value) found c.as_str.ensures.value c.is_none.ensures c.in_ok-value.ensures in
    on-ok c.put.result (λ is. is ∙ ap (λ (o : Option MetricData). c.args.out.now.items ++ if_there spelled o) (sym row)) c.put.ensures.ok

pub returns-clause-fits : goal.returns-clause-fits
returns-clause-fits c =
    let b = c.args.self.now.standing.asked.book in
    let g = c.in-Some.gauge.now in
    let found : owned_at b c.args.owner c.args.place ≡ Some (c.in-Some.alias, gauge_view g) =
    ap (λ (n : NodeData). owned_at n.standing.asked.book c.args.owner c.args.place) (sym c.self.view_is) ∙ c.in-Some.ensures.some in
    let row = row-is b c.args.stamp c.args.owner c.args.place c.in-Some.alias g c.as_str.result.now c.is_none.result (option_map content_of c.in_ok-value.value) found c.as_str.ensures.value c.is_none.ensures c.in_ok-value.ensures in
    on-ok c.put.result (λ fits. subst (λ (o : Option MetricData). IfSome o MetricFits) (sym row) fits) c.put.ensures.fits
