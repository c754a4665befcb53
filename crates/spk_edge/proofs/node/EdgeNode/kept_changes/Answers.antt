use Rattle.std.proofs.Common.{◌∙◌, ◌++◌, ◌∷◌, [], ap, map, take}
use Rattle.std.proofs.lemmas.List.{map_push}
use Rattle.spk_edge_rules.specs.Inputs.{ChangeData}
use Rattle.spk_edge.specs.Several.{all_at, pair_view, pairs}
use Rattle.spk_edge.specs.View.{change_view}
use Rattle.spk_edge.proofs.Sets.{kept-more, pairs-all, pairs-more}
use Rattle.spk_edge.proofs.node.EdgeNode.kept_changes.Goals as goal

pub loop-change-init : goal.loop-change-init
loop-change-init c = ap (map change_view) c.in_ok-kept.ensures.items

pub loop-change-preserved : goal.loop-change-preserved
loop-change-preserved c =
    let b = c.args.self.now.standing.asked.book in
    let i = c.loop-change.change-index in
    let x = c.change-item.result in
    kept-more b c.args.now (map change_view c.loop-change.kept.items) (map change_view c.push.new.self.items) _ (pairs (take i c.args.changes.now)) (pair_view x)
    (pairs-more c.args.changes.now i x c.loop-change-test.true c.change-item.is) c.loop-change.invariant
    (ap (map change_view) c.in_ok-push.ensures.items ∙ map_push change_view c.loop-change.kept.items c.in_ok-kept_change.field-0
    ∙ ap (λ (y : ChangeData). map change_view c.loop-change.kept.items ++ y ∷ []) c.in_ok-kept_change.ensures)

pub returns : goal.returns
returns c = c.loop-change.invariant ∙ ap (all_at c.args.self.now.standing.asked.book c.args.now) (pairs-all c.args.changes.now c.loop-change.change-index c.loop-change-test.false)
