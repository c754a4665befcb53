use Rattle.std.proofs.Common.{◌≡◌, ◌∙◌, ap, sym, List, [], map, arith}
use Rattle.std.specs.Vec.Iter.{into_iter_items}
use Rattle.spk_store.specs.declared.change.Change.{Change}
use Rattle.spk_edge.specs.Changing.{with_store}
use Rattle.spk_edge.specs.Several.{push_each}
use Rattle.spk_edge.specs.View.{change_view}
use Rattle.spk_edge.proofs.Sets.{keep-on, nothing-left}
use Rattle.spk_edge.proofs.node.EdgeNode.keep_each.Goals as goal

pub loop-change-init : goal.loop-change-init
loop-change-init c = ap (λ (l : List Change). with_store c.args.self.now (push_each c.args.self.now.standing.asked.store (map change_view l))) c.into_iter-change-iterator.ensures.into_iter_gives.0

pub loop-change-preserved : goal.loop-change-preserved
loop-change-preserved c = keep-on _ _ _ _ _ _ c.keep_one.ensures c.in-Some.ensures.steps.0 c.loop-change.invariant

pub returns : goal.returns
returns c =
    let done : into_iter_items c.loop-change.change-iterator ≡ [] = nothing-left (into_iter_items c.loop-change.change-iterator) (omega (arith, c.in-None.ensures.steps.0, c.loop-change.change-iterator.rest.ok.0)) in
    ap (λ (l : List Change). with_store c.loop-change.self (push_each c.loop-change.self.standing.asked.store (map change_view l))) (sym done) ∙ c.loop-change.invariant
