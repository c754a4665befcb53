use Rattle.std.proofs.Common.{◌≡◌, ◌∙◌, ap, sym, [], arith}
use Rattle.std.specs.Vec.Iter.{into_iter_items}
use Rattle.spk_edge_app.specs.Step.{after_pushes}
use Rattle.spk_edge_app.proofs.Queues.{nothing_left, pushed_on}
use Rattle.spk_edge_app.proofs.writes.Writes.push_all.Goals as goal

pub loop-write-init : goal.loop-write-init
loop-write-init c = ap (after_pushes c.args.self.now) c.into_iter-write-iterator.ensures.into_iter_gives.0

pub loop-write-preserved : goal.loop-write-preserved
loop-write-preserved c =
    pushed_on _ _ _ _ _ _ c.push.ensures c.in-Some.ensures.steps.0 c.loop-write.invariant

pub returns : goal.returns
returns c =
    let done : into_iter_items c.loop-write.write-iterator ≡ [] = nothing_left (into_iter_items c.loop-write.write-iterator) (omega (arith, c.in-None.ensures.steps.0, c.loop-write.write-iterator.rest.ok.0)) in
    ap (after_pushes c.loop-write.self) (sym done) ∙ c.loop-write.invariant
