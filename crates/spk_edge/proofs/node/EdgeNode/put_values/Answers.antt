use Rattle.std.proofs.Common.{◌≡◌, ◌∙◌, ap, sym, List, [], ℕ, Option, arith}
use Rattle.std.specs.Vec.Iter.{into_iter_items}
use Rattle.spk_payload.specs.declared.typing.Value.{Value}
use Rattle.spk_edge.specs.Changing.{with_book}
use Rattle.spk_edge.specs.Several.{pairs, set_each}
use Rattle.spk_edge.proofs.Sets.{nothing-left, set-on}
use Rattle.spk_edge.proofs.node.EdgeNode.put_values.Goals as goal

pub loop-alias-init : goal.loop-alias-init
loop-alias-init c = ap (λ (l : List (ℕ × Option Value)). with_book c.args.self.now (set_each c.args.self.now.standing.asked.book (pairs l))) c.into_iter-alias-iterator.ensures.into_iter_gives.0

pub loop-alias-preserved : goal.loop-alias-preserved
loop-alias-preserved c = set-on _ _ _ _ _ _ _ c.put_value.ensures c.in-Some.ensures.steps.0 c.loop-alias.invariant

pub returns : goal.returns
returns c =
    let done : into_iter_items c.loop-alias.alias-iterator ≡ [] = nothing-left (into_iter_items c.loop-alias.alias-iterator) (omega (arith, c.in-None.ensures.steps.0, c.loop-alias.alias-iterator.rest.ok.0)) in
    ap (λ (l : List (ℕ × Option Value)). with_book c.loop-alias.self (set_each c.loop-alias.self.standing.asked.book (pairs l))) (sym done) ∙ c.loop-alias.invariant
