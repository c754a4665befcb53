use Rattle.std.proofs.Common.{◌≡◌, ◌∷◌, List, ℕ, Some, arith, below_more, subst}
use Rattle.std.specs.Prelude.{slice_get}
use Rattle.std.specs.Ordering.{nat_cmp}
use Rattle.std.specs.BTreeMap.{get}
use Rattle.std.proofs.lemmas.Option.{slice_get_within}
use Rattle.spk_topics.specs.declared.walk.Ahead.{Ahead}
use Rattle.spk_topics.specs.Nodes.{rows_of, up_of}
use Rattle.spk_topics.specs.Walk.{IsSettled, front_of, way_of}
use Rattle.spk_topics.proofs.WalkLemmas.{gains_more, passed, settled_later, this_ahead, way_at}
use Rattle.spk_topics.proofs.nodes.Nodes.pass.Goals as goal

pub loop-ahead-preserved : goal.loop-ahead-preserved
loop-ahead-preserved c =
    let n = c.args.self.now in
    let rows = rows_of n in
    let up = up_of n in
    let topic = c.args.topic.now in
    let level = c.args.level.now in
    let a = get nat_cmp c.loop-ahead.found in
    let b = get nat_cmp c.step.new.found in
    record {
      gains = gains_more rows topic (get nat_cmp c.args.found.now) a b c.loop-ahead.invariant.gains c.in_ok-step.ensures.gains;
      settled = below_more (λ k. (ahead : Ahead) → slice_get c.args.front.now k ≡ Some ahead → (rest : List (List ℕ)) → IsSettled rows topic up b (front_of c.step.new.next.items) (way_of ahead) (level ∷ rest) rest) c.loop-ahead.ahead-index
          (λ k lt ahead h rest.
          settled_later rows topic up a b c.loop-ahead.next.items c.step.new.next.items (way_of ahead) (level ∷ rest) rest c.in_ok-step.ensures.gains c.in_ok-step.ensures.next (c.loop-ahead.invariant.settled k lt ahead h rest))
          (λ ahead h rest.
          subst (λ (x : Ahead). IsSettled rows topic up b (front_of c.step.new.next.items) (way_of x) (level ∷ rest) rest) (this_ahead c.args.front.now c.loop-ahead.ahead-index ahead _ h) (c.in_ok-step.ensures.settled rest));
    }

pub returns-clause-way : goal.returns-clause-way
returns-clause-way c = λ rest.
    let n = c.args.self.now in
    passed (rows_of n) c.args.topic.now (up_of n) (get nat_cmp c.args.found.now) (get nat_cmp c.loop-ahead.found) (front_of c.args.front.now) (front_of c.loop-ahead.next.items) c.args.level.now rest c.loop-ahead.invariant.gains
    (λ k way h.
    let (ahead, there, same) = way_at c.args.front.now k way h in
    let within = slice_get_within c.args.front.now k ahead there in
    subst (λ w. IsSettled (rows_of n) c.args.topic.now (up_of n) (get nat_cmp c.loop-ahead.found) (front_of c.loop-ahead.next.items) w (c.args.level.now ∷ rest) rest) same
    (c.loop-ahead.invariant.settled k (omega arith) ahead there rest))
