use Rattle.std.proofs.Common.{◌≡◌, ◌∷◌, [], Some, arith, below_more, subst}
use Rattle.std.specs.Prelude.{slice_get}
use Rattle.std.specs.Ordering.{nat_cmp}
use Rattle.std.specs.BTreeMap.{get}
use Rattle.std.proofs.lemmas.Option.{slice_get_within}
use Rattle.spk_topics.specs.declared.walk.Ahead.{Ahead}
use Rattle.spk_topics.specs.Nodes.{rows_of, child_of, up_of}
use Rattle.spk_topics.specs.Walk.{Taken, Way, front_of}
use Rattle.spk_topics.proofs.WalkLemmas.{arrived, gains_more, taken_more, this_ahead, way_at}
use Rattle.spk_topics.proofs.nodes.Nodes.arrive.Goals as goal

pub loop-ahead-preserved : goal.loop-ahead-preserved
loop-ahead-preserved c =
    let rows = rows_of c.args.self.now in
    let child = child_of c.args.self.now in
    let topic = c.args.topic.now in
    let a = get nat_cmp c.loop-ahead.found in
    let b = get nat_cmp c.gather_at.new.found in
    let d = get nat_cmp c.gather_below.new.found in
    let more = gains_more rows topic a b d c.in_ok-gather_at.ensures.gains c.in_ok-gather_below.ensures.gains in
    record {
      gains = gains_more rows topic (get nat_cmp c.args.found.now) a d c.loop-ahead.invariant.gains more;
      taken = below_more (λ k. (ahead : Ahead) → slice_get c.args.front.now k ≡ Some ahead → Taken rows topic d (Some ahead.number) × Taken rows topic d (child ahead.number (35 ∷ []))) c.loop-ahead.ahead-index
          (λ k lt ahead h. let t = c.loop-ahead.invariant.taken k lt ahead h in (taken_more rows topic a d (Some ahead.number) more t.0, taken_more rows topic a d (child ahead.number (35 ∷ [])) more t.1))
          (λ ahead h.
          subst (λ (x : Ahead). Taken rows topic d (Some x.number) × Taken rows topic d (child x.number (35 ∷ []))) (this_ahead c.args.front.now c.loop-ahead.ahead-index ahead _ h)
          (taken_more rows topic b d _ c.in_ok-gather_below.ensures.gains c.in_ok-gather_at.ensures.taken, c.in_ok-gather_below.ensures.taken));
    }

pub returns-clause-all : goal.returns-clause-all
returns-clause-all c =
    let n = c.args.self.now in
    arrived (rows_of n) c.args.topic.now (child_of n) (up_of n) c.requires.sound.tree c.requires.sound.empty (get nat_cmp c.args.found.now) (get nat_cmp c.loop-ahead.found) (front_of c.args.front.now) c.loop-ahead.invariant.gains
    (λ k way h.
    let (ahead, there, same) = way_at c.args.front.now k way h in
    let within = slice_get_within c.args.front.now k ahead there in
    subst (λ (w : Way). Taken (rows_of n) c.args.topic.now (get nat_cmp c.loop-ahead.found) (Some w.0) × Taken (rows_of n) c.args.topic.now (get nat_cmp c.loop-ahead.found) (child_of n w.0 (35 ∷ []))) same
    (c.loop-ahead.invariant.taken k (omega arith) ahead there))
