use Rattle.std.proofs.Common.{Ok, Err, Result}
use Rattle.std.specs.Prelude.{OnOk}
use Rattle.std.specs.Ordering.{nat_cmp}
use Rattle.std.specs.BTreeMap.{get}
use Rattle.spk_topics.specs.Nodes.{child_of, rows_of, up_of}
use Rattle.spk_topics.specs.Walk.{front_of}
use Rattle.spk_topics.proofs.WalkLemmas.{extends_more, front_kept, settled_from}
use Rattle.spk_topics.proofs.nodes.Nodes.step_from.Goals as goal

on_ok : {A E : Type 0} (r : Result A E) (P Q : Type 0) → OnOk r P → (P → Q) → OnOk r Q
on_ok (Ok a) P Q p f = f p
on_ok (Err e) P Q p f = tt

pub returns-clause-next : goal.returns-clause-next
returns-clause-next c =
    on_ok c.enter-2.result _ _ c.enter-2.ensures.ok
    (λ second. extends_more c.args.next.now.items c.enter.new.next.items c.enter-2.new.next.items c.in_ok-enter.ensures.ok.extends second.extends)

pub returns-clause-settled : goal.returns-clause-settled
returns-clause-settled c =
    on_ok c.enter-2.result _ _ c.enter-2.ensures.ok
    (λ second rest.
    let n = c.args.self.now in
    settled_from (rows_of n) c.args.topic.now (child_of n) (up_of n) c.requires.sound.tree c.requires.sound.empty (get nat_cmp c.gather_below.new.found) (front_of c.enter-2.new.next.items) c.args.number c.args.level.now rest
    c.in_ok-gather_below.ensures.taken
    (λ m e. let (left, is, among) = c.in_ok-enter.ensures.ok.reaches m e in (left, is, front_kept c.enter.new.next.items c.enter-2.new.next.items (m, left) second.extends among))
    second.reaches)
