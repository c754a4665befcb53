use Rattle.std.proofs.Common.{◌≡◌, ◌+◌, ◌<◌, true≢false, [], ◌∷◌, ◌++◌, length, sym, ◌∙◌, ap, arith, subst, append_assoc, length-append}
use Rattle.spk_ingress.specs.Lanes.{share_of}
use Rattle.spk_ingress.specs.Passes.{PutsInto, AllPutInto, AllTaken, frames_taken, frames_put}
use Rattle.spk_ingress.specs.declared.channel.PutPass.{PutPass}
use Rattle.spk_ingress.proofs.Settling.{put_into_front, taken_middle, marked_more}
use Rattle.spk_ingress.proofs.channel.Ingress.takes_all.Goals as goal

pub takes_in-requires-clause-pass : goal.takes_in-requires-clause-pass
takes_in-requires-clause-pass c =
    (put_into_front c.args.self.now c.pop.new.self.items c.in-Some.pass (subst (AllPutInto c.args.self.now) c.in-Some.ensures.items c.loop-pass.invariant.into)).1

pub returns-then-not-takes_in-clause-only : goal.returns-then-not-takes_in-clause-only
returns-then-not-takes_in-clause-only c is all =
    let p : PutPass = c.in-Some.pass in
    let split : c.args.passes.items ≡ c.pop.new.self.items ++ p ∷ c.loop-pass.invariant.done =
    c.loop-pass.invariant.split ∙ ap (λ ps. ps ++ c.loop-pass.invariant.done) c.in-Some.ensures.items ∙ append_assoc c.pop.new.self.items (p ∷ []) c.loop-pass.invariant.done in
    let whole : share_of p.sender (frames_taken c.args.taker.now) ≡ frames_put p = taken_middle (frames_taken c.args.taker.now) c.pop.new.self.items c.loop-pass.invariant.done p (subst (AllTaken (frames_taken c.args.taker.now)) split all) in
    let whole_now : share_of p.sender (frames_taken c.loop-pass.taker) ≡ frames_put p = ap (share_of p.sender) c.loop-pass.invariant.same ∙ whole in
    true≢false (sym (c.takes_in.ensures.only whole_now) ∙ c.if-not-takes_in.true)

pub index_mut-requires : goal.index_mut-requires
index_mut-requires c =
    let p : PutsInto c.args.self.now c.in-Some.pass = (put_into_front c.args.self.now c.pop.new.self.items c.in-Some.pass (subst (AllPutInto c.args.self.now) c.in-Some.ensures.items c.loop-pass.invariant.into)).1 in
    let below : c.in-Some.pass.sender < c.args.self.now.senders = p.below in
    let sized : length c.loop-pass.seen.items ≡ c.args.self.now.senders = c.loop-pass.invariant.marked.marked in
    omega (arith, c.loop-pass.seen.ok.0)

pub loop-pass-smaller : goal.loop-pass-smaller
loop-pass-smaller c =
    let l : length (c.pop.new.self.items ++ c.in-Some.pass ∷ []) ≡ length c.pop.new.self.items + 1 = length-append c.pop.new.self.items (c.in-Some.pass ∷ []) in
    let old : length c.loop-pass.passes.items ≡ length (c.pop.new.self.items ++ c.in-Some.pass ∷ []) = ap length c.in-Some.ensures.items in
    omega arith

pub loop-pass-preserved : goal.loop-pass-preserved
loop-pass-preserved c =
    let p : PutPass = c.in-Some.pass in
    let parts : AllPutInto c.args.self.now c.pop.new.self.items × PutsInto c.args.self.now p = put_into_front c.args.self.now c.pop.new.self.items p (subst (AllPutInto c.args.self.now) c.in-Some.ensures.items c.loop-pass.invariant.into) in
    record {
      done = p ∷ c.loop-pass.invariant.done;
      split = c.loop-pass.invariant.split ∙ ap (λ ps. ps ++ c.loop-pass.invariant.done) c.in-Some.ensures.items ∙ append_assoc c.pop.new.self.items (p ∷ []) c.loop-pass.invariant.done;
      taken = (ap (share_of p.sender) (sym c.loop-pass.invariant.same) ∙ c.takes_in.ensures.all c.if-not-takes_in.false, c.loop-pass.invariant.taken);
      marked = marked_more c.args.self.now c.loop-pass.seen.items p c.loop-pass.invariant.done parts.1.below c.loop-pass.invariant.marked;
      taker = c.takes_in.ensures.taker;
      same = c.takes_in.ensures.same.0 ∙ c.loop-pass.invariant.same;
      counts = c.takes_in.ensures.same.1 ∙ c.loop-pass.invariant.counts;
      into = parts.0;
    }
