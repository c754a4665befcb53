use Rattle.std.proofs.Common.{◌≡◌, ◌+◌, List, [], ◌∷◌, ◌++◌, length, sym, ◌∙◌, ap, arith, subst, length-append}
use Rattle.spk_ingress.specs.Passes.{AllPutInto, AllFresh}
use Rattle.spk_ingress.specs.declared.channel.PutPass.{PutPass}
use Rattle.spk_ingress.proofs.Opening.{put_into_snoc, fresh_snoc}
use Rattle.spk_ingress.proofs.channel.passes_of.Goals as goal

pub loop-sender-preserved : goal.loop-sender-preserved
loop-sender-preserved c =
    let old : List PutPass = c.loop-sender.passes.items in
    let p : PutPass = c.next_pass-pass.result in
    let now : c.push_reserved.new.self.items ≡ old ++ p ∷ [] = c.push_reserved.ensures.items ∙ ap (λ ps. ps ++ p ∷ []) c.in_ok-reserve.ensures.items in
    let sized : length old ≡ c.loop-sender.sender = c.loop-sender.invariant.sized in
    let at : 0 + length old ≡ c.loop-sender.sender = omega arith in
    record {
      taker = c.next_pass-pass.ensures.taker.0;
      counts = c.next_pass-pass.ensures.taker.1 ∙ c.loop-sender.invariant.counts;
      sized = (let l : length (old ++ p ∷ []) ≡ length old + 1 = length-append old (p ∷ []) in ap length now ∙ l ∙ ap (λ n. n + 1) sized);
      into = subst (AllPutInto c.args.ingress.now) (sym now) (put_into_snoc c.args.ingress.now old p c.loop-sender.invariant.into c.next_pass-pass.ensures.pass.0);
      fresh = subst (AllFresh 0) (sym now) (fresh_snoc 0 old p c.loop-sender.invariant.fresh (c.next_pass-pass.ensures.pass.1 ∙ sym at) c.next_pass-pass.ensures.pass.2);
    }
