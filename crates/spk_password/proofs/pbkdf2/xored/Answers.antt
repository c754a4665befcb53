use Rattle.std.proofs.Common.{◌∙◌, refl, arith, get_or, bit_xor}
use Rattle.std.proofs.lemmas.List.{length-set}
use Rattle.std.proofs.lemmas.List.FromFn.{fill_by_all}
use Rattle.spk_password.proofs.Turned.{put}
use Rattle.spk_password.proofs.pbkdf2.xored.Goals as goal

pub loop-i-preserved : goal.loop-i-preserved
loop-i-preserved c =
    let y = bit_xor (get_or c.args.one.now c.loop-i.i 0) (get_or c.args.other.now c.loop-i.i 0) in (
      length-set c.loop-i.out c.loop-i.i y ∙ c.loop-i.invariant.0,
      put (λ i. bit_xor (get_or c.args.one.now i 0) (get_or c.args.other.now i 0)) c.loop-i.out c.loop-i.i y
          (omega (arith, c.loop-i.invariant.0, c.loop-i-test.true)) refl c.loop-i.invariant.1,
    )

pub returns : goal.returns
returns c =
    fill_by_all (λ i. bit_xor (get_or c.args.one.now i 0) (get_or c.args.other.now i 0)) c.loop-i.out 32 0 c.loop-i.invariant.0
    (λ k below. c.loop-i.invariant.1 k (omega (arith, below, c.loop-i-test.false)))
