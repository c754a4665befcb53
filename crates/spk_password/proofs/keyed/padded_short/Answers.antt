use Rattle.std.proofs.Common.{◌∙◌, ap, arith, get_or, bit_xor}
use Rattle.std.proofs.lemmas.List.{length-set}
use Rattle.std.proofs.lemmas.List.FromFn.{fill_by_all}
use Rattle.spk_password.proofs.Turned.{put}
use Rattle.spk_password.proofs.keyed.padded_short.Goals as goal

pub loop-i-preserved : goal.loop-i-preserved
loop-i-preserved c =
    let y = bit_xor c.byte_at.result c.args.byte in (
      length-set c.loop-i.block c.loop-i.i y ∙ c.loop-i.invariant.0,
      put (λ i. bit_xor (get_or c.args.key.now i 0) c.args.byte) c.loop-i.block c.loop-i.i y
          (omega (arith, c.loop-i.invariant.0, c.loop-i-test.true)) (ap (λ b. bit_xor b c.args.byte) c.byte_at.ensures) c.loop-i.invariant.1,
    )

pub returns : goal.returns
returns c =
    fill_by_all (λ i. bit_xor (get_or c.args.key.now i 0) c.args.byte) c.loop-i.block 64 0 c.loop-i.invariant.0
    (λ k below. c.loop-i.invariant.1 k (omega (arith, below, c.loop-i-test.false)))
