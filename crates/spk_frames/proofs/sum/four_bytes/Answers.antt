use Rattle.std.proofs.Common.{arith}
use Rattle.std.specs.Prelude.{bit_xor}
use Rattle.std.proofs.lemmas.Nat.{xor_lt}
use Rattle.spk_frames.proofs.Sums.{by_tables}
use Rattle.spk_frames.proofs.sum.four_bytes.Goals as goal

pub returns : goal.returns
returns c = by_tables (bit_xor c.args.register c.args.word) (xor_lt 32 c.args.register c.args.word (omega (arith, c.ranges.register.fits)) (omega (arith, c.ranges.word.fits)))
