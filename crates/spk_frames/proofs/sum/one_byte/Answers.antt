use Rattle.std.proofs.Common.{ap, ◌∙◌, arith}
use Rattle.spk_frames.specs.Sum.{one_byte}
use Rattle.spk_frames.proofs.Sums.{by_table}
use Rattle.spk_frames.proofs.sum.one_byte.Goals as goal

pub returns : goal.returns
returns c = by_table c.args.register c.from.result (omega (arith, c.from.ensures, c.ranges.byte.fits)) ∙ ap (one_byte c.args.register) c.from.ensures
