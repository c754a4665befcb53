use Rattle.std.proofs.Common.{◌<◌, get_or, ◌∙◌, arith}
use Rattle.spk_frames.proofs.Sums.{four_on}
use Rattle.spk_frames.proofs.sum.crc32.Goals as goal

pub loop-rest-preserved : goal.loop-rest-preserved
loop-rest-preserved c =
    let rest = c.loop-rest.rest.now in
    let la : get_or rest 0 0 < 256 = omega arith in
    let lb : get_or rest 1 0 < 256 = omega arith in
    let lc : get_or rest 2 0 < 256 = omega arith in
    four_on c.loop-rest.register c.from_le_bytes.result c.four_bytes-register.result rest c.in-len4-up.len_at_least la lb lc c.from_le_bytes.ensures c.four_bytes-register.ensures ∙ c.loop-rest.invariant
