use Rattle.std.proofs.Common.{◌≡◌, fold, length}
use Rattle.spk_frames.specs.Sum.{one_byte}
use Rattle.spk_frames.proofs.sum.crc32.Given as goal

-- the bytes that are left lead to the same register
abbrev pub invariant-loop-rest : goal.invariant-loop-rest
invariant-loop-rest l = fold one_byte l.register l.rest ≡ fold one_byte 0xffff_ffff l.bytes

abbrev pub decreases-loop-rest : goal.decreases-loop-rest
decreases-loop-rest l = length l.rest
