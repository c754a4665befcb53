use Rattle.std.proofs.Common.{◌≡◌, take, fold}
use Rattle.spk_frames.specs.Sum.{one_byte}
use Rattle.spk_frames.proofs.sum.each_byte.Given as goal

-- the register behind the bytes before this place
abbrev pub invariant-loop-byte : goal.invariant-loop-byte
invariant-loop-byte l = l.register ≡ fold one_byte l.fn.register (take l.byte-index l.bytes)
