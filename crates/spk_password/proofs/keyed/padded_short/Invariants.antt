use Rattle.std.proofs.Common.{◌≡◌, ℕ, ◌<◌, length, get_or, bit_xor}
use Rattle.spk_password.proofs.keyed.padded_short.Given as goal

abbrev pub invariant-loop-i : goal.invariant-loop-i
invariant-loop-i l = (length l.block ≡ 64) × ((k : ℕ) → k < l.i → get_or l.block k 0 ≡ bit_xor (get_or l.key k 0) l.byte)
