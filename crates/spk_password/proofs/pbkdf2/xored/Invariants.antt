use Rattle.std.proofs.Common.{◌≡◌, ℕ, ◌<◌, length, get_or, bit_xor}
use Rattle.spk_password.proofs.pbkdf2.xored.Given as goal

abbrev pub invariant-loop-i : goal.invariant-loop-i
invariant-loop-i l = (length l.out ≡ 32) × ((k : ℕ) → k < l.i → get_or l.out k 0 ≡ bit_xor (get_or l.one k 0) (get_or l.other k 0))
