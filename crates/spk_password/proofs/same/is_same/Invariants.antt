use Rattle.std.proofs.Common.{◌≡◌, ℕ, ◌*◌, ◌<◌, ◌≤◌, get_or}
use Rattle.spk_password.proofs.same.is_same.Given as goal

abbrev pub invariant-loop-i : goal.invariant-loop-i
invariant-loop-i l =
    (l.differing ≤ 255 * l.i) × (l.differing ≡ 0 → (k : ℕ) → k < l.i → get_or l.one k 0 ≡ get_or l.other k 0)
    × (((k : ℕ) → k < l.i → get_or l.one k 0 ≡ get_or l.other k 0) → l.differing ≡ 0)
