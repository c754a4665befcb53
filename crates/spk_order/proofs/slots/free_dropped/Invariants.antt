use Rattle.std.proofs.Common.{◌≡◌, ℕ, ◌<◌, ◌≤◌, length}
use Rattle.spk_order.specs.Ordered.{kept_at}
use Rattle.spk_order.specs.Step.{left_at}
use Rattle.spk_order.proofs.slots.free_dropped.Given as goal

abbrev pub invariant-loop-number : goal.invariant-loop-number
invariant-loop-number g l =
    (length l.slots.items ≡ 256) × ((x : ℕ) → x < l.number → kept_at l.slots.items x ≡ left_at l.sequence l.fn.slots.items x)
    × ((x : ℕ) → l.number ≤ x → kept_at l.slots.items x ≡ kept_at l.fn.slots.items x)
