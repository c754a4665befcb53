use Rattle.std.proofs.Common.{◌≡◌, ◌≤◌, replicate, None, vec_len, vec_capacity}
use Rattle.spk_order.proofs.slots.empty_slots.Given as goal

abbrev pub invariant-loop-slot : goal.invariant-loop-slot
invariant-loop-slot g l = (l.slots.items ≡ replicate l._slot None) × (vec_len l.slots ≡ l._slot) × (256 ≤ vec_capacity l.slots)
