use Rattle.std.proofs.Common.{◌≡◌, ℕ, ◌+◌, ◌-◌, ◌%◌, ◌<◌, ◌≤◌, ◌++◌, length, map, Some, vec_len, vec_capacity}
use Rattle.std.specs.List.{range_with_len}
use Rattle.spk_sequence.specs.Step.{ahead}
use Rattle.spk_order.specs.Ordered.{kept_at}
use Rattle.spk_order.proofs.slots.take_run.Given as goal

abbrev pub invariant-loop-distance : goal.invariant-loop-distance
invariant-loop-distance g l =
    (length l.slots.items ≡ 256) × (vec_len l.consumed + l.count ≤ vec_capacity l.consumed + l.distance)
    × (map Some l.consumed.items ≡ map Some l.fn.consumed.items ++ map (λ i. kept_at l.fn.slots.items ((l.number + i) % 256)) (range_with_len 1 (l.distance - 1)))
    × ((x : ℕ) → x < 256 → (0 < ahead x l.number → l.distance ≤ ahead x l.number) → kept_at l.slots.items x ≡ kept_at l.fn.slots.items x)
    × (l.distance - 1 ≤ l.count - 1)
