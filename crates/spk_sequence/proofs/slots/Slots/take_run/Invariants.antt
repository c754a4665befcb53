use Rattle.std.proofs.Common.{◌≡◌, ℕ, ◌<◌, true, is_some}
use Rattle.spk_sequence.specs.Slots.{place_at, IsClearedTo}
use Rattle.spk_sequence.proofs.slots.Slots.take_run.Given as goal

-- the slots so far were full, and are empty now
abbrev pub invariant-loop-place : goal.invariant-loop-place
invariant-loop-place l = record {
  full : (k : ℕ) → k < l.place → is_some (place_at l.fn.self l.from k) ≡ true;
  cleared : IsClearedTo l.fn.self l.self l.from l.place;
}
