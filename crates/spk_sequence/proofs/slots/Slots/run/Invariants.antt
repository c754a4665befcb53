use Rattle.std.proofs.Common.{◌≡◌, ℕ, ◌<◌, true, is_some}
use Rattle.spk_sequence.specs.Slots.{place_at}
use Rattle.spk_sequence.proofs.slots.Slots.run.Given as goal

-- the slots so far are full
abbrev pub invariant-loop-place : goal.invariant-loop-place
invariant-loop-place l = (k : ℕ) → k < l.place → is_some (place_at l.self l.from k) ≡ true
