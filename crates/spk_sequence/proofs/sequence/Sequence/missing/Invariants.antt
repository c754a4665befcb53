use Rattle.std.proofs.Common.{◌≡◌, ℕ, ◌<◌, false, is_some}
use Rattle.spk_sequence.specs.Data.{held_at}
use Rattle.spk_sequence.proofs.sequence.Sequence.missing.Given as goal

-- no place so far holds a message
abbrev pub invariant-loop-place : goal.invariant-loop-place
invariant-loop-place l = (k : ℕ) → k < l.place → is_some (held_at l.self.held k) ≡ false
