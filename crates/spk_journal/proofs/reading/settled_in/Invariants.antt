use Rattle.std.proofs.Common.{◌≡◌, ◌≤◌, map, drop, take}
use Rattle.spk_journal.specs.File.{waiting}
use Rattle.spk_journal.proofs.reading.settled_in.Given as goal

-- of the lines before this place those behind `settled` wait
pub record Holds (l : goal.Live-loop-place) : Type 0 where
  pub within : l.settled ≤ l.place
  pub wait : drop l.settled (take l.place (map (λ line. line.now) l.lines)) ≡ waiting (take l.place (map (λ line. line.now) l.lines))

abbrev pub invariant-loop-place : goal.invariant-loop-place
invariant-loop-place l = Holds l
