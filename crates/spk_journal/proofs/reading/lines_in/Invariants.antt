use Rattle.std.proofs.Common.{◌≤◌, map, drop, take}
use Rattle.spk_journal.specs.File.{Says}
use Rattle.spk_journal.proofs.reading.lines_in.Given as goal

-- the bytes before this place are these lines, and then what stands from `start` on
pub record Holds (l : goal.Live-loop-place) : Type 0 where
  pub within : l.start ≤ l.place
  pub says : Says (take l.place l.bytes) (map (λ line. line.now) l.lines.items) (drop l.start (take l.place l.bytes))

abbrev pub invariant-loop-place : goal.invariant-loop-place
invariant-loop-place l = Holds l
