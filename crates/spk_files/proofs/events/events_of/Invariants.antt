use Rattle.std.proofs.Common.{length, ◌≡◌}
use Rattle.spk_files.proofs.events.events_of.Given as goal

-- one for each number
abbrev pub invariant-loop-index : goal.invariant-loop-index
invariant-loop-index l = length l.events.items ≡ l.index
