use Rattle.std.proofs.Common.{length, ◌≡◌}
use Rattle.spk_files.proofs.world.hosts_of.Given as goal

-- one for each number
abbrev pub invariant-loop-number : goal.invariant-loop-number
invariant-loop-number l = length l.hosts.items ≡ l.number
