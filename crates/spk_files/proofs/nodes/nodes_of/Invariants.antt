use Rattle.std.proofs.Common.{length, ◌≡◌}
use Rattle.spk_files.proofs.nodes.nodes_of.Given as goal

-- one for each number
abbrev pub invariant-loop-index : goal.invariant-loop-index
invariant-loop-index l = length l.setups.items ≡ l.index
