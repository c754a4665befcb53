use Rattle.std.proofs.Common.{◌≡◌}
use Rattle.spk_clients.specs.Client.{most_number}
use Rattle.spk_clients.proofs.Moments.{soonest_among}
use Rattle.spk_clients.proofs.ending.soonest_of.Given as goal

-- the first moment of all is the first of what stands noted and of the rest
abbrev pub invariant-loop-entry : goal.invariant-loop-entry
invariant-loop-entry l = soonest_among l.soonest l.entry-iterator ≡ soonest_among most_number l.table.entries
