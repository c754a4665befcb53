use Rattle.std.proofs.Common.{◌≡◌}
use Rattle.spk_clients.proofs.Moments.{any_to_shut}
use Rattle.spk_clients.proofs.ending.to_shut_in.Given as goal

-- whether any of the rest is to be shut is whether any of all is
abbrev pub invariant-loop-entry : goal.invariant-loop-entry
invariant-loop-entry l = any_to_shut l.entry-iterator ≡ any_to_shut l.table.entries
