use Rattle.std.proofs.Common.{◌≡◌}
use Rattle.spk_clients.proofs.Moments.{first_due, or_first}
use Rattle.spk_clients.proofs.ending.due_in.Given as goal

-- who was found, else who is due first among the rest, is who is due first among all
abbrev pub invariant-loop-entry : goal.invariant-loop-entry
invariant-loop-entry l = or_first l.first (first_due l.now l.entry-iterator) ≡ first_due l.now l.table.entries
