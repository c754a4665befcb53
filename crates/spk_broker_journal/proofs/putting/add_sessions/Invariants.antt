use Rattle.std.proofs.Common.{drop}
use Rattle.std.specs.List.{flat_map}
use Rattle.spk_broker_snapshot.specs.Lines.{session_lines}
use Rattle.spk_broker_journal.proofs.Records.{Going}
use Rattle.spk_broker_journal.proofs.putting.add_sessions.Given as goal

abbrev pub invariant-loop-at : goal.invariant-loop-at
invariant-loop-at l = Going (flat_map session_lines l.broker.sessions) (flat_map session_lines (drop l.at l.broker.sessions)) l.initial.out.items l.out.items
