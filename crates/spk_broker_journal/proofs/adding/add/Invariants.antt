use Rattle.std.proofs.Common.{drop}
use Rattle.spk_broker_journal.specs.Sources.{lines_of}
use Rattle.spk_broker_journal.proofs.Records.{Going}
use Rattle.spk_broker_journal.proofs.adding.add.Given as goal

abbrev pub invariant-loop-at : goal.invariant-loop-at
invariant-loop-at l = Going (lines_of l.fn.source) (drop l.at (lines_of l.fn.source)) l.initial.out.items l.out.items
