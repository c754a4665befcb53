use Rattle.std.proofs.Common.{◌≡◌}
use Rattle.spk_broker_events.specs.Record.{most}
use Rattle.spk_broker_journal.specs.Assembled.{stand}
use Rattle.spk_broker_journal.proofs.Replaying.{Stands}
use Rattle.spk_broker_journal.proofs.restoring.replay.Given as goal

abbrev pub invariant-loop : goal.invariant-loop
invariant-loop l = (l.contents.bytes ≡ l.bytes) × (l.contents.most ≡ most) × Stands l.limit l.contents (stand l.assembly)
