use Rattle.std.proofs.Common.{drop}
use Rattle.spk_broker_notes.proofs.Pings.{Going}
use Rattle.spk_broker_notes.proofs.late.add_pings.Given as goal

abbrev pub invariant-loop-at : goal.invariant-loop-at
invariant-loop-at l = Going l.clock l.moment (drop l.at l.broker.sessions) l.broker.sessions l.initial.bytes.items l.bytes.items
