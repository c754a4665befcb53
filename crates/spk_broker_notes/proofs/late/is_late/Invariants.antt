use Rattle.std.proofs.Common.{◌≡◌, drop}
use Rattle.spk_broker_notes.specs.Noted.{is_late}
use Rattle.spk_broker_notes.proofs.late.is_late.Given as goal

abbrev pub invariant-loop-at : goal.invariant-loop-at
invariant-loop-at l = is_late l.clock (drop l.at l.broker.sessions) ≡ is_late l.clock l.broker.sessions
