use Rattle.std.proofs.Common.{None, [], inl, inr, subst}
use Rattle.spk_broker_notes.specs.Noted.{Noted}
use Rattle.spk_clients.specs.declared.cause.Cause.TheVariants as cause
use Rattle.spk_server.specs.Log.{Reaches, follows}
use Rattle.spk_server.specs.Rooms.{amid, room_of}
use Rattle.spk_server.specs.Step.{left, one_close}
use Rattle.spk_server.proofs.Taking.{broke_on}
use Rattle.spk_server.proofs.server.Server.come_fault.Goals as goal

pub returns-in_default-clause-comes : goal.returns-in_default-clause-comes
returns-in_default-clause-comes c =
    inr (subst (λ (b : Noted). Reaches follows (left c.args.conn cause.Memory (amid (record c.args.self.now { noted = b }) [] [] None)) (room_of c.end.new.self)) c.in_default.ensures.err (c.in_ok-end.ensures.ends None))

pub returns-clause-comes : goal.returns-clause-comes
returns-clause-comes c =
    inl (broke_on c.args.self.now c.fault_on.new.noted c.args.conn c.args.fault c.cause_fault-cause.result c.in-Ok.answer c.in_ok-hand_on.field-0 c.hand_on.new.self c.over.new.self c.cause_fault-cause.ensures c.in-Ok.ensures.on
    (c.in_ok-hand_on.ensures.hands None (one_close c.args.conn c.cause_fault-cause.result) None) c.in_ok-over.ensures.ended)
