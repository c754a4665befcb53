use Rattle.std.proofs.Common.{None, [], inl, inr, subst}
use Rattle.spk_broker_rules.specs.Plan as event
use Rattle.spk_broker_notes.specs.Noted.{Noted}
use Rattle.spk_clients.specs.declared.cause.Cause.TheVariants as cause
use Rattle.spk_server.specs.Log.{Reaches, follows}
use Rattle.spk_server.specs.Rooms.{amid}
use Rattle.spk_server.specs.Step.{left}
use Rattle.spk_server.proofs.Rooms.{answered_is, hands_none}
use Rattle.spk_server.proofs.Runs.{at_start}
use Rattle.spk_server.proofs.server.Server.come_refused.Goals as goal

pub returns-in_default-clause-tells : goal.returns-in_default-clause-tells
returns-in_default-clause-tells c before =
    inr (subst (λ (b : Noted). Reaches follows (left c.args.conn cause.Memory (amid (record c.args.self.now { noted = b }) [] [] before)) (amid c.end.new.self [] [] before)) c.in_default.ensures.err (c.in_ok-end.ensures.ends before))

pub returns-clause-tells : goal.returns-clause-tells
returns-clause-tells c before =
    inl (at_start follows _ _ _ (answered_is None c.args.conn c.args.self.now.noted c.refused_on.new.noted (event.Refused c.args.conn c.args.sort c.args.self.now.now) c.in-Ok.answer (amid c.args.self.now [] [] before) c.in-Ok.ensures.on)
    (hands_none (record c.args.self.now { noted = c.refused_on.new.noted }) c.hand_on.new.self cause.Slow c.in-Ok.answer c.in_ok-hand_on.field-0 before (c.in_ok-hand_on.ensures.hands None [] before)))
