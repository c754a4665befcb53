use Rattle.std.proofs.Common.{◌<◌, None, [], Some, arith}
use Rattle.spk_clients.specs.declared.cause.Cause.TheVariants as cause
use Rattle.spk_server.specs.Log.{follows}
use Rattle.spk_server.proofs.Rooms.{hands_none}
use Rattle.spk_server.proofs.Runs.{and_then}
use Rattle.spk_server.proofs.Times.{ticks_is}
use Rattle.spk_server.proofs.Told.{told_behind}
use Rattle.spk_server.proofs.server.Server.tick.Goals as goal

pub returns-clause-ticks : goal.returns-clause-ticks
returns-clause-ticks c settled before =
    let less : c.args.self.now.ticked < c.args.self.now.now = omega arith in
    ticks_is c.args.self.now c.tick.new.self c.in-Ok.out _ before settled less (record { done = c.in-Ok.ensures.done; sends = c.in-Ok.ensures.sends; closes = c.in-Ok.ensures.closes })
    (and_then follows _ _ _
    (hands_none (record c.args.self.now { noted = c.tick.new.self; ticked = c.args.self.now.now }) c.hand_on.new.self cause.KeepAlive (Some c.in-Ok.out) c.in_ok-hand_on.field-0 before (c.in_ok-hand_on.ensures.hands None [] before))
    (c.in_ok-tell_all.ensures.tells before))

pub returns-clause-told : goal.returns-clause-told
returns-clause-told c is settled =
    told_behind _ _
    (and_then follows _ _ _
    (hands_none (record c.args.self.now { noted = c.tick.new.self; ticked = c.args.self.now.now }) c.hand_on.new.self cause.KeepAlive (Some c.in-Ok.out) c.in_ok-hand_on.field-0 None (c.in_ok-hand_on.ensures.hands None [] None))
    (c.in_ok-tell_all.ensures.tells None))
    (omega arith)
