use Rattle.std.proofs.Common.{None, []}
use Rattle.spk_clients.specs.declared.cause.Cause.TheVariants as cause
use Rattle.spk_server.specs.Log.{follows}
use Rattle.spk_server.proofs.Rooms.{hands_none, left_is}
use Rattle.spk_server.proofs.Runs.{at_start}
use Rattle.spk_server.proofs.server.Server.end.Goals as goal

pub returns-clause-ends : goal.returns-clause-ends
returns-clause-ends c before =
    at_start follows _ _ _ (left_is c.args.self.now c.over.new.self c.closed_on.new.noted c.args.conn c.args.cause c.in_ok-left.left before c.in_ok-over.ensures.ended c.in_ok-left.ensures.on)
    (hands_none (record c.over.new.self { noted = c.closed_on.new.noted }) c.hand_on.new.self cause.Slow c.in_ok-left.left c.in_ok-hand_on.field-0 before (c.in_ok-hand_on.ensures.hands None [] before))
