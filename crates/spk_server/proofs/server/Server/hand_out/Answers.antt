use Rattle.spk_server.specs.Log.{follows}
use Rattle.spk_server.specs.Rooms.{pressed}
use Rattle.spk_server.specs.Step.{closes_of}
use Rattle.std.proofs.Common.{◌++◌}
use Rattle.spk_server.proofs.Runs.{and_then}
use Rattle.spk_server.proofs.server.Server.hand_out.Goals as goal

pub returns-clause-hands : goal.returns-clause-hands
returns-clause-hands c by more before =
    and_then follows _ _ _ (c.in_ok-slow.ensures.hands by (closes_of c.args.own c.args.why c.args.out.closes.items ++ more) before) (c.in_ok-end_all.ensures.hands more (pressed by c.in_ok-slow.slow before))
