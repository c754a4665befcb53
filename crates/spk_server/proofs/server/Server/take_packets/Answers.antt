use Rattle.spk_server.specs.Log.{takes}
use Rattle.spk_server.proofs.Runs.{and_then, stays}
use Rattle.spk_server.proofs.server.Server.take_packets.Goals as goal

pub loop-init : goal.loop-init
loop-init c = record { takes = λ settled. stays (takes c.args.conn) _; settled = λ settled. settled }

pub loop-preserved : goal.loop-preserved
loop-preserved c = record {
  takes = λ settled. and_then (takes c.args.conn) _ _ _ (c.loop.invariant.takes settled) (c.in_ok-take_packet.ensures.takes (c.loop.invariant.settled settled));
  settled = λ settled. c.in_ok-take_packet.ensures.settled (c.loop.invariant.settled settled);
}

pub returns-then-not-branch-clause-takes : goal.returns-then-not-branch-clause-takes
returns-then-not-branch-clause-takes c settled =
    and_then (takes c.args.conn) _ _ _ (c.loop.invariant.takes settled) (c.in_ok-take_packet.ensures.takes (c.loop.invariant.settled settled))
