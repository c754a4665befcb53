use Rattle.spk_server.specs.Log.{follows, takes}
use Rattle.spk_server.specs.Rooms.{slow_for}
use Rattle.spk_server.proofs.Allowed.{follows_takes}
use Rattle.spk_server.proofs.Runs.{and_then, wider}
use Rattle.spk_server.proofs.server.Server.packet.Goals as goal

pub returns : goal.returns
returns c = record {
  comes = λ noted.
      let told = c.in_ok-tell_all.ensures.settled (c.in_ok-slow.ensures.noted noted) in
      and_then (takes c.args.conn) _ _ _ c.in_ok-slow.ensures.comes
      (wider follows (takes c.args.conn) (follows_takes c.args.conn) _ _
      (and_then follows _ _ _ (c.in_ok-tell_all.ensures.tells (slow_for c.args.conn c.in_ok-slow.slow)) (c.in_ok-tick.ensures.ticks told (slow_for c.args.conn c.in_ok-slow.slow))));
  settled = λ noted. c.in_ok-tick.ensures.settled (c.in_ok-tell_all.ensures.settled (c.in_ok-slow.ensures.noted noted));
}
