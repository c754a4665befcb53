use Rattle.spk_server.specs.Log.{takes}
use Rattle.spk_server.proofs.Runs.{and_then}
use Rattle.spk_server.proofs.server.Server.take_whole.Goals as goal

pub returns-clause-takes : goal.returns-clause-takes
returns-clause-takes c noted =
    and_then (takes c.args.conn) _ _ _ (c.in_ok-slow.ensures.comes noted) (c.in_ok-held.ensures.takes (c.in_ok-slow.ensures.settled noted))
