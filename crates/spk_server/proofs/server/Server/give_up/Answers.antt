use Rattle.std.proofs.Common.{None}
use Rattle.spk_server.specs.Log.{follows}
use Rattle.spk_server.proofs.Runs.{and_then}
use Rattle.spk_server.proofs.server.Server.give_up.Goals as goal

pub returns-clause-ends : goal.returns-clause-ends
returns-clause-ends c = and_then follows _ _ _ (c.in_ok-end.ensures.ends None) (c.in_ok-tell_all.ensures.tells None)
