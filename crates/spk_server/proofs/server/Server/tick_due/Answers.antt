use Rattle.std.proofs.Common.{None}
use Rattle.spk_server.specs.Log.{calls, follows}
use Rattle.spk_server.proofs.Allowed.{follows_calls}
use Rattle.spk_server.proofs.Runs.{wider}
use Rattle.spk_server.proofs.server.Server.tick_due.Goals as goal

pub returns-clause-calls : goal.returns-clause-calls
returns-clause-calls c settled = wider follows calls follows_calls _ _ (c.in_ok-tick.ensures.ticks settled None)
