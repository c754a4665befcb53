use Rattle.std.proofs.Common.{sym}
use Rattle.spk_server.specs.Log.{calls}
use Rattle.spk_server.proofs.Runs.{at_start}
use Rattle.spk_server.proofs.server.Server.call_next.Goals as goal

pub returns-clause-calls : goal.returns-clause-calls
returns-clause-calls c settled = at_start calls _ _ _ (sym c.next_due.ensures.same) (c.in_ok-call.ensures.calls (c.next_due.ensures.settled settled) c.in-Some.ensures.due)
