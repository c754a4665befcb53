use Rattle.std.proofs.Common.{sym, subst}
use Rattle.spk_clients.specs.Data.{IsSettled}
use Rattle.spk_server.specs.Log.{calls}
use Rattle.spk_server.proofs.Runs.{and_then, at_start}
use Rattle.spk_server.proofs.server.Server.moment.Goals as goal

pub returns-clause-done : goal.returns-clause-done
returns-clause-done c settled =
    let still : IsSettled c.at.new.self.clients = subst IsSettled (sym c.at.ensures.clients) settled in
    let ticked = c.in_ok-tick_due.ensures.settled still in (
      at_start calls _ _ _ (sym c.at.ensures.timed)
          (and_then calls _ _ _ (c.in_ok-tick_due.ensures.calls still) (c.in_ok-call_due.ensures.calls ticked)),
      c.in_ok-call_due.ensures.nobody ticked,
    )
