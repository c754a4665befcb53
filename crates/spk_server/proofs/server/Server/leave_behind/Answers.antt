use Rattle.std.proofs.Common.{[], if◌then◌else◌, sym, ap, ◌∙◌}
use Rattle.spk_server.specs.Data.{Room}
use Rattle.spk_clients.specs.declared.cause.Cause.TheVariants as cause
use Rattle.spk_server.specs.Log.{follows}
use Rattle.spk_server.specs.Rooms.{amid}
use Rattle.spk_server.specs.Step.{one_close}
use Rattle.spk_server.proofs.Rooms.{shut_is}
use Rattle.spk_server.proofs.Runs.{at_start}
use Rattle.spk_server.proofs.server.Server.leave_behind.Goals as goal

pub returns-then-is_disconnect-clause-ends : goal.returns-then-is_disconnect-clause-ends
returns-then-is_disconnect-clause-ends c before =
    at_start follows _ _ _ (ap {B = Room} (λ b. amid c.args.self.now [] (if b then one_close c.args.conn cause.Left else []) before) (sym c.is_disconnect.ensures ∙ c.if-is_disconnect.true))
    (shut_is c.args.self.now c.over.new.self (record { conn = c.args.conn; cause = cause.Left }) [] before c.in_ok-over.ensures.ended)
