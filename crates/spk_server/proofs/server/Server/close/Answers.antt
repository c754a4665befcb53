use Rattle.std.proofs.Common.{◌∙◌, ap}
use Rattle.spk_clients.specs.declared.cause.Cause.{Cause}
use Rattle.spk_clients.specs.Client.{leaves}
use Rattle.spk_server.specs.Data.{Room}
use Rattle.spk_server.specs.Rooms.{room_of}
use Rattle.spk_server.specs.Step.{changed, grace, later}
use Rattle.spk_server.proofs.server.Server.close.Goals as goal

pub returns-clause-ended : goal.returns-clause-ended
returns-clause-ended c =
    c.in_ok-over.ensures.ended ∙ ap {A = Cause} {B = Room} (λ w. changed (leaves (later grace c.args.self.now.now) w) c.args.conn (room_of c.args.self.now)) c.cause_for-cause.ensures
