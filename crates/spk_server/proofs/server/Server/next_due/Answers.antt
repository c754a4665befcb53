use Rattle.std.proofs.Common.{ap}
use Rattle.spk_server.specs.Data.{Room}
use Rattle.spk_server.specs.Rooms.{room_of}
use Rattle.spk_server.proofs.Rooms.{all_stay_is}
use Rattle.spk_server.proofs.server.Server.next_due.Goals as goal

pub returns-clause-same : goal.returns-clause-same
returns-clause-same c =
    ap {B = Room} (λ cs. record (room_of c.args.self.now) { clients = cs }) (all_stay_is c.args.self.now.clients c.next_due.new.self c.next_due.ensures.stay)
