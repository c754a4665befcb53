use Rattle.std.proofs.Common.{◌∙◌, ap, sym}
use Rattle.spk_clients.specs.Data.{IsSettled}
use Rattle.spk_server.specs.Data.{Room}
use Rattle.spk_server.specs.Log.{takes}
use Rattle.spk_server.specs.Rooms.{room_of}
use Rattle.spk_server.proofs.Taking.{named_is, none_is, took_is}
use Rattle.spk_server.proofs.Runs.{at_start}
use Rattle.spk_server.proofs.server.Server.take_packet.Goals as goal

pub returns-in-Ok-clause-takes : goal.returns-in-Ok-clause-takes
returns-in-Ok-clause-takes c settled =
    took_is c.args.self.now c.next.new.self c.args.conn c.in-Ok.packet _ (rw c.in-Ok.is at c.in-Some.ensures.front) c.next.ensures.others settled
    (c.in_ok-held-in-Ok.ensures.takes (c.next.ensures.noted settled.0))

pub returns-in-Err-clause-takes : goal.returns-in-Err-clause-takes
returns-in-Err-clause-takes c settled =
    let named = named_is c.args.conn c.in-Err.fault c.args.self.now.clients c.next.new.self (rw c.in-Err.is at c.in-Some.ensures.front) c.next.ensures.others in
    let still : IsSettled c.next.new.self = (c.next.ensures.noted settled.0, c.next.ensures.untold ∙ settled.1) in
    at_start (takes c.args.conn) _ _ _ (ap {B = Room} (λ cs. record (room_of c.args.self.now) { clients = cs }) (sym named.0))
    (c.in_ok-take_fault-in-Err.ensures.takes still named.1.0 named.1.1)

pub returns-in_default-clause-takes : goal.returns-in_default-clause-takes
returns-in_default-clause-takes c settled =
    none_is c.args.conn c.args.self.now c.next.new.self c.in_default.ensures.front c.next.ensures.others
