use Rattle.spk_server.proofs.Rooms.{joined_is}
use Rattle.spk_server.proofs.server.Server.open.Goals as goal

pub returns-clause-joins : goal.returns-clause-joins
returns-clause-joins c = (
  c.in-Ok.ensures.accepted,
  c.in-Ok.ensures.number,
  joined_is c.args.self.now c.reserve-2.new.self c.insert.new.self c.open.new.self c.reserve.new.self.items c.in-Ok.conn c.args.until c.in_ok-client.client
      c.in-Ok.ensures.done c.in_ok-reserve-2.ensures.stay c.in-Ok-insert.ensures.here c.in-Ok-insert.ensures.others c.in_ok-client.ensures c.in_ok-reserve.ensures.items,
)
