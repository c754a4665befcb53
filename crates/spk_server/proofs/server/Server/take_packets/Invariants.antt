use Rattle.spk_clients.specs.Data.{IsSettled}
use Rattle.spk_server.specs.Log.{Reaches, takes}
use Rattle.spk_server.specs.Rooms.{room_of}
use Rattle.spk_server.proofs.server.Server.take_packets.Given as goal

-- packets are taken so far
abbrev pub invariant-loop : goal.invariant-loop
invariant-loop l = record {
  takes : IsSettled l.fn.self.clients → Reaches (takes l.conn) (room_of l.fn.self) (room_of l.self);
  settled : IsSettled l.fn.self.clients → IsSettled l.self.clients;
}
