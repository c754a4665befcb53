use Rattle.spk_clients.specs.Data.{IsSettled}
use Rattle.spk_server.specs.Log.{Reaches, calls}
use Rattle.spk_server.specs.Rooms.{room_of}
use Rattle.spk_server.proofs.server.Server.call_all.Given as goal

-- those before were called
abbrev pub invariant-loop : goal.invariant-loop
invariant-loop l = record {
  calls : IsSettled l.fn.self.clients → Reaches calls (room_of l.fn.self) (room_of l.self);
  settled : IsSettled l.fn.self.clients → IsSettled l.self.clients;
}
