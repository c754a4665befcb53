use Rattle.std.proofs.Common.{◌≡◌, ◌≤◌, length}
use Rattle.spk_clients.specs.Data.{IsSettled}
use Rattle.spk_server.specs.Rooms.{room_of}
use Rattle.spk_server.proofs.Looking.{LookedFor}
use Rattle.spk_server.proofs.server.Server.go_on.Given as goal

-- so many were looked at
abbrev pub invariant-loop : goal.invariant-loop
invariant-loop l = record {
  goes : IsSettled l.initial.self.clients → LookedFor l.counter (room_of l.initial.self) (room_of l.self);
  all : l.end ≡ length l.initial.self.held.items;
  within : l.counter ≤ l.end;
  settled : IsSettled l.initial.self.clients → IsSettled l.self.clients;
}
