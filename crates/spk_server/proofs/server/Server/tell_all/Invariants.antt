use Rattle.std.proofs.Common.{[], Option}
use Rattle.spk_clients.specs.Data.{AreNoted}
use Rattle.spk_server.specs.Data.{Slow}
use Rattle.spk_server.specs.Log.{Reaches, follows}
use Rattle.spk_server.specs.Rooms.{amid}
use Rattle.spk_server.proofs.server.Server.tell_all.Given as goal

-- all before are told
abbrev pub invariant-loop : goal.invariant-loop
invariant-loop l = record {
  tells : (before : Option Slow) → Reaches follows (amid l.fn.self [] [] before) (amid l.self [] [] before);
  noted : AreNoted l.fn.self.clients → AreNoted l.self.clients;
}
