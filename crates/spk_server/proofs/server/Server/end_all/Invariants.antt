use Rattle.std.proofs.Common.{List, [], ◌++◌, Option}
use Rattle.std.specs.Vec.Iter.{into_iter_items}
use Rattle.spk_clients.specs.Data.{AreNoted}
use Rattle.spk_server.specs.Data.{Close, Slow}
use Rattle.spk_server.specs.Log.{Reaches, follows}
use Rattle.spk_server.specs.Step.{closes_of}
use Rattle.spk_server.specs.Rooms.{amid}
use Rattle.spk_server.proofs.server.Server.end_all.Given as goal

-- those who are left are to be ended
abbrev pub invariant-loop-conn : goal.invariant-loop-conn
invariant-loop-conn l = record {
  hands : (more : List Close) (slow : Option Slow) → Reaches follows (amid l.fn.self [] (closes_of l.own l.why l.fn.closes.items ++ more) slow)
      (amid l.self [] (closes_of l.own l.why (into_iter_items l.conn-iterator) ++ more) slow);
  noted : AreNoted l.fn.self.clients → AreNoted l.self.clients;
}
