use Rattle.std.proofs.Common.{ℕ, List, Option}
use Rattle.std.specs.Vec.Iter.{into_iter_items}
use Rattle.spk_clients.specs.Data.{AreNoted}
use Rattle.spk_server.specs.Data.{Close, Slow}
use Rattle.spk_server.specs.Log.{Reaches, follows}
use Rattle.spk_server.specs.Rooms.{amid, offers_of, pressed}
use Rattle.spk_server.proofs.server.Server.offer_all.Given as goal

-- what is left is to be offered
abbrev pub invariant-loop-send : goal.invariant-loop-send
invariant-loop-send l = record {
  hands : (by : Option ℕ) (closes : List Close) (before : Option Slow) → Reaches follows (amid l.fn.self (offers_of by l.fn.sends.items) closes before)
      (amid l.self (offers_of by (into_iter_items l.send-iterator)) closes (pressed by l.slow before));
  noted : AreNoted l.fn.self.clients → AreNoted l.self.clients;
}
