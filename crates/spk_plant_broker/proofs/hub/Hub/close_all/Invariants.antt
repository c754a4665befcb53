use Rattle.std.proofs.Common.{◌≡◌, ℕ, ◌||◌, Bool, List, take}
use Rattle.spk_plant_broker.specs.Data.{Entry}
use Rattle.spk_plant_broker.specs.Holding.{HasRings, Holds, Setting}
use Rattle.spk_plant_broker.specs.Log.{room_of}
use Rattle.spk_plant_broker.specs.Step.{holds_client}
use Rattle.spk_plant_broker.proofs.hub.Hub.close_all.Given as goal

-- those before are closed
abbrev pub invariant-loop-conn : goal.invariant-loop-conn
invariant-loop-conn l = record {
  holds : (s : Setting) (closed : ℕ → Bool) (log : List Entry) → Holds s closed l.fn.self log →
      Holds s (λ k. closed k || holds_client (room_of s.limit s.edges log).openers k (take l.conn-index l.conns)) l.self log;
  taken : l.self.taken ≡ l.fn.self.taken;
  rings : HasRings l.fn.self → HasRings l.self;
}
