use Rattle.std.proofs.Common.{◌≡◌, ℕ, Bool, List, map}
use Rattle.std.specs.Vec.Iter.{into_iter_items}
use Rattle.spk_broker.specs.Sent.{sent_view}
use Rattle.spk_plant_broker.specs.Data.{Entry}
use Rattle.spk_plant_broker.specs.Holding.{HasRings, Offers, Setting}
use Rattle.spk_plant_broker.proofs.hub.Hub.offer_all.Given as goal

-- what is left is to be offered
abbrev pub invariant-loop-send : goal.invariant-loop-send
invariant-loop-send g l = record {
  offers : (s : Setting) (closed : ℕ → Bool) (log : List Entry) (closes : List ℕ) → Offers s closed l.fn.self log (map sent_view l.fn.sends.items) closes
      → (m : List Entry) × Offers s closed l.self m (map sent_view (into_iter_items l.send-iterator)) closes;
  taken : l.self.taken ≡ l.fn.self.taken;
  rings : HasRings l.self;
}
