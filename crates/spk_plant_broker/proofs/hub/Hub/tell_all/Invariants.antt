use Rattle.std.proofs.Common.{◌≡◌, List}
use Rattle.spk_plant_broker.specs.Data.{Entry}
use Rattle.spk_plant_broker.specs.Holding.{HasRings, Rests, Setting}
use Rattle.spk_plant_broker.proofs.hub.Hub.tell_all.Given as goal

-- all is offered so far
abbrev pub invariant-loop : goal.invariant-loop
invariant-loop g l = record {
  rests : (s : Setting) (log : List Entry) → Rests s l.fn.self log → (m : List Entry) × Rests s l.self m;
  taken : l.self.taken ≡ l.fn.self.taken;
  rings : HasRings l.self;
}
