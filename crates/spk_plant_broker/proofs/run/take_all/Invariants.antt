use Rattle.std.proofs.Common.{◌≡◌, ◌<◌, List, length}
use Rattle.std.specs.List.{AllByRecursion}
use Rattle.spk_ingress.specs.declared.rule.Message.{Message}
use Rattle.spk_ingress.specs.Passes.{TakesFrom, frames_taken}
use Rattle.spk_plant_broker.specs.Bells.{AreRung}
use Rattle.spk_plant_broker.specs.Data.{Entry}
use Rattle.spk_plant_broker.specs.Holding.{HasRings, IsIdle, Setting}
use Rattle.spk_plant_broker.proofs.run.take_all.Given as goal

-- what was taken so far was offered and told, and after each frame the bells were rung
abbrev pub invariant-loop : goal.invariant-loop
invariant-loop g l = record {
  pass : TakesFrom l.ingress l.pass;
  taken : frames_taken l.pass ≡ l.hub.taken.items;
  senders : AllByRecursion (λ (m : Message). m.sender < l.ingress.senders) l.hub.taken.items;
  rings : HasRings l.hub;
  rung : AreRung (length l.hub.taken.items) l.fn.bells l.bells;
  idle : (s : Setting) (log : List Entry) → IsIdle s l.fn.hub log → (m : List Entry) × IsIdle s l.hub m;
}
