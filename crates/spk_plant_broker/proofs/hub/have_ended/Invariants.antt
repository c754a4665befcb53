use Rattle.std.proofs.Common.{◌≡◌, ℕ, Bool, List, true}
use Rattle.spk_ingress.specs.declared.rule.Message.{Message}
use Rattle.spk_rings.specs.declared.item.Item.{Item}
use Rattle.spk_rings.specs.declared.outlet.Outlet.{Outlet}
use Rattle.spk_plant_broker.specs.Holding.{FitLines}
use Rattle.spk_plant_broker.specs.Step.{have_ended}
use Rattle.spk_plant_broker.proofs.hub.have_ended.Given as goal

-- those before have ended
abbrev pub invariant-loop-i : goal.invariant-loop-i
invariant-loop-i l = (firsts : List Outlet) (dropped : ℕ → Bool) (got : ℕ → List Item) (taken : List Message) → FitLines firsts dropped got taken l.lines.items → have_ended l.i taken ≡ true
