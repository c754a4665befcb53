use Rattle.std.proofs.Common.{◌≡◌, ℕ, ◌<◌, Bool, List, true, length}
use Rattle.spk_ingress.specs.declared.rule.Message.{Message}
use Rattle.spk_rings.specs.declared.item.Item.{Item}
use Rattle.spk_rings.specs.declared.outlet.Outlet.{Outlet}
use Rattle.spk_plant_broker.specs.Holding.{FitLines}
use Rattle.spk_plant_broker.proofs.hub.finish_all.Given as goal

-- the rings before are dropped
abbrev pub invariant-loop-client : goal.invariant-loop-client
invariant-loop-client l = record {
  fits : (firsts : List Outlet) (dropped : ℕ → Bool) (got : ℕ → List Item) (taken : List Message) → FitLines firsts dropped got taken l.fn.lines.items
      → (d : ℕ → Bool) × ((k : ℕ) → k < l.client → d k ≡ true) × FitLines firsts d got taken l.lines.items;
  sized : length l.lines.items ≡ length l.fn.lines.items;
}
