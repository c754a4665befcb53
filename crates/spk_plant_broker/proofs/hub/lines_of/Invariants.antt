use Rattle.std.proofs.Common.{◌≡◌, List, [], ◌++◌, length, false}
use Rattle.std.specs.Vec.Iter.{into_iter_items}
use Rattle.spk_rings.specs.declared.outlet.Outlet.{Outlet}
use Rattle.spk_plant_broker.specs.Done.{AreFresh}
use Rattle.spk_plant_broker.specs.Holding.{FitLines}
use Rattle.spk_plant_broker.proofs.hub.lines_of.Given as goal

-- a line for each of the first outlets
abbrev pub invariant-loop-outlet : goal.invariant-loop-outlet
invariant-loop-outlet l = record {
  front : List Outlet;
  split : l.fn.outlets.items ≡ front ++ into_iter_items l.outlet-iterator;
  sized : length l.lines.items ≡ length front;
  fits : AreFresh l.fn.outlets.items → FitLines l.fn.outlets.items (λ k. false) (λ k. []) [] l.lines.items;
}
