use Rattle.std.proofs.Common.{◌≡◌, ℕ, Bool, List, ◌++◌, length}
use Rattle.std.specs.Vec.Iter.{into_iter_items}
use Rattle.spk_ingress.specs.declared.rule.Message.{Message}
use Rattle.spk_rings.specs.declared.item.Item.{Item}
use Rattle.spk_rings.specs.declared.outlet.Outlet.{Outlet}
use Rattle.spk_plant_broker.specs.declared.line.Line.{Line}
use Rattle.spk_plant_broker.specs.Done.{AreTokens}
use Rattle.spk_plant_broker.specs.Holding.{FitLines}
use Rattle.spk_plant_broker.proofs.done.tokens_of.Given as goal

-- the tokens of the first lines
abbrev pub invariant-loop-line : goal.invariant-loop-line
invariant-loop-line l = record {
  front : List Line;
  split : l.fn.lines.items ≡ front ++ into_iter_items l.line-iterator;
  sized : length l.tokens.items ≡ length front;
  tokens : (firsts : List Outlet) (dropped : ℕ → Bool) (got : ℕ → List Item) (taken : List Message) → FitLines firsts dropped got taken l.fn.lines.items → AreTokens firsts got l.tokens.items;
}
