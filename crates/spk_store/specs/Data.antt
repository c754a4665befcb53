-- The plain data of a store, whatever its changes are.
use Rattle.std.specs.Prelude.{ℕ, List}

pub record Kept (X : Type 0) : Type 0 where
  -- the changes that are kept, the oldest first
  pub items : List X
  -- how many there may be
  pub capacity : ℕ
  -- how many were overwritten or dropped as lost, up to the greatest u64
  pub lost : ℕ
