-- A journal on its disk, as far as it is known without that (own rules). Moments are in milliseconds.
use Rattle.std.specs.Prelude.{ℕ, Bool, Option}

pub record Data : Type 0 where
  -- how many bytes it began with, and how many it has
  pub begun : ℕ
  pub len : ℕ
  -- the moment of the first put that isn't synced; none where all are
  pub since : Option ℕ
  -- each put is synced at once
  pub each : Bool
  -- a call of the disk failed since the journal began
  pub broken : Bool
