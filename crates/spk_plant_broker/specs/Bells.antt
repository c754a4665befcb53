-- How often the bells at which the clients' threads are parked were rung (own rule).
use Rattle.std.specs.Prelude.{◌≡◌, ℕ, ◌+◌, ◌-◌, ◌<◌, ◌^◌, min}
use Rattle.spk_plant_broker.specs.declared.bells.Bells.{Bells}

-- The same bells, and all of them were rung so many times more. The count has 64 bits, and stands at the greatest.
pub record AreRung (n : ℕ) (old new : Bells) : Type 0 where
  pub same : new.parkers ≡ old.parkers
  pub rung : old.rung < 2 ^ 64 → new.rung ≡ min (2 ^ 64 - 1) (old.rung + n)
