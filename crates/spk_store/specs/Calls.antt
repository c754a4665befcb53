-- Lists of calls of a store, the newest first, and the data after them.
use Rattle.std.specs.Prelude.{ℕ, Bool, List, [], ◌∷◌}
use Rattle.spk_store.specs.Data.{Kept}
use Rattle.spk_store.specs.Step.{empty_store, after_push, after_drop}

pub data Call (X : Type 0) : Type 0 where
  Push : X → Call X
  -- how many go, and whether they count as lost
  DropFront : ℕ → Bool → Call X

module _ {X : Type 0} where
  abbrev pub after_call : Kept X → Call X → Kept X
  after_call s (Push x) = after_push s x
  after_call s (DropFront n is_lost) = after_drop s n is_lost

  abbrev pub store_of : ℕ → List (Call X) → Kept X
  store_of capacity [] = empty_store capacity
  store_of capacity (call ∷ calls) = after_call (store_of capacity calls) call
