-- What a call of a store answers, and the data after it, from the data before it and the arguments.
use Rattle.std.specs.Prelude.{ℕ, ◌+◌, ◌-◌, ◌^◌, Bool, List, [], ◌∷◌, ◌++◌, length, drop, slice_get, min, nat_le, Option, None, if◌then◌else◌}
use Rattle.std.specs.List.{prefix_len}
use Rattle.spk_store.specs.Data.{Kept}

-- a count goes up to the greatest u64 and stays there
abbrev pub counted : ℕ → ℕ → ℕ
counted lost n = min (lost + n) (2 ^ 64 - 1)

module _ {X : Type 0} where
  -- nothing kept, nothing lost
  abbrev pub empty_store : ℕ → Kept X
  empty_store capacity = record { items = []; capacity = capacity; lost = 0 }

  -- as many are kept as there may be
  abbrev pub is_full : Kept X → Bool
  is_full s = nat_le s.capacity (length s.items)

  -- the last n of a list
  abbrev pub last_of : ℕ → List X → List X
  last_of n xs = drop (length xs - n) xs

  -- a push onto a full store overwrites the oldest change, which is handed back
  abbrev pub after_push : Kept X → X → Kept X
  after_push s x = record { items = last_of s.capacity (s.items ++ x ∷ []); capacity = s.capacity; lost = if is_full s then counted s.lost 1 else s.lost }

  abbrev pub overwritten : Kept X → X → Option X
  overwritten s x = if is_full s then slice_get (s.items ++ x ∷ []) 0 else None

  -- the first n go, and count as lost or not
  abbrev pub after_drop : Kept X → ℕ → Bool → Kept X
  after_drop s n is_lost = record { items = drop n s.items; capacity = s.capacity; lost = if is_lost then counted s.lost n else s.lost }

  -- how many changes at the front belong together with the first one
  abbrev pub run_of : (X → X → Bool) → List X → ℕ
  run_of together [] = 0
  run_of together (x ∷ xs) = prefix_len (together x) (x ∷ xs)
