-- The kept changes, as queries on the list of all calls, the newest first.
use Rattle.std.specs.Prelude.{ℕ, ◌+◌, ◌-◌, ◌≤◌, Bool, true, not, List, [], ◌∷◌, ◌++◌, length, drop, filter, map, take, nat_le, if◌then◌else◌}
use Rattle.spk_store.specs.Calls.{Call, Push, DropFront}

module _ {X : Type 0} where
  -- all changes that were pushed, the oldest first
  abbrev pub pushed : List (Call X) → List X
  pushed [] = []
  pushed (Push x ∷ calls) = pushed calls ++ x ∷ []
  pushed (DropFront n is_lost ∷ calls) = pushed calls

  -- The place in that list from which on they are kept: it rises by one at a push while as many are kept as
  -- there may be, and by n where n are dropped.
  abbrev pub place_of : ℕ → List (Call X) → ℕ
  place_of capacity [] = 0
  place_of capacity (Push x ∷ calls) = if nat_le capacity (length (pushed calls) - place_of capacity calls) then place_of capacity calls + 1 else place_of capacity calls
  place_of capacity (DropFront n is_lost ∷ calls) = place_of capacity calls + n

  -- the kept changes
  abbrev pub kept_of : ℕ → List (Call X) → List X
  kept_of capacity calls = drop (place_of capacity calls) (pushed calls)

  -- how many are kept
  abbrev pub count_of : ℕ → List (Call X) → ℕ
  count_of capacity calls = length (pushed calls) - place_of capacity calls

  -- how many were overwritten, or dropped as lost
  abbrev pub lost_of : ℕ → List (Call X) → ℕ
  lost_of capacity [] = 0
  lost_of capacity (Push x ∷ calls) = if nat_le capacity (count_of capacity calls) then lost_of capacity calls + 1 else lost_of capacity calls
  lost_of capacity (DropFront n is_lost ∷ calls) = if is_lost then lost_of capacity calls + n else lost_of capacity calls

  -- those of a list, each lost or not
  abbrev pub fated : Bool → List X → List (X × Bool)
  fated is_lost xs = map (λ x. (x, is_lost)) xs

  -- the changes that have left, the oldest first, and whether each is lost: those overwritten are, those dropped where they count so
  abbrev pub left_of : ℕ → List (Call X) → List (X × Bool)
  left_of capacity [] = []
  left_of capacity (Push x ∷ calls) =
      left_of capacity calls ++ (if nat_le capacity (count_of capacity calls) then fated true (take 1 (kept_of capacity calls ++ x ∷ [])) else [])
  left_of capacity (DropFront n is_lost ∷ calls) = left_of capacity calls ++ fated is_lost (take n (kept_of capacity calls))

  -- those of them that were sent
  abbrev pub sent_of : ℕ → List (Call X) → List X
  sent_of capacity calls = map (λ e. e.0) (filter (λ e. not e.1) (left_of capacity calls))

  -- no more are dropped than are kept
  abbrev pub IsLawful : ℕ → List (Call X) → Type 0
  IsLawful capacity [] = Unit {0}
  IsLawful capacity (Push x ∷ calls) = IsLawful capacity calls
  IsLawful capacity (DropFront n is_lost ∷ calls) = (n ≤ count_of capacity calls) × IsLawful capacity calls
