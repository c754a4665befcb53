-- Packet identifiers (MQTT 3.1.1, 2.3.1): the numbers 1 to 65,535, here as a circle on which 1 follows 65,535.
use Rattle.std.specs.Prelude.{◌≡◌, ℕ, ◌+◌, ◌%◌, ◌<◌, ◌≤◌, Bool, true, false, not, List, map, length, unwrap_or}
use Rattle.std.specs.List.{range_with_len, list_any, find, All, IsDistinct}
use Rattle.std.specs.Prelude.{nat_eq}

-- The id that stands behind `last` with `steps` others between. Behind 0, which is no id, the first is 1.
abbrev pub id_after : ℕ → ℕ → ℕ
id_after last steps = (last + steps) % 65535 + 1

-- all ids, in the order in which they stand behind `last`
unfoldable pub ids_after : ℕ → List ℕ
ids_after last = map (id_after last) (range_with_len 0 65535)

-- an id is one of these
abbrev pub is_in : List ℕ → ℕ → Bool
is_in ids id = list_any (λ other. nat_eq other id) ids

-- the first id behind `last` that isn't in use; 0 where all are
unfoldable pub next_id : List ℕ → ℕ → ℕ
next_id used last = unwrap_or (find (λ id. not (is_in used id)) (ids_after last)) 0

-- The same as a relation: an id that isn't in use, while all between `last` and it are.
pub record IsNextFree (used : List ℕ) (last id : ℕ) : Type 0 where
  pub low : 1 ≤ id
  pub high : id ≤ 65535
  pub free : is_in used id ≡ false
  pub first : (steps : ℕ) × (id ≡ id_after last steps) × ((k : ℕ) → k < steps → is_in used (id_after last k) ≡ true)

abbrev pub IsId : ℕ → Type 0
IsId id = (1 ≤ id) × (id ≤ 65535)

-- ids of which no two are equal, at most 1,024
pub record AreIds (ids : List ℕ) : Type 0 where
  pub few : length ids ≤ 1024
  pub in_range : All IsId ids
  pub distinct : IsDistinct nat_eq ids
