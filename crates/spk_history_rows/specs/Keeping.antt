-- What an entry changes of what is kept, in two steps: its number is named, and its node is born. These serve the proof of `Rows::take`.
use Rattle.std.specs.Prelude.{◌≡◌, ◌≢◌, ◌⊎◌, ℕ, Bool, true, false, List, [], ◌∷◌, ◌++◌, length, Option, Some, None, slice_get, slice_set}
use Rattle.std.specs.Option.{option_and_then, option_flatten}
use Rattle.spk_history.specs.Entry.{EntryData, Node}
use Rattle.spk_history_rows.specs.Data.{RowsData, place_of}
use Rattle.spk_history_rows.specs.Row.{NodeData, last}

-- A node has a place among the nodes and their births: one that it had, or a new one.
abbrev pub HasPlace : List NodeData → List (Option ℕ) → NodeData → ℕ → List NodeData → List (Option ℕ) → Type 0
HasPlace names births a i ns bs = ((ns ≡ names) × (bs ≡ births) × (slice_get names i ≡ Some a))
    ⊎ ((ns ≡ names ++ a ∷ []) × (bs ≡ births ++ None ∷ []) × (i ≡ length names) × ((k : ℕ) → slice_get names k ≢ Some a))

-- it is named by this number from now on
abbrev pub IsGiven : RowsData → ℕ → NodeData → RowsData → Type 0
IsGiven r n a q = (i : ℕ) × HasPlace r.names r.births a i q.names q.births × (q.numbers ≡ r.numbers ++ record { number = n; place = i } ∷ []) × (q.count ≡ r.count)

-- the number of an entry that names a node stands for its place
abbrev pub IsNaming : RowsData → EntryData → RowsData → Type 0
IsNaming r (Node node group name) q = IsGiven r node (record { group = group; name = name }) q
IsNaming r _ q = q ≡ r

-- the place that a number stands for
abbrev pub place_in : RowsData → Option ℕ → Option ℕ
place_in r number = option_and_then (λ n. last (place_of n) r.numbers) number

-- the births, with one of the node at a place
abbrev pub births_with : Bool → Option ℕ → ℕ → List (Option ℕ) → List (Option ℕ)
births_with false place at births = births
births_with true None at births = births
births_with true (Some i) at births = slice_set births i (Some at)

-- the last birth of the node at a place
abbrev pub birth_at : List (Option ℕ) → Option ℕ → Option ℕ
birth_at births node = option_flatten (option_and_then (slice_get births) node)
