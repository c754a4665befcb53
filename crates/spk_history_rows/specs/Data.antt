-- What is kept to give the next row, and what it says of the rows before it.
use Rattle.std.specs.Prelude.{◌≡◌, ◌==◌, ◌≢◌, ℕ, List, length, Option, Some, None, slice_get, if◌then◌else◌}
use Rattle.spk_history.specs.Entry.{EntryData}
use Rattle.spk_history_rows.specs.declared.naming.Number.{Number}
use Rattle.spk_history_rows.specs.Row.{NodeData, RowData, birth_of, last, named_by}

-- The nodes in the order in which they were named first, the last birth of each, the numbers that were named in the part, and how many rows there are.
pub record RowsData : Type 0 where
  pub names : List NodeData
  pub births : List (Option ℕ)
  pub numbers : List Number
  pub count : ℕ

abbrev pub place_of : ℕ → Number → Option ℕ
place_of n given = if given.number == n then Some given.place else None

-- A number stands for this node.
abbrev pub StandsFor : RowsData → ℕ → Option NodeData → Type 0
StandsFor r n None = last (place_of n) r.numbers ≡ None
StandsFor r n (Some a) = (i : ℕ) × (last (place_of n) r.numbers ≡ Some i) × (slice_get r.names i ≡ Some a)

-- What is kept behind these rows of a history, of which the last part has these entries.
pub record Follows (r : RowsData) (rows : List RowData) (part : List EntryData) : Type 0 where
  pub count : r.count ≡ length rows
  pub owners : (n : ℕ) → StandsFor r n (last (named_by n) part)
  pub births : (i : ℕ) (a : NodeData) → slice_get r.names i ≡ Some a → slice_get r.births i ≡ Some (last (birth_of a) rows)
  pub apart : (i j : ℕ) (a : NodeData) → slice_get r.names i ≡ Some a → slice_get r.names j ≡ Some a → i ≡ j
  pub all : (a : NodeData) → ((i : ℕ) → slice_get r.names i ≢ Some a) → last (birth_of a) rows ≡ None
  pub even : length r.births ≡ length r.names
