-- Rows of grants: each has a filter's bytes, and the QoS of its keys.
use Rattle.std.specs.Prelude.{◌≡◌, ◌⊎◌, ℕ, List, [], ◌∷◌, ◌++◌, Some, slice_get}
use Rattle.std.proofs.Common.{set}
use Rattle.std.specs.FinMap.{from_entries}
use Rattle.spk_topics.specs.Grants.{Grants}

abbrev pub Row : Type 0
Row = List ℕ × List (ℕ × ℕ)

abbrev pub tagged : List ℕ → List (ℕ × ℕ) → List ((List ℕ × ℕ) × ℕ)
tagged filter [] = []
tagged filter (e ∷ es) = ((filter, e.0), e.1) ∷ tagged filter es

abbrev pub flat : List Row → List ((List ℕ × ℕ) × ℕ)
flat [] = []
flat (row ∷ rows) = tagged row.0 row.1 ++ flat rows

-- the grants of all rows
abbrev pub grants_of : List Row → Grants
grants_of rows = from_entries (flat rows)

-- no row but the one at n has grants of the filter
abbrev pub Only : List Row → List ℕ → ℕ → Type 0
Only rows filter n = (i : ℕ) (row : Row) → slice_get rows i ≡ Some row → row.0 ≡ filter → (row.1 ≡ []) ⊎ (i ≡ n)

-- the row at n is the filter's, or free for it
pub record IsPlace (rows : List Row) (filter : List ℕ) (n : ℕ) : Type 0 where
  pub row : Row
  pub there : slice_get rows n ≡ Some row
  pub fits : (row.0 ≡ filter) ⊎ (row.1 ≡ [])
  pub only : Only rows filter n

-- no row has grants of the filter
abbrev pub Absent : List Row → List ℕ → Type 0
Absent rows filter = (i : ℕ) (row : Row) → slice_get rows i ≡ Some row → row.0 ≡ filter → row.1 ≡ []

-- the row at n is the filter's, with other grants or with the same
abbrev pub SetsRow : List Row → List Row → List ℕ → ℕ → Type 0
SetsRow old new filter n = (new ≡ old) ⊎ ((es : List (ℕ × ℕ)) × (new ≡ set old n (filter, es)))
