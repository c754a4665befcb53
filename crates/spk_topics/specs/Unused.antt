-- The nodes of a tree of levels that aren't used: they are empty, and each names the next.
use Rattle.std.specs.Prelude.{◌≡◌, ◌≢◌, ◌<◌, ◌↔◌, ℕ, List, [], ◌∷◌, Option, Some, None, Contains, length, slice_get}
use Rattle.spk_topics.specs.Paths.{Up, Next}
use Rattle.spk_topics.specs.Rows.{Row}

-- the node is there, isn't the root, and no edge leads to it
abbrev pub IsUnused : List Row → Up → ℕ → Type 0
IsUnused rows up n = (n ≢ 0) × (n < length rows) × (up n ≡ None)

-- the first node is the list's first, each one names the next one of the list, the last one none, and none comes twice
abbrev pub IsChain : Next → Option ℕ → List ℕ → Type 0
IsChain next first [] = first ≡ None
IsChain next first (n ∷ rest) = (first ≡ Some n) × (¬ Contains rest n) × IsChain next (next n) rest

-- the chain has the nodes that aren't used, all of them and no others
pub record HasUnused (rows : List Row) (up : Up) (next : Next) (first : Option ℕ) : Type 0 where
  pub chain : List ℕ
  pub linked : IsChain next first chain
  pub exact : (n : ℕ) → Contains chain n ↔ IsUnused rows up n

-- a node to which no edge leads has no text and no grants
abbrev pub AreEmpty : List Row → Up → Type 0
AreEmpty rows up = (n : ℕ) (row : Row) → slice_get rows n ≡ Some row → up n ≡ None → row ≡ ([], [])
