-- The edges of a tree of levels, and the levels on the way from the root, node 0, to each node. An edge has one or more
-- levels; the first one names it among those of its node.
use Rattle.std.specs.Prelude.{◌≡◌, ◌⊎◌, ◌++◌, ◌+◌, ℕ, zero, suc, List, [], ◌∷◌, Option, Some, None, length, option_and_then, slice_get}
use Rattle.std.specs.Option.{option_map_or}
use Rattle.spk_topics.specs.Levels.{levels}
use Rattle.spk_topics.specs.Rows.{Row}

-- the node to which the edge with this first level leads from a node
abbrev pub Child : Type 0
Child = ℕ → List ℕ → Option ℕ

-- the node above a node, and the first level of the edge that leads from there
abbrev pub Up : Type 0
Up = ℕ → Option (ℕ × List ℕ)

-- of a node that isn't used: the next one that isn't
abbrev pub Next : Type 0
Next = ℕ → Option ℕ

-- the edges of one node, down by first level and up, and the next unused one
abbrev pub Link : Type 0
Link = (List ℕ → Option ℕ) × Option (ℕ × List ℕ) × Option ℕ

abbrev pub child_in : List Link → Child
child_in links n level = option_and_then (λ (link : Link). link.0 level) (slice_get links n)

abbrev pub up_in : List Link → Up
up_in links n = option_and_then (λ (link : Link). link.1) (slice_get links n)

abbrev pub next_in : List Link → Next
next_in links n = option_and_then (λ (link : Link). link.2) (slice_get links n)

-- the text of a row, if it is there
abbrev pub text_in : List Row → ℕ → List ℕ
text_in rows n = option_map_or (λ (row : Row). row.0) (slice_get rows n) []

-- the levels from the root to a node: those of its text
abbrev pub path : List Row → ℕ → List (List ℕ)
path rows zero = []
path rows (suc n) = levels (text_in rows (suc n))

-- where the next level begins in the text of a node further on
abbrev pub path_end : List Row → ℕ → ℕ
path_end rows zero = 0
path_end rows (suc n) = length (text_in rows (suc n)) + 1

-- the node is the root, or an edge leads to it
abbrev pub IsOn : Up → ℕ → Type 0
IsOn up n = (n ≡ 0) ⊎ ((edge : ℕ × List ℕ) × (up n ≡ Some edge))

-- the way to the second node goes on from the first one by this level, and maybe more
abbrev pub GoesOn : List Row → ℕ → List ℕ → ℕ → Type 0
GoesOn rows p level n = (more : List (List ℕ)) × (path rows n ≡ path rows p ++ level ∷ more)

-- an edge down is an edge up, none leads to the root, and each leads from a node that is on the tree, further on
pub record IsTree (rows : List Row) (child : Child) (up : Up) : Type 0 where
  pub above : (p : ℕ) (level : List ℕ) (n : ℕ) → child p level ≡ Some n → up n ≡ Some (p, level)
  pub below : (p : ℕ) (level : List ℕ) (n : ℕ) → up n ≡ Some (p, level) → child p level ≡ Some n
  pub root : up 0 ≡ None
  pub hangs : (p : ℕ) (level : List ℕ) (n : ℕ) → up n ≡ Some (p, level) → IsOn up p
  pub spelled : (p : ℕ) (level : List ℕ) (n : ℕ) → up n ≡ Some (p, level) → GoesOn rows p level n
