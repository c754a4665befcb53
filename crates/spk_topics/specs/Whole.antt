-- A tree of levels that leaks nothing: each node is needed, or waits to be used.
use Rattle.std.specs.Prelude.{◌≡◌, ◌≢◌, ◌⊎◌, ℕ, List, [], ◌∷◌, Option, Some, None, option_and_then, slice_get}
use Rattle.spk_topics.specs.Paths.{Child, Up, Next, IsTree}
use Rattle.spk_topics.specs.Rows.{Row}
use Rattle.spk_topics.specs.Unused.{AreEmpty, HasUnused}

-- the node has grants
pub record HasGrants (rows : List Row) (n : ℕ) : Type 0 where
  pub row : Row
  pub there : slice_get rows n ≡ Some row
  pub granted : row.1 ≢ []

-- two edges lead on
pub record HasTwo (ways : List ℕ → Option ℕ) : Type 0 where
  pub one : List ℕ
  pub other : List ℕ
  pub one_node : ℕ
  pub other_node : ℕ
  pub apart : one ≢ other
  pub one_leads : ways one ≡ Some one_node
  pub other_leads : ways other ≡ Some other_node

-- one edge leads on, to this node, and no other
pub record HasOne (ways : List ℕ → Option ℕ) (n : ℕ) : Type 0 where
  pub level : List ℕ
  pub leads : ways level ≡ Some n
  pub only : (l : List ℕ) → l ≢ level → ways l ≡ None

-- the node has grants, or ways part there
abbrev pub IsNeeded : List Row → Child → ℕ → Type 0
IsNeeded rows child n = HasGrants rows n ⊎ HasTwo (child n)

-- each node to which an edge leads is needed, so it leads to grants, and no edge could be longer
abbrev pub IsPruned : List Row → Child → Up → Type 0
IsPruned rows child up = (n : ℕ) (edge : ℕ × List ℕ) → up n ≡ Some edge → IsNeeded rows child n

-- but maybe the node at which the tree grows or is pruned
abbrev pub IsPrunedBut : List Row → Child → Up → ℕ → Type 0
IsPrunedBut rows child up at = (n : ℕ) (edge : ℕ × List ℕ) → up n ≡ Some edge → IsNeeded rows child n ⊎ (n ≡ at)

-- a tree, and the nodes that aren't used
pub record Sound (rows : List Row) (child : Child) (up : Up) (next : Next) (first : Option ℕ) : Type 0 where
  pub tree : IsTree rows child up
  pub empty : AreEmpty rows up
  pub unused : HasUnused rows up next first

-- and nothing leaks
pub record Whole (rows : List Row) (child : Child) (up : Up) (next : Next) (first : Option ℕ) : Type 0 where
  pub sound : Sound rows child up next first
  pub pruned : IsPruned rows child up

-- and nothing leaks but maybe one node
pub record WholeBut (rows : List Row) (child : Child) (up : Up) (next : Next) (first : Option ℕ) (at : ℕ) : Type 0 where
  pub sound : Sound rows child up next first
  pub pruned : IsPrunedBut rows child up at

-- the node to which edges with these first levels lead from a node
abbrev pub descend : Child → ℕ → List (List ℕ) → Option ℕ
descend child n [] = Some n
descend child n (level ∷ rest) = option_and_then (λ m. descend child m rest) (child n level)

-- edges lead from the node to one that has grants, which may be the node itself
pub record LeadsToGrants (rows : List Row) (child : Child) (n : ℕ) : Type 0 where
  pub place : ℕ
  pub edges : List (List ℕ)
  pub leads : descend child n edges ≡ Some place
  pub grants : HasGrants rows place
