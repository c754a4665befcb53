-- What a change does to the edges of a tree of levels.
use Rattle.std.specs.Prelude.{◌≡◌, ◌⊎◌, ◌++◌, ℕ, List, [], ◌∷◌, Option, Some, None, cond, ◌&&◌, nat_eq, slice_get}
use Rattle.std.specs.Str.{bytes_eq}
use Rattle.spk_topics.specs.Rows.{Row, Absent, grants_of}
use Rattle.spk_topics.specs.Paths.{Child, Up, Next, IsTree, path}
use Rattle.spk_topics.specs.Whole.{HasGrants, HasOne}
use Rattle.spk_topics.specs.Nodes.{rows_of, child_of, up_of, next_unused_of}
use Rattle.spk_topics.specs.declared.nodes.Nodes.{Nodes}

-- one level of one node leads elsewhere
abbrev pub SetsChild : Child → Child → ℕ → List ℕ → Option ℕ → Type 0
SetsChild old new n level c = (p : ℕ) (l : List ℕ) → new p l ≡ cond (nat_eq p n && bytes_eq level l) c (old p l)

-- no level of one node leads on
abbrev pub DropsChildren : Child → Child → ℕ → Type 0
DropsChildren old new n = (p : ℕ) (l : List ℕ) → new p l ≡ cond (nat_eq p n) None (old p l)

-- another edge leads to one node
abbrev pub SetsUp : Up → Up → ℕ → Option (ℕ × List ℕ) → Type 0
SetsUp old new n u = (x : ℕ) → new x ≡ cond (nat_eq x n) u (old x)

-- one node names another one as the next
abbrev pub SetsNext : Next → Next → ℕ → Option ℕ → Type 0
SetsNext old new n m = (x : ℕ) → new x ≡ cond (nat_eq x n) m (old x)

-- the node has no grants, and no level leads on from it
pub record IsLeaf (rows : List Row) (child : Child) (n : ℕ) : Type 0 where
  pub vacant : (row : Row) → slice_get rows n ≡ Some row → row.1 ≡ []
  pub last : (level : List ℕ) → child n level ≡ None

-- the node has no grants, and one level leads on from it
pub record IsJoint (rows : List Row) (child : Child) (n m : ℕ) : Type 0 where
  pub vacant : (row : Row) → slice_get rows n ≡ Some row → row.1 ≡ []
  pub one : HasOne (child n) m

-- a level leads on from the node
abbrev pub HasChild : Child → ℕ → Type 0
HasChild child n = (level : List ℕ) × (m : ℕ) × (child n level ≡ Some m)

-- the node isn't a leaf that can be taken off the tree: it has grants, or a child, or no edge leads to it
abbrev pub Stays : List Row → Child → Up → ℕ → Type 0
Stays rows child up n = (HasGrants rows n ⊎ HasChild child n) ⊎ (up n ≡ None)

-- the grants are the same
pub record Keeps (rows new_rows : List Row) : Type 0 where
  pub same : grants_of new_rows ≡ grants_of rows
  pub absent : (f : List ℕ) → Absent rows f → Absent new_rows f

-- maybe one row more, without text and grants
abbrev pub IsMore : List Row → List Row → Type 0
IsMore old new = (new ≡ old) ⊎ (new ≡ old ++ ([], []) ∷ [])

-- an edge leads to the node of the filter
pub record IsSeat (rows : List Row) (up : Up) (filter : List ℕ) (n : ℕ) : Type 0 where
  pub row : Row
  pub edge : ℕ × List ℕ
  pub there : slice_get rows n ≡ Some row
  pub text : row.0 ≡ filter
  pub hung : up n ≡ Some edge

-- no edge leads on from the node to one whose path these levels begin with
abbrev pub Stops : List Row → Child → List (List ℕ) → ℕ → List (List ℕ) → Type 0
Stops rows child all n left =
    (level : List ℕ) (rest more : List (List ℕ)) (m : ℕ) → left ≡ level ∷ rest → child n level ≡ Some m → path rows m ++ more ≡ all → ⊥

-- the same of nodes

abbrev pub IsTreeIn : Nodes → Type 0
IsTreeIn nodes = IsTree (rows_of nodes) (child_of nodes) (up_of nodes)

abbrev pub IsSeatIn : Nodes → List ℕ → ℕ → Type 0
IsSeatIn nodes filter n = IsSeat (rows_of nodes) (up_of nodes) filter n

abbrev pub StopsIn : Nodes → List (List ℕ) → ℕ → List (List ℕ) → Type 0
StopsIn nodes all n left = Stops (rows_of nodes) (child_of nodes) all n left

abbrev pub KeepsIn : Nodes → Nodes → Type 0
KeepsIn old new = Keeps (rows_of old) (rows_of new)

abbrev pub SetsChildIn : Nodes → Nodes → ℕ → List ℕ → Option ℕ → Type 0
SetsChildIn old new n level c = SetsChild (child_of old) (child_of new) n level c

abbrev pub DropsChildrenIn : Nodes → Nodes → ℕ → Type 0
DropsChildrenIn old new n = DropsChildren (child_of old) (child_of new) n

abbrev pub SetsUpIn : Nodes → Nodes → ℕ → Option (ℕ × List ℕ) → Type 0
SetsUpIn old new n u = SetsUp (up_of old) (up_of new) n u

abbrev pub IsLeafIn : Nodes → ℕ → Type 0
IsLeafIn nodes n = IsLeaf (rows_of nodes) (child_of nodes) n

abbrev pub IsJointIn : Nodes → ℕ → ℕ → Type 0
IsJointIn nodes n m = IsJoint (rows_of nodes) (child_of nodes) n m

abbrev pub StaysIn : Nodes → ℕ → Type 0
StaysIn nodes n = Stays (rows_of nodes) (child_of nodes) (up_of nodes) n

abbrev pub SetsNextIn : Nodes → Nodes → ℕ → Option ℕ → Type 0
SetsNextIn old new n m = SetsNext (next_unused_of old) (next_unused_of new) n m
