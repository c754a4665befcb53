-- What a walk over the levels of a topic has found, and where it goes on.
use Rattle.std.specs.Prelude.{◌≡◌, ◌⊎◌, ◌++◌, ℕ, List, ◌∷◌, Option, Some, Contains, map}
use Rattle.std.specs.Option.{option_map}
use Rattle.std.specs.Ordering.{nat_cmp}
use Rattle.std.specs.BTreeMap.{BTreeMap, get}
use Rattle.spk_topics.specs.Levels.{levels_left}
use Rattle.spk_topics.specs.Matching.{Fits}
use Rattle.spk_topics.specs.Nodes.{rows_of, child_of, up_of}
use Rattle.spk_topics.specs.declared.nodes.Nodes.{Nodes}
use Rattle.spk_topics.specs.declared.walk.Ahead.{Ahead}
use Rattle.spk_topics.specs.Paths.{Up, IsOn, path}
use Rattle.spk_topics.specs.Reached.{Reached, HasLeast}
use Rattle.spk_topics.specs.Rows.{Row}

-- what is found is more than before by rows that match the topic
pub record Gains (rows : List Row) (topic : List ℕ) (old new : ℕ → Option ℕ) : Type 0 where
  pub sound : (key qos : ℕ) → new key ≡ Some qos → (old key ≡ Some qos) ⊎ Reached rows topic key qos
  pub kept : (key qos : ℕ) → HasLeast (old key) qos → HasLeast (new key) qos

-- what the row at this place holds is found, if there is one and it matches the topic
abbrev pub Taken : List Row → List ℕ → (ℕ → Option ℕ) → Option ℕ → Type 0
Taken rows topic found place = (key qos : ℕ) (r : Reached rows topic key qos) → place ≡ Some r.place → HasLeast (found key) qos

-- a node, and the levels that are left of the edge to it
abbrev pub Way : Type 0
Way = ℕ × List (List ℕ)

-- the levels left of the edge to a node of the front, and those from there to the place, fit those that are left of the topic
pub record IsAhead (rows : List Row) (up : Up) (front : List Way) (left : List (List ℕ)) (place : ℕ) : Type 0 where
  pub way : Way
  pub more : List (List ℕ)
  pub among : Contains front way
  pub on : IsOn up way.0
  pub leads : path rows place ≡ path rows way.0 ++ more
  pub fits : Fits (way.1 ++ more) left

-- each row that matches the topic is found, or ahead
abbrev pub IsOnTheWay : List Row → List ℕ → Up → (ℕ → Option ℕ) → List Way → List (List ℕ) → Type 0
IsOnTheWay rows topic up found front left = (key qos : ℕ) (r : Reached rows topic key qos) → HasLeast (found key) qos ⊎ IsAhead rows up front left r.place

-- each row that matches the topic, and to which this way leads, is found, or ahead of the next front
abbrev pub IsSettled : List Row → List ℕ → Up → (ℕ → Option ℕ) → List Way → Way → List (List ℕ) → List (List ℕ) → Type 0
IsSettled rows topic up found next way left rest =
    (key qos : ℕ) (r : Reached rows topic key qos) (more : List (List ℕ)) → IsOn up way.0 → path rows r.place ≡ path rows way.0 ++ more → Fits (way.1 ++ more) left → HasLeast (found key) qos ⊎ IsAhead rows up next rest r.place

-- the same of nodes and of the map that is filled

abbrev pub way_of : Ahead → Way
way_of ahead = (ahead.number, levels_left (option_map (λ text. text.now) ahead.left))

abbrev pub front_of : List Ahead → List Way
front_of front = map way_of front

abbrev pub GainsIn : Nodes → List ℕ → BTreeMap ℕ ℕ → BTreeMap ℕ ℕ → Type 0
GainsIn nodes topic old new = Gains (rows_of nodes) topic (get nat_cmp old) (get nat_cmp new)

abbrev pub TakenIn : Nodes → List ℕ → BTreeMap ℕ ℕ → Option ℕ → Type 0
TakenIn nodes topic found place = Taken (rows_of nodes) topic (get nat_cmp found) place

abbrev pub IsOnTheWayIn : Nodes → List ℕ → BTreeMap ℕ ℕ → List Ahead → List (List ℕ) → Type 0
IsOnTheWayIn nodes topic found front left = IsOnTheWay (rows_of nodes) topic (up_of nodes) (get nat_cmp found) (front_of front) left

abbrev pub IsOnIn : Nodes → ℕ → Type 0
IsOnIn nodes n = IsOn (up_of nodes) n

-- each row that matches the topic is found
abbrev pub HasAll : Nodes → List ℕ → BTreeMap ℕ ℕ → Type 0
HasAll nodes topic found = (key qos : ℕ) → Reached (rows_of nodes) topic key qos → HasLeast (get nat_cmp found key) qos

-- what a walk begins with
abbrev pub Begins : Nodes → List ℕ → List Ahead → List (List ℕ) → Type 0
Begins nodes topic front left = (found : BTreeMap ℕ ℕ) → IsOnTheWayIn nodes topic found front left

-- a level of the topic takes one way to the next front
abbrev pub Settles : Nodes → List ℕ → List ℕ → BTreeMap ℕ ℕ → List Ahead → Way → Type 0
Settles nodes topic level found next way =
    (rest : List (List ℕ)) → IsSettled (rows_of nodes) topic (up_of nodes) (get nat_cmp found) (front_of next) way (level ∷ rest) rest

-- nodes are appended
abbrev pub Extends : List Ahead → List Ahead → Type 0
Extends old new = (added : List Ahead) × (new ≡ old ++ added)

-- a level leads from a node to that of the way, and so much is left of the edge then
abbrev pub IsAheadOf : Nodes → ℕ → List ℕ → Way → Type 0
IsAheadOf nodes n level way = (child_of nodes n level ≡ Some way.0) × (path (rows_of nodes) way.0 ≡ path (rows_of nodes) n ++ level ∷ way.1)

-- the node to which a level leads from a node is appended, with what is left of the edge to it
pub record Enters (nodes : Nodes) (n : ℕ) (level : List ℕ) (old new : List Ahead) : Type 0 where
  pub extends : Extends old new
  pub reaches : (m : ℕ) → child_of nodes n level ≡ Some m
      → (left : List (List ℕ)) × (path (rows_of nodes) m ≡ path (rows_of nodes) n ++ level ∷ left) × Contains (front_of new) (m, left)

-- a level of the topic takes a front to the next one
abbrev pub Passes : Nodes → List ℕ → List ℕ → BTreeMap ℕ ℕ → BTreeMap ℕ ℕ → List Ahead → List Ahead → Type 0
Passes nodes topic level old new front next = (rest : List (List ℕ)) → IsOnTheWayIn nodes topic old front (level ∷ rest) → IsOnTheWayIn nodes topic new next rest
