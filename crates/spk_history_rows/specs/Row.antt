-- The row of an entry of a history, by questions to the entries before it (own rules). An entry has a number for its node; which node that is, is said
-- by the entry of its part that named the number last.
use Rattle.std.specs.Prelude.{◌==◌, ◌&&◌, ℕ, Bool, true, false, List, [], ◌∷◌, ◌++◌, length, Option, Some, None, if◌then◌else◌}
use Rattle.std.specs.Option.{option_and_then, option_map, option_or}
use Rattle.std.specs.Str.{bytes_eq}
use Rattle.spk_history.specs.Entry.{EntryData, Session, Node, Birth, Death, Gap, Hole, Message}

-- the group and the name of a node
pub record NodeData : Type 0 where
  pub group : List ℕ
  pub name : List ℕ

abbrev pub is_named : NodeData → NodeData → Bool
is_named a b = bytes_eq a.group b.group && bytes_eq a.name b.name

abbrev pub is_owner : NodeData → Option NodeData → Bool
is_owner a None = false
is_owner a (Some b) = is_named a b

-- what the last of a list gives, of those that give something
abbrev pub last : {X Y : Type 0} → (X → Option Y) → List X → Option Y
last pick [] = None
last pick (x ∷ xs) = option_or (last pick xs) (pick x)

-- the number of the node that an entry is of
abbrev pub number_of : EntryData → Option ℕ
number_of (Session at what) = None
number_of (Node node group name) = Some node
number_of (Birth at node stamp bd payload) = Some node
number_of (Death at node bd) = Some node
number_of (Gap at node awaited missing) = Some node
number_of (Hole node from to missing unused ended_by) = Some node
number_of (Message at node kind seq payload) = Some node

-- the node that an entry names by this number
abbrev pub named_by : ℕ → EntryData → Option NodeData
named_by n (Node node group name) = if node == n then Some (record { group = group; name = name }) else None
named_by n _ = None

abbrev pub is_birth : EntryData → Bool
is_birth (Birth at node stamp bd payload) = true
is_birth _ = false

-- An entry, how many stand before it in all parts, the names of its node, and the place of that node's last birth.
pub record RowData : Type 0 where
  pub place : ℕ
  pub owner : Option NodeData
  pub birth : Option ℕ
  pub entry : EntryData

-- the node that was named last with the number of an entry, itself among those of its part
abbrev pub owner_in : List EntryData → EntryData → Option NodeData
owner_in part e = option_and_then (λ n. last (named_by n) (part ++ e ∷ [])) (number_of e)

-- the place of a row, if it is a birth of this node
abbrev pub birth_of : NodeData → RowData → Option ℕ
birth_of a row = if is_birth row.entry && is_owner a row.owner then Some row.place else None

-- the last birth of a node
abbrev pub last_birth : List RowData → Option NodeData → Option ℕ
last_birth rows owner = option_and_then (λ a. last (birth_of a) rows) owner

-- the row of an entry, behind these rows of the history and these entries of its part
abbrev pub row_of : List RowData → List EntryData → EntryData → RowData
row_of rows part e = record {
  place = length rows;
  owner = owner_in part e;
  birth = if is_birth e then option_map (λ _. length rows) (owner_in part e) else last_birth rows (owner_in part e);
  entry = e;
}
