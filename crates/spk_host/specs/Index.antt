-- What leads from a node's names to its place: of each group a table of its nodes' names.
use Rattle.std.specs.Prelude.{◌≡◌, ℕ, ◌<◌, Bool, ◌&&◌, List, length, slice_get, Option, Some, None}
use Rattle.std.specs.List.{position_from}
use Rattle.std.specs.Str.{bytes_eq}
use Rattle.spk_names.specs.Names.{number_in}
use Rattle.spk_host.specs.Data.{Entry}

pub record IndexData : Type 0 where
  -- of each group the number of its table
  pub groups : List (List ℕ × ℕ)
  -- in each table the place of each node
  pub tables : List (List (List ℕ × ℕ))

abbrev pub in_table : Option (List (List ℕ × ℕ)) → List ℕ → Option ℕ
in_table None node = None
in_table (Some names) node = number_in names node

abbrev pub in_group : List (List (List ℕ × ℕ)) → Option ℕ → List ℕ → Option ℕ
in_group tables None node = None
in_group tables (Some number) node = in_table (slice_get tables number) node

-- the place of the node of these names
abbrev pub place_in : IndexData → (group node : List ℕ) → Option ℕ
place_in index group node = in_group index.tables (number_in index.groups group) node

-- each group has a table of its own
pub record IsLeading (groups : List (List ℕ × ℕ)) (tables : List (List (List ℕ × ℕ))) : Type 0 where
  pub low : (group : List ℕ) (k : ℕ) → number_in groups group ≡ Some k → k < length tables
  pub apart : (group other : List ℕ) (k : ℕ) → number_in groups group ≡ Some k → number_in groups other ≡ Some k → group ≡ other

-- a node's names: its group and its own
abbrev pub names_of : Entry → List ℕ × List ℕ
names_of e = (e.group, e.node)

abbrev pub is_named : (group node : List ℕ) → List ℕ × List ℕ → Bool
is_named group node names = bytes_eq group names.0 && bytes_eq node names.1

-- each names lead to the first node that has them, and to none where none has
abbrev pub IsIndexed : List (List ℕ × List ℕ) → IndexData → Type 0
IsIndexed names index = (group node : List ℕ) → place_in index group node ≡ position_from (is_named group node) 0 names
