-- What is kept of a node, by its names. A node that was never heard counts as a fresh one.
use Rattle.std.specs.Prelude.{ℕ, Bool, ◌&&◌, List, [], ◌∷◌, if◌then◌else◌}
use Rattle.std.specs.List.{find}
use Rattle.std.specs.Option.{option_map_or}
use Rattle.std.specs.Str.{bytes_eq}
use Rattle.spk_host_node.specs.Data.{NodeData}
use Rattle.spk_host.specs.Data.{Entry}

abbrev pub is_of : List ℕ → List ℕ → Entry → Bool
is_of group node e = bytes_eq group e.group && bytes_eq node e.node

abbrev pub kept_of : Entry → NodeData
kept_of e = e.kept

-- what is kept of a node, or else this
abbrev pub node_or : NodeData → List Entry → List ℕ → List ℕ → NodeData
node_or fresh nodes group node = option_map_or kept_of (find (is_of group node) nodes) fresh

-- at the place of the node of these names, or else last
abbrev pub put_node : List ℕ → List ℕ → NodeData → List Entry → List Entry
put_node group node kept [] = (record { group = group; node = node; kept = kept }) ∷ []
put_node group node kept (e ∷ nodes) = if is_of group node e then (record e { kept = kept }) ∷ nodes else e ∷ put_node group node kept nodes

-- the node of these names, if it was heard
abbrev pub change_node : List ℕ → List ℕ → (NodeData → NodeData) → List Entry → List Entry
change_node group node f [] = []
change_node group node f (e ∷ nodes) = if is_of group node e then (record e { kept = f e.kept }) ∷ nodes else e ∷ change_node group node f nodes
