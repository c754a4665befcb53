-- The rows of grants, and the edges, that nodes carry.
use Rattle.std.specs.Prelude.{ℕ, List, Option, Some, None, cond, map}
use Rattle.std.specs.Option.{option_map}
use Rattle.std.specs.Str.{bytes_eq}
use Rattle.std.specs.String.{string_bytes}
use Rattle.std.specs.BTreeMap.{get_by_text}
use Rattle.spk_topics.specs.Rows.{Row}
use Rattle.spk_topics.specs.Paths.{Child, Up, Next, Link, child_in, up_in, next_in}
use Rattle.spk_topics.specs.Whole.{Whole, WholeBut}
use Rattle.spk_topics.specs.declared.node.Branch.{Branch}
use Rattle.spk_topics.specs.declared.node.Children.{Children}
use Rattle.spk_topics.specs.declared.node.Children.TheVariants.{Nothing, One, Many}
use Rattle.spk_topics.specs.declared.node.Edge.{Edge}
use Rattle.spk_topics.specs.declared.node.Node.{Node}
use Rattle.spk_topics.specs.declared.nodes.Nodes.{Nodes}

abbrev pub row_of : Node → Row
row_of node = (string_bytes node.path, node.grants.entries)

abbrev pub edge_of : Edge → ℕ × List ℕ
edge_of edge = (edge.parent, string_bytes edge.level)

-- where the level of one branch leads
abbrev pub only_way : Branch → List ℕ → Option ℕ
only_way branch level = cond (bytes_eq (string_bytes branch.level) level) (Some branch.number) None

-- where levels lead by these edges
abbrev pub ways_of : Children → List ℕ → Option ℕ
ways_of Nothing level = None
ways_of (One branch) level = only_way branch level
ways_of (Many branches) level = get_by_text branches level

-- the node to which a level leads from a node
abbrev pub next_of : Node → List ℕ → Option ℕ
next_of node = ways_of node.children

abbrev pub link_of : Node → Link
link_of node = (next_of node, option_map edge_of node.up, node.next_unused)

abbrev pub rows_of : Nodes → List Row
rows_of nodes = map row_of nodes.list.items

abbrev pub links_of : Nodes → List Link
links_of nodes = map link_of nodes.list.items

abbrev pub child_of : Nodes → Child
child_of nodes = child_in (links_of nodes)

abbrev pub up_of : Nodes → Up
up_of nodes = up_in (links_of nodes)

abbrev pub next_unused_of : Nodes → Next
next_unused_of nodes = next_in (links_of nodes)

abbrev pub IsWhole : Nodes → Type 0
IsWhole nodes = Whole (rows_of nodes) (child_of nodes) (up_of nodes) (next_unused_of nodes) nodes.unused

abbrev pub IsWholeBut : Nodes → ℕ → Type 0
IsWholeBut nodes at = WholeBut (rows_of nodes) (child_of nodes) (up_of nodes) (next_unused_of nodes) nodes.unused at
