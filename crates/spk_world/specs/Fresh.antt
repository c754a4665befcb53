-- A world as it is made.
use Rattle.std.specs.Prelude.{◌≡◌, ◌==◌, ℕ, Bool, true, not, ◌&&◌, List, [], ◌∷◌, length, map, replicate, None}
use Rattle.std.specs.List.{list_all, list_any}
use Rattle.std.specs.Str.{bytes_eq}
use Rattle.spk_device.specs.Book.{Book}
use Rattle.spk_edge.specs.Patch.{made}
use Rattle.spk_edge_rules.specs.Config.{Config}
use Rattle.spk_host_session.specs.Data as session
use Rattle.spk_host_session.specs.Step as call
use Rattle.spk_world_run.specs.Data.{NodePart, HostPart, no_track}

-- a node that was told nothing
abbrev pub fresh_part : Config → ℕ → Book → NodePart
fresh_part c capacity book = record {
  node = made c capacity (record { seq = 0; bd = 0; stamp = None }) book;
  published = [];
  starts = [];
  births = 0;
  opened = [];
}

-- a host whose first session began at moment 0, with a track of each of so many nodes
abbrev pub fresh_host : ℕ → session.Config → HostPart
fresh_host nodes c = record {
  host = record { session = call.after (record { config = c; began = None }) (call.Connected 0); nodes = [] };
  tracks = replicate nodes no_track;
}

-- nodes of one group and name
abbrev pub are_namesakes : Config → Config → Bool
are_namesakes a b = bytes_eq a.group b.group && bytes_eq a.node b.node

-- no two of the nodes have one group and one name
abbrev pub are_apart : List NodePart → Bool
are_apart [] = true
are_apart (n ∷ ns) = not (list_any (λ m. are_namesakes n.node.config m.node.config) ns) && are_apart ns

-- each host has a track of each node
abbrev pub has_tracks : ℕ → HostPart → Bool
has_tracks nodes h = length h.tracks == nodes

abbrev pub are_tracked : List NodePart → List HostPart → Bool
are_tracked nodes hosts = list_all (has_tracks (length nodes)) hosts
