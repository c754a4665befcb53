-- A world as it begins.
use Rattle.std.specs.Prelude.{◌≡◌, List, [], length, map, replicate, None, ℕ}
use Rattle.spk_edge.specs.Along.{node_of}
use Rattle.spk_edge_rules.specs.Config.{Setup}
use Rattle.spk_host_session.specs.Data as session
use Rattle.spk_host_session.specs.Step as call
use Rattle.spk_world_rules.specs.Events.{HostData, World}
use Rattle.spk_world_run.specs.Data.{HostPart, NodePart, WorldData, no_track}

-- a node that was told nothing
abbrev pub new_part : Setup → NodePart
new_part s = record { node = node_of s []; published = []; starts = []; births = 0; opened = [] }

-- a host whose first session began at moment 0, with a track of each of so many nodes
abbrev pub new_host : ℕ → session.Config → HostPart
new_host nodes c = record {
  host = record { session = call.after (record { config = c; began = None }) (call.Connected 0); nodes = [] };
  tracks = replicate nodes no_track;
}

-- what a world asks of a host
abbrev pub host_of : session.Config → HostData
host_of c = record { wait = c.wait; width = c.width }

-- The data of nodes that were told nothing, and of hosts whose first sessions began at moment 0.
pub record IsFresh (w : World) (configs : List session.Config) (d : WorldData) : Type 0 where
  pub waits : w.hosts ≡ map host_of configs
  pub nodes : d.nodes ≡ map new_part w.nodes
  pub hosts : d.hosts ≡ map (new_host (length w.nodes)) configs
