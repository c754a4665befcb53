-- A world: edge nodes, host applications, and what is done in it, one thing at a time. Messages are handed over by their positions
-- among all that their node published, deaths by the session that died.
use Rattle.std.specs.Prelude.{ℕ, ◌<◌, ◌≤◌, List, [], get_or, None}
use Rattle.std.specs.List.{AllByRecursion}
use Rattle.spk_device.specs.Book.{empty_book}
use Rattle.spk_sequence.specs.NodeRecord.{RunsOn}
use Rattle.spk_edge_rules.specs.Config.{Setup}
use Rattle.spk_edge_rules.specs.Inputs as edge

-- a host application: how long a held message waits, in milliseconds, and how wide its window is
pub record HostData : Type 0 where
  pub wait : ℕ
  pub width : ℕ

-- A world: its nodes and its hosts, by number from 0.
pub record World : Type 0 where
  pub nodes : List Setup
  pub hosts : List HostData

-- What is done: an input comes to a node; the message of a position of a node, or the NDEATH of one of its sessions, counted from 0,
-- is handed to a host; a moment comes to a host; a host's session ends, and its next one begins.
pub data Deed : Type 0 where
  AtNode : (node : ℕ) (input : edge.Input) → Deed
  Hand : (host node position now : ℕ) → Deed
  Death : (host node session now : ℕ) → Deed
  Tick : (host now : ℕ) → Deed
  Renew : (host now : ℕ) → Deed

-- windows have 1 to 96 places
pub record HasWidth (h : HostData) : Type 0 where
  pub some_places : 0 < h.width
  pub few_places : h.width ≤ 96

-- the same of all hosts of a world
abbrev pub HasWidths : World → Type 0
HasWidths w = AllByRecursion HasWidth w.hosts

-- ---- by number; where there is none, one that nothing is handed to

-- a node that nothing comes to, with no name and no metric
abbrev pub no_node : Setup
no_node = record {
  config = record { group = []; node = []; primary = None; keep = 0; numbering = RunsOn };
  capacity = 0;
  seq = 0;
  bd = 0;
  stamp = None;
  book = empty_book;
}

-- a host that nothing comes to
abbrev pub no_host : HostData
no_host = record { wait = 0; width = 1 }

-- the node of this number
abbrev pub node_at : World → ℕ → Setup
node_at w n = get_or w.nodes n no_node

-- the host of this number
abbrev pub host_at : World → ℕ → HostData
host_at w h = get_or w.hosts h no_host
