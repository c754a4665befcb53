-- What a host of a world shows of a node. Messages of a view stand newest first.
use Rattle.std.specs.Prelude.{ℕ, Bool, List, ◌++◌, map, reverse}
use Rattle.spk_reading.specs.Data.{NumberedData}
use Rattle.spk_host_rules.specs.Data as rules
use Rattle.spk_host_node.specs.Step.{message_of}
use Rattle.spk_host.specs.Data.{HostData}
use Rattle.spk_host.specs.Nodes.{node_or}
use Rattle.spk_host.specs.Step.{fresh}
use Rattle.spk_edge_rules.specs.Config.{Setup}
use Rattle.spk_edge_rules.specs.Run.{Message}
use Rattle.spk_heard.specs.Read.{AreMessagesAt}
use Rattle.spk_shown.specs.Shown.{IsShownSo}

-- A host shows the values at the last message that it consumed of the node, as of one that is alive or not and followed or not. What it consumed
-- in its present session was published at these positions.
pub record IsSeen (s : Setup) (published : List Message) (alive followed : Bool) (consumed : List ℕ) (h : HostData) : Type 0 where
  -- what it consumed in its present session, in the order of time, and in the sessions before
  pub reads : List NumberedData
  pub earlier : List rules.Message
  pub are : AreMessagesAt s published consumed reads
  pub shown : IsShownSo alive followed (reverse (map message_of reads) ++ earlier) (node_or (fresh h) h.nodes s.config.group s.config.node).watch.view
