-- The plain data of a host application: its session, and what it keeps of each node. Texts are their bytes.
use Rattle.std.specs.Prelude.{ℕ, List, Option}
use Rattle.spk_reading.specs.Data.{NumberedData}
use Rattle.spk_sequence.specs.declared.answer.Match.{Match}
use Rattle.spk_sequence.specs.declared.answer.Step.{Step}
use Rattle.spk_topics.specs.Spark.{Named}
use Rattle.spk_host_session.specs.Data.{Session}
use Rattle.spk_host_node.specs.Data.{NodeData}

-- a node by its names
pub record Entry : Type 0 where
  pub group : List ℕ
  pub node : List ℕ
  pub kept : NodeData

pub record HostData : Type 0 where
  pub session : Session
  -- in the order in which they were first heard
  pub nodes : List Entry

-- What a call hands out: the messages consumed, in order; what became of the message that was handed in, or a gap for each node
-- that had one, and the places of these nodes; whether the NDEATH that was handed in matched; the topics of the rebirth requests; and
-- the bytes of the packets to be sent.
pub record OutData : Type 0 where
  pub consumed : List NumberedData
  pub steps : List Step
  pub gaps : List ℕ
  pub death : Option Match
  pub rebirths : List Named
  pub packets : List (List ℕ)
