-- The plain data of a world: its nodes with what they published, and its hosts with what each was handed of each node in its present
-- session. Texts are their bytes.
use Rattle.std.specs.Prelude.{ℕ, List, [], Option, None}
use Rattle.spk_payload.specs.Meaning.{PayloadData}
use Rattle.spk_edge.specs.View.{NodeData}
use Rattle.spk_host.specs.Data.{HostData}

-- a message that was published: its birth and its session, counted from 0, and its stamp
pub record PublishedData : Type 0 where
  pub birth : ℕ
  pub session : ℕ
  pub stamp : ℕ
  pub topic : List ℕ
  pub payload : PayloadData

-- a message that was consumed: its position among all that its node published
pub record ConsumedData : Type 0 where
  pub position : ℕ
  pub topic : List ℕ
  pub payload : PayloadData

-- A node: what it published, of each message the position of its birth's NBIRTH, how many births there are, and the moments at which
-- its sessions were opened.
pub record NodePart : Type 0 where
  pub node : NodeData
  pub published : List PublishedData
  pub starts : List ℕ
  pub births : ℕ
  pub opened : List ℕ

-- What a host was handed of a node in its present session: one past the greatest position, the session of the birth taken last, the
-- positions of the NBIRTHs; and what it consumed.
pub record Track : Type 0 where
  pub reach : ℕ
  pub session : Option ℕ
  pub births : List ℕ
  pub consumed : List ConsumedData

-- a host, with a track of each node
pub record HostPart : Type 0 where
  pub host : HostData
  pub tracks : List Track

pub record WorldData : Type 0 where
  pub nodes : List NodePart
  pub hosts : List HostPart

abbrev pub no_track : Track
no_track = record { reach = 0; session = None; births = []; consumed = [] }
