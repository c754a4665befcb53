-- The plain data of what a host shows of one node, and of when it asked the node for a rebirth. Texts are their bytes, moments
-- are milliseconds, lists of messages and events stand newest first.
use Rattle.std.specs.Prelude.{ℕ, Bool, false, List, Option, None}
use Rattle.spk_payload.specs.Meaning.{MetricData}
use Rattle.spk_payload.specs.Typing.{Typed}

-- what is shown of a metric: nothing of one that is null or has no value, its value by its datatype, or that it has another
pub data Shown : Type 0 where
  Nothing : Shown
  Value : Typed → Shown
  Other : Shown

-- a metric as its birth named it, and what is shown of it
pub record Row : Type 0 where
  pub name : List ℕ
  pub alias : Option ℕ
  pub datatype : Option ℕ
  pub shown : Shown

-- A device that a host shows. Stale says that all its metrics are.
pub record Device : Type 0 where
  pub name : List ℕ
  -- it had a DBIRTH since the node's last NBIRTH
  pub born : Bool
  pub online : Bool
  pub stale : Bool
  -- in the order of its birth
  pub rows : List Row

-- A node that a host shows. Stale says that all metrics of the node's own are.
pub record View : Type 0 where
  pub online : Bool
  pub stale : Bool
  -- in the order of its birth
  pub rows : List Row
  -- in the order of their first DBIRTHs
  pub devices : List Device

-- a message of the node that was consumed, with its metrics in the payload's order
pub data Message : Type 0 where
  NodeBirth : List MetricData → Message
  NodeData : List MetricData → Message
  DeviceBirth : List ℕ → List MetricData → Message
  DeviceData : List ℕ → List MetricData → Message
  DeviceDeath : List ℕ → Message

-- What a host hears of a node by the node's order: a message consumed at a moment, a gap, or a message that came while the
-- node wasn't followed; and that the node's session or the host's is over.
pub data Event : Type 0 where
  Consumed : Message → ℕ → Event
  Gap : ℕ → Event
  NotLive : ℕ → Event
  Over : Event

-- what a host keeps of a node: the view from its first birth on, when it asked last, and whether a birth was taken since
pub record Watch : Type 0 where
  pub view : Option View
  pub asked : Option ℕ
  pub born_since : Bool

-- nothing was heard of the node
abbrev pub unheard : Watch
unheard = record { view = None; asked = None; born_since = false }
