-- The plain data of an edge node's program, without its socket, its clock and its disk; and what a deed is. Moments are in milliseconds.
use Rattle.std.specs.Prelude.{ℕ, Bool, List, Option}
use Rattle.spk_connection.specs.Data.{Connection}
use Rattle.spk_edge.specs.View.{NodeData}
use Rattle.spk_edge.specs.declared.message.Out.{Out}
use Rattle.spk_edge.specs.declared.message.Write.{Write}
use Rattle.spk_edge_rules.specs.Inputs.{Input}
use Rattle.spk_edge_rules.specs.declared.fault.EdgeFault.{EdgeFault}
use Rattle.spk_packets.specs.Message.{Message}
use Rattle.spk_record.specs.declared.record.Record.{Record}
use Rattle.spk_store.specs.Data.{Kept}

-- the user name and the password that CONNECT says
pub record LoginData : Type 0 where
  pub user : List ℕ
  pub password : Option (List ℕ)

pub record App : Type 0 where
  pub node : NodeData
  pub connection : Connection
  pub login : Option LoginData
  -- the record on the disk
  pub kept : Record
  -- the record that is to be kept before anything more is written, if there is one
  pub wanted : Option Record
  -- the values that commands ask to be written to the machine, oldest first
  pub writes : Kept Write
  -- the connection is to be closed once nothing waits to be written, and at this moment at the latest
  pub closing : Option ℕ
  -- the node opens no connection any more
  pub stopped : Bool

-- what came of a packet that was taken
pub data Coming : Type 0 where
  -- the node was told it and answered this, which was sent, or dropped
  Answered : (out : Out) (sent : Bool) → Coming
  -- the node refused it, and it was acknowledged where its QoS is 1
  Refused : (fault : EdgeFault) → Coming
  -- there was no memory for it: the connection is given up
  Dropped : Coming

pub data Deed : Type 0 where
  -- the TCP connection stands: the node opened a session, and its CONNECT was sent as these bytes, or dropped
  Opened : (now : ℕ) (out : Out) (bytes : List ℕ) (sent : Bool) → Deed
  -- these bytes were read
  Read : (piece : List ℕ) (now : ℕ) → Deed
  -- this packet was taken off the front of what was read, and this came of it
  Heard : (packet : Message) (now : ℕ) (came : Coming) → Deed
  -- the node was told this by the program, and answered this, which was sent, or dropped
  Told : (input : Input) (out : Out) (sent : Bool) → Deed
  -- PINGREQ was sent
  Asked : (now : ℕ) → Deed
  -- these bytes, the next ones of what was sent, were written: one at least
  Wrote : (first : ℕ) (others : List ℕ) (now : ℕ) → Deed
  -- the record that was wanted is on the disk
  Saved : (saved : Record) → Deed
  -- the session is over, and the connection is to be closed
  GaveUp : (now : ℕ) → Deed
  -- no connection is opened from now on
  Stopped : Deed
  -- the oldest value was handed to the machine
  Handed : Deed
  -- the connection is over, or a try came to none
  Over : (now : ℕ) → Deed
