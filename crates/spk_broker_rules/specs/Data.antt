-- The plain data of a broker: what it keeps of connections, sessions and retained messages. Texts are their bytes,
-- moments are milliseconds.
use Rattle.std.specs.Prelude.{ℕ, Bool, List, [], Option}
use Rattle.spk_packets.specs.Message.{Message}
use Rattle.spk_broker_rules.specs.Table.{Table}

-- an application message: a publish, or a will when it is routed (MQTT 3.1.1, 3.3 and 3.1.2.5)
pub record AppMessage : Type 0 where
  pub topic : List ℕ
  pub payload : List ℕ
  pub qos : ℕ
  pub retain : Bool

-- a QoS 1 message that a kept session hasn't acknowledged, and whether it was ever handed out
pub record InFlight : Type 0 where
  pub id : ℕ
  pub app_message : AppMessage
  pub handed : Bool

-- A connection with an accepted CONNECT: its number, its keep alive in seconds, the clock at its last packet, its will, and
-- how many sends were dropped on it.
pub record Connection : Type 0 where
  pub conn : ℕ
  pub alive : ℕ
  pub heard : ℕ
  pub will : Option AppMessage
  pub drops : ℕ

-- an open connection without an accepted CONNECT
pub record Newcomer : Type 0 where
  pub conn : ℕ
  pub heard : ℕ
  pub drops : ℕ

-- A session (3.1.2.4) and all that hangs on it.
pub record Session : Type 0 where
  -- its number: sessions are numbered from 1 in the order in which they were made
  pub key : ℕ
  pub client : List ℕ
  -- made with clean session 0
  pub kept : Bool
  -- its connection, where it has one
  pub here : Option Connection
  -- the QoS of each topic filter, in the order in which the filters were first given
  pub grants : Table ℕ
  -- the packet identifiers in use, in the order in which they were given, and the one given last, 0 where none was
  pub used : List ℕ
  pub last : ℕ
  -- of a kept session: what stands behind the identifiers in use
  pub in_flight : List InFlight

-- what is kept of a retained message beside its topic
pub record Stored : Type 0 where
  pub payload : List ℕ
  pub qos : ℕ

-- All that a broker keeps.
pub record Broker : Type 0 where
  -- the number of the drop that closes a connection; 0 acts as 1
  pub limit : ℕ
  -- how many connections were given a number: numbers are 1, 2, ..
  pub given : ℕ
  -- how many sessions were made
  pub made : ℕ
  -- the greatest moment of any event done
  pub clock : ℕ
  -- in the order of opening
  pub newcomers : List Newcomer
  -- in the order of making
  pub sessions : List Session
  -- in the order in which the present stay of each topic began
  pub retained : Table Stored

-- A packet for a connection. Its bytes are the packet's canonical spelling.
pub record Send : Type 0 where
  pub conn : ℕ
  pub packet : Message

-- the data of a new broker: nobody came, and nothing is retained
abbrev pub fresh_broker : ℕ → Broker
fresh_broker limit = record { limit = limit; given = 0; made = 0; clock = 0; newcomers = []; sessions = []; retained = [] }
