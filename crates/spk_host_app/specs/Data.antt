-- The plain data of a host application's program, without its socket (own rules); and what a deed of it is. Moments are in milliseconds.
use Rattle.std.specs.Prelude.{ℕ, Bool, List, Option}
use Rattle.spk_packets.specs.Message.{Message}
use Rattle.spk_sequence.specs.declared.answer.Loss.{Loss}
use Rattle.spk_sequence.specs.declared.answer.Step.{Step}
use Rattle.spk_topics.specs.Spark.{Named}
use Rattle.spk_reading.specs.Data.{HeardData, NumberedData}
use Rattle.spk_host_session.specs.declared.fault.HostFault.{HostFault}
use Rattle.spk_host.specs.Data.{HostData}
use Rattle.spk_connection.specs.Data.{Connection}
use Rattle.spk_host_app.specs.declared.fault.HostAppFault.{HostAppFault}

-- the user name and the password that CONNECT says (MQTT 3.1.1, section 3.1.3)
pub record LoginData : Type 0 where
  pub user : List ℕ
  pub password : Option (List ℕ)

-- What is to be printed.
pub data Word : Type 0 where
  -- a message was consumed
  Consumed : (message : NumberedData) → Word
  -- what became of a message that came, or a gap
  Became : (step : Step) → Word
  -- an NDEATH of this node came
  Died : (group node : List ℕ) → Word
  -- messages that were held of this node are dropped
  Dropped : (group node : List ℕ) (loss : Loss) → Word
  -- SUBACK granted the subscription
  Granted : Word
  -- a rebirth was asked for, by this topic
  Asked : (topic : Named) → Word
  -- a message on this topic was refused
  Refused : (fault : HostFault) (topic : List ℕ) → Word
  -- CONNACK turned the host away
  TurnedAway : (code : ℕ) → Word
  -- SUBACK refused the subscription
  SubscriptionRefused : Word
  -- the connection ended
  Ended : Word

pub record Words : Type 0 where
  -- what is to be printed, oldest first
  pub said : List Word
  -- a connection began whose end isn't among it
  pub begun : Bool

pub record App : Type 0 where
  pub host : HostData
  pub connection : Connection
  pub login : Option LoginData
  pub words : Words
  -- the socket is to be closed
  pub closing : Bool

-- what became of what the host answered: all was said and sent; it was said, and there was no memory to send it; there was none to say it
pub data Fate : Type 0 where
  Whole : Fate
  Unsent : Fate
  Lost : Fate

pub data Deed : Type 0 where
  -- a connection began
  Began : (now : ℕ) → Deed
  -- with it a session of the host
  Connected : (now : ℕ) (fate : Fate) → Deed
  -- bytes were read
  Read : (piece : List ℕ) (now : ℕ) → Deed
  -- the packet at the front of what was read was taken, and what it says came to the host; this is left
  Told : (packet : Message) (rest : List ℕ) (heard : HeardData) (now : ℕ) (fate : Fate) → Deed
  -- the packet at the front was taken, a message that is refused
  Denied : (packet : Message) (rest : List ℕ) (fault : HostFault) (fate : Fate) → Deed
  -- the packet at the front was taken, a SUBACK that refuses the subscription
  Unsubscribed : (packet : Message) (rest : List ℕ) → Deed
  -- a moment came to the host
  Ticked : (now : ℕ) (fate : Fate) → Deed
  -- a rebirth was asked of this node, beside what the rules ask for
  Requested : (group node : List ℕ) (now : ℕ) (fate : Fate) → Deed
  -- PINGREQ was sent
  Pinged : (now : ℕ) → Deed
  -- the host's session was left with a farewell
  Stopped : (now : ℕ) (fate : Fate) → Deed
  -- the connection is given up, for this
  GaveUp : (fault : HostAppFault) → Deed
  -- these bytes, the next ones of what waits, were written
  Wrote : (bytes : List ℕ) (now : ℕ) → Deed
  -- the connection is over, or a try came to none
  Over : (now : ℕ) → Deed
  -- the oldest of what was to be printed was handed out
  Printed : (word : Word) → Deed
