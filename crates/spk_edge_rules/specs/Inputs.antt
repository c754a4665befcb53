-- What comes to an edge node, and what it is asked to do.
use Rattle.std.specs.Prelude.{ℕ, Bool, List, Option}
use Rattle.spk_payload.specs.Typing.{Typed}
use Rattle.spk_device.specs.declared.owner.Owner.{Owner}

-- What an input asks or says.
pub data Act : Type 0 where
  -- a connection is to be opened
  Open : Act
  -- the server accepted it
  Accepted : Act
  -- a metric, by its alias, has a value
  Change : (alias : ℕ) (value : Option Typed) → Act
  -- several metrics of one owner, by their aliases, have values
  Changes : (changes : List (ℕ × Option Typed)) → Act
  -- a device, by its name, is up or down
  Turn : (name : List ℕ) (up : Bool) → Act
  -- a message on a topic of commands: its topic and its payload
  Command : (topic : List ℕ) (payload : List ℕ) → Act
  -- a message on the topic of the primary host
  State : (payload : List ℕ) → Act
  -- kept changes are to be sent
  Drain : Act
  -- the session is to be ended in order
  Stop : Act
  -- the connection is gone
  Cut : Act
  -- the server didn't accept it
  TurnedAway : Act
  -- a packet that asks for nothing
  Pass : Act

-- An act at a moment in milliseconds since 1970, and the identifier of the message that brought it, where that is to be
-- acknowledged. A cut has the moment 0.
pub record Input : Type 0 where
  pub now : ℕ
  pub ack : Option ℕ
  pub act : Act

-- a change of a value that is kept to be sent later, and when it came
pub record ChangeData : Type 0 where
  pub owner : Owner
  pub alias : ℕ
  pub value : Option Typed
  pub time : ℕ

-- what a command writes: a metric by its alias, and the value
pub record WriteData : Type 0 where
  pub alias : ℕ
  pub value : Typed
