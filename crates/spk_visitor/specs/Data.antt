-- One client of a broker behind the door, as plain data (own rules).
use Rattle.std.specs.Prelude.{ℕ, Bool, List, Option}
use Rattle.spk_packets.specs.Message.{Message}
use Rattle.spk_access.specs.Rights.{RightsData}

pub data StageData : Type 0 where
  -- its CONNECT isn't whole
  Outside : StageData
  -- it came in, and may do this
  Inside : (rights : RightsData) → StageData
  -- nothing more of it is taken
  Over : StageData

-- what a call answers
pub data AnswerData : Type 0 where
  -- no whole packet waits
  More : AnswerData
  -- a packet went on
  Goes : AnswerData
  -- of a SUBSCRIBE the allowed entries went on, if there are some: its identifier, and which are allowed, in order
  Cuts : (id : ℕ) (allowed : List Bool) → AnswerData
  -- CONNACK with this code is due, and the connection's end
  Refuses : (code : ℕ) → AnswerData
  -- its connection is to be closed
  Closes : AnswerData

-- what a packet comes to: how its client stands behind it, what goes on to the broker, and the answer
pub record Outcome : Type 0 where
  pub stage : StageData
  pub passes : Option Message
  pub answer : AnswerData
