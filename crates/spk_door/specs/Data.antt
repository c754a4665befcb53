-- Who may come through the door, as plain data (own rules).
use Rattle.std.specs.Prelude.{ℕ, Bool, List, Option}
use Rattle.spk_access.specs.Rights.{RightsData}

-- somebody whom the door knows: a name, what is kept of the password, and what he may do
pub record UserData : Type 0 where
  pub name : List ℕ
  pub salt : List ℕ
  pub rounds : ℕ
  pub key : List ℕ
  pub rights : RightsData

pub record DoorData : Type 0 where
  -- who is known; none where everybody may come in
  pub users : Option (List UserData)
  -- whether topics belong to their nodes and hosts
  pub guard : Bool

-- what a CONNECT is answered
pub data EntryData : Type 0 where
  -- it comes in, as the user of this name, if it is one, and may do this
  Comes : (user : Option (List ℕ)) (rights : RightsData) → EntryData
  -- CONNACK with this code, and its connection is closed
  Refused : (code : ℕ) → EntryData

-- what becomes of a packet
pub data VerdictData : Type 0 where
  -- it goes on to the broker
  Passes : VerdictData
  -- a SUBSCRIBE of which not every entry is allowed: which are, in order
  Cuts : (allowed : List Bool) → VerdictData
  -- its connection is closed
  Closes : VerdictData
