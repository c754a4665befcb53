-- What the users of a broker hold, as plain data (own rules). A user is a number: its place in the list of limits.
use Rattle.std.specs.Prelude.{ℕ, Bool, List, [], Option}
use Rattle.spk_quota.specs.declared.limits.Limits.{Limits}

-- a session (MQTT 3.1.1, section 3.1.2.4): whose it is, its client identifier, whether it was made with clean session 0, the number of its connection, if it has one, and
-- since when its client is away
pub record SessionData : Type 0 where
  pub user : ℕ
  pub client : List ℕ
  pub kept : Bool
  pub conn : Option ℕ
  pub since : ℕ

-- a topic filter of a session
pub record FilterData : Type 0 where
  pub user : ℕ
  pub client : List ℕ
  pub filter : List ℕ

-- a retained message (3.3.1.3), or the will with RETAIN of the connection of this number, which may become one: the bytes of its topic and its payload
pub record MessageData : Type 0 where
  pub user : ℕ
  pub topic : List ℕ
  pub bytes : ℕ
  pub will_of : Option ℕ

pub record QuotaData : Type 0 where
  pub limits : List Limits
  pub sessions : List SessionData
  pub filters : List FilterData
  pub messages : List MessageData

-- nobody holds anything
abbrev pub fresh : List Limits → QuotaData
fresh limits = record { limits = limits; sessions = []; filters = []; messages = [] }
