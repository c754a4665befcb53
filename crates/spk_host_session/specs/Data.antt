-- What a host application is, and whether it is within a session. Texts are their bytes.
use Rattle.std.specs.Prelude.{ℕ, ◌-◌, List, ◌&&◌, Bool, length, nat_le, Option}
use Rattle.spk_topics.specs.Spark.{is_name}

pub record Config : Type 0 where
  pub name : List ℕ
  pub group : List ℕ
  pub wait : ℕ
  pub keep : ℕ
  pub width : ℕ

-- a name that can stand in a topic, of at most 60,000 bytes (own bound)
abbrev pub is_short_name : List ℕ → Bool
is_short_name text = is_name text && nat_le (length text) 60000

abbrev pub is_good : Config → Bool
is_good c = is_short_name c.name && is_short_name c.group

-- The names of a node whose NCMD topic has at most 65,535 bytes (MQTT 3.1.1, section 4.7.3): with 14 of its own.
abbrev pub is_address : List ℕ → List ℕ → Bool
is_address group node = is_name group && is_name node && nat_le (length group) 65521 && nat_le (length node) (65521 - length group)

-- within a session: the moment that its will says
pub record Session : Type 0 where
  pub config : Config
  pub began : Option ℕ
