-- The plain data of a client's connection with a broker, without its socket (MQTT 3.1.1, section 4.2).
use Rattle.std.specs.Prelude.{ℕ, List}
use Rattle.spk_link.specs.Data.{Link}

pub record Connection : Type 0 where
  -- whether there is a connection, and when something is due
  pub link : Link
  -- the bytes that were read and aren't taken as packets
  pub unread : List ℕ
  -- the bytes that were sent and aren't written
  pub unwritten : List ℕ
