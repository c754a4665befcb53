-- What becomes of a session of which a packet came, or of which a send was dropped.
use Rattle.std.specs.Prelude.{ℕ}
use Rattle.std.specs.Option.{option_map}
use Rattle.spk_broker_rules.specs.Data as plain
use Rattle.spk_broker_rules.specs.Step.{connection_dropped, connection_heard}

abbrev pub session_heard : ℕ → ℕ → plain.Session → plain.Session
session_heard conn clock s = record s { here = option_map (connection_heard conn clock) s.here }

abbrev pub session_dropped : ℕ → plain.Session → plain.Session
session_dropped conn s = record s { here = option_map (connection_dropped conn) s.here }
