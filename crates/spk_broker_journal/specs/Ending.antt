-- The connections of a broker (own rules).
use Rattle.std.specs.Prelude.{ℕ, List}
use Rattle.spk_broker_rules.specs.Data.{Newcomer, Session}
use Rattle.spk_broker_rules.specs.Step.{conn_at}
use Rattle.spk_broker_rules.specs.Words.{option_list}

abbrev pub newcomer_conn : Newcomer → ℕ
newcomer_conn g = g.conn

-- that of a session, if it has one
abbrev pub conns_of : Session → List ℕ
conns_of s = option_list (conn_at s)
