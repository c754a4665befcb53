-- How many grants a session has.
use Rattle.std.specs.Prelude.{ℕ, length, Option, Some, None}
use Rattle.spk_broker_rules.specs.Data as plain

abbrev pub grants_in : Option plain.Session → ℕ
grants_in None = 0
grants_in (Some s) = length s.grants
