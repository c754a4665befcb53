-- A session in the midst of a call.
use Rattle.std.specs.Prelude.{Option}
use Rattle.spk_broker_rules.specs.Data as plain

-- as it was before the call, and as it is by now: none where it ended
pub record Both : Type 0 where
  pub was : plain.Session
  pub now : Option plain.Session
