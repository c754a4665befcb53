-- Up to when no connection is silent for too long.
use Rattle.std.specs.Prelude.{◌≡◌, ◌≤◌, ◌+◌, ℕ, false, List, Option, Some, None}
use Rattle.std.specs.List.{AllByRecursion}
use Rattle.spk_broker_rules.specs.Data as plain
use Rattle.spk_broker_rules.specs.Words.{is_silent}

-- the connection, if there is one, isn't silent for too long at this moment
abbrev pub IsCalmConnection : ℕ → Option plain.Connection → Type 0
IsCalmConnection moment None = Unit {0}
IsCalmConnection moment (Some l) = is_silent moment l.alive l.heard ≡ false

-- none that sits is
abbrev pub AreCalm : ℕ → List plain.Session → Type 0
AreCalm moment sessions = AllByRecursion (λ (s : plain.Session). IsCalmConnection moment s.here) sessions

-- at this moment none that sits is, and none that is heard by now can be: the least keep alive but 0 is one second
pub record IsCalm (moment : ℕ) (b : plain.Broker) : Type 0 where
  pub sessions : AreCalm moment b.sessions
  pub soon : moment ≤ b.clock + 1500
