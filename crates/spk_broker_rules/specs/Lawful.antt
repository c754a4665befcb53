-- What holds of the data of each broker.
use Rattle.std.specs.Prelude.{ℕ, ◌+◌, ◌<◌, ◌≤◌, length, List, [], ◌∷◌, Option, Some, None}
use Rattle.std.specs.List.{filter, AllByRecursion}
use Rattle.spk_broker_rules.specs.Data.{Connection, Newcomer, Session, Broker}
use Rattle.spk_broker_rules.specs.Step.{is_newcomer, sits}

-- a connection's number was given
abbrev pub IsLow : ℕ → Option Connection → Type 0
IsLow n None = Unit {0}
IsLow n (Some l) = l.conn ≤ n

-- keys rise, from above one number up to another
abbrev pub Rises : ℕ → ℕ → List Session → Type 0
Rises low top [] = low ≤ top
Rises low top (s ∷ ss) = (low < s.key) × Rises s.key top ss

-- how many stand under this connection: of those without an accepted CONNECT, and of sessions
abbrev pub places : ℕ → Broker → ℕ
places conn b = length (filter (is_newcomer conn) b.newcomers) + length (filter (sits conn) b.sessions)

-- The connections that are there were given a number, and each stands at one place. Sessions stand in the order in which they
-- were made, and each was made by a connection that has left those without an accepted CONNECT.
pub record IsLawful (b : Broker) : Type 0 where
  pub newcomers : AllByRecursion (λ (g : Newcomer). g.conn ≤ b.given) b.newcomers
  pub connections : AllByRecursion (λ (s : Session). IsLow b.given s.here) b.sessions
  pub keys : Rises 0 b.made b.sessions
  pub apart : (conn : ℕ) → places conn b ≤ 1
  pub made : b.made + length b.newcomers ≤ b.given
