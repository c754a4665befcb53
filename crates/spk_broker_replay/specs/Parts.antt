-- A broker's data as parts, of which they are put together again (own rules).
use Rattle.std.specs.Prelude.{ℕ, List, [], ◌∷◌, ◌++◌, map}
use Rattle.spk_broker_rules.specs.Data.{Newcomer, Session, Stored, Broker, fresh_broker}
use Rattle.spk_broker_replay.specs.Replay.{timed_session}

-- one thing that a broker keeps
pub data Part : Type 0 where
  -- a connection without an accepted CONNECT
  Waiting : (conn : ℕ) → Part
  SessionPart : (session : Session) → Part
  Retained : (topic : List ℕ) (message : Stored) → Part

-- data in which nothing is kept, where so many connections were given a number and so many sessions were made
abbrev pub begun : ℕ → ℕ → ℕ → Broker
begun limit given made = record (fresh_broker limit) { given = given; made = made }

-- with one more, behind those that are there
abbrev pub with_part : Broker → Part → Broker
with_part b (Waiting conn) = record b { newcomers = b.newcomers ++ (record { conn = conn; heard = 0; drops = 0 }) ∷ [] }
with_part b (SessionPart s) = record b { sessions = b.sessions ++ s ∷ [] }
with_part b (Retained topic message) = record b { retained = b.retained ++ (topic, message) ∷ [] }

abbrev pub waiting_of : Newcomer → Part
waiting_of g = Waiting g.conn

abbrev pub session_of : Session → Part
session_of s = SessionPart (timed_session s)

abbrev pub retained_of : List ℕ × Stored → Part
retained_of e = Retained e.0 e.1

-- all that a broker keeps, in order
abbrev pub parts : Broker → List Part
parts b = map waiting_of b.newcomers ++ (map session_of b.sessions ++ map retained_of b.retained)
