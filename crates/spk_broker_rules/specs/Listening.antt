-- Who is joined and who listens, and what a plain publish gives: QoS 0, without RETAIN.
use Rattle.std.specs.Prelude.{◌≡◌, ◌==◌, ◌&&◌, ℕ, Bool, true, false, List, [], None, is_some, if◌then◌else◌}
use Rattle.std.specs.List.{list_any}
use Rattle.spk_packets.specs.Fault.{first_of}
use Rattle.spk_packets.specs.Message.{Message, Publish, Unsubscribe, Disconnect}
use Rattle.spk_packets.specs.Spelling.{unwritable}
use Rattle.spk_topics.specs.Text.{topic_refusal}
use Rattle.spk_broker_rules.specs.Data.{Session, Broker, Send}
use Rattle.spk_broker_rules.specs.Words.{best, to_connection}
use Rattle.spk_broker_rules.specs.Plan.{Event, Packet, Closed}
use Rattle.spk_broker_rules.specs.Step.{Turn, conn_at, session_by, sits}

-- a CONNECT of this connection was accepted
abbrev pub is_joined : Broker → ℕ → Bool
is_joined b conn = is_some (session_by conn b.sessions)

-- the session has a grant that matches the topic
abbrev pub is_listening : List ℕ → Session → Bool
is_listening topic session = is_some (best topic session.grants)

-- a PUBLISH of QoS 0, without DUP and RETAIN (3.3)
abbrev pub plain_publish : List ℕ → List ℕ → Message
plain_publish topic payload = Publish false 0 false topic None payload

-- it is a packet, on a topic name
pub record IsPlain (topic payload : List ℕ) : Type 0 where
  pub writable : is_some (first_of (unwritable (plain_publish topic payload))) ≡ false
  pub named : is_some (topic_refusal topic) ≡ false

-- one send to the connection of each session that listens, in the order of sessions
abbrev pub given_to : List ℕ → List ℕ → Session → List Send
given_to topic payload session = if is_listening topic session then to_connection (conn_at session) (plain_publish topic payload) else []

-- the connection's session has a grant that matches the topic
abbrev pub listens : Broker → ℕ → List ℕ → Bool
listens b conn topic = list_any (λ (s : Session). sits conn s && is_listening topic s) b.sessions

-- its client ends it: a DISCONNECT, or the connection is gone
abbrev pub is_disconnect : Message → Bool
is_disconnect Disconnect = true
is_disconnect _ = false

-- it is an UNSUBSCRIBE (3.10)
abbrev pub is_unsubscribe : Message → Bool
is_unsubscribe (Unsubscribe id filters) = true
is_unsubscribe _ = false

-- its client ends the connection: by a DISCONNECT, or it is gone
abbrev pub lets_go : ℕ → Event → Bool
lets_go conn (Packet d p moment) = d == conn && is_disconnect p
lets_go conn (Closed d moment) = d == conn
lets_go conn _ = false

-- it takes grants back
abbrev pub takes_back : ℕ → Event → Bool
takes_back conn (Packet d p moment) = d == conn && is_unsubscribe p
takes_back conn _ = false

-- the caller is told to close this connection
abbrev pub is_closed_in : ℕ → Turn → Bool
is_closed_in conn t = list_any (λ d. d == conn) t.closes
