-- What lines put together, one after the other: a broker's data, and the session that is under way (own rules).
use Rattle.std.specs.Prelude.{ℕ, Bool, not, List, [], ◌∷◌, ◌++◌, Option, Some, None}
use Rattle.std.specs.Option.{option_map, option_map_or}
use Rattle.spk_packets.specs.Message.{Message, Connect, Publish, Subscribe}
use Rattle.spk_broker_rules.specs.Data.{AppMessage, InFlight, Connection, Session, Broker}
use Rattle.spk_broker_rules.specs.Table.{Table}
use Rattle.spk_broker_replay.specs.Parts as part
use Rattle.spk_broker_replay.specs.Parts.{begun, with_part}
use Rattle.spk_broker_events.specs.Line.{Kept}
use Rattle.spk_broker_events.specs.declared.line.Kind.{Kind}
use Rattle.spk_broker_events.specs.declared.line.Kind.TheVariants as kind

pub record Stand : Type 0 where
  pub broker : Broker
  pub session : Option Session

-- the data, with the session that is under way
abbrev pub ended : Stand → Broker
ended st = option_map_or (λ (s : Session). with_part st.broker (part.SessionPart s)) st.session st.broker

-- ---- what a packet says of a line

-- a client, and whether it is kept
abbrev pub client_in : Message → Option (List ℕ × Bool)
client_in (Connect client clean alive will) = Some (client, not clean)
client_in _ = None

-- its entries
abbrev pub entries_in : Message → Table ℕ
entries_in (Subscribe id entries) = entries
entries_in _ = []

-- a message, with DUP and its identifier
pub record Sent : Type 0 where
  pub dup : Bool
  pub id : Option ℕ
  pub app_message : AppMessage

abbrev pub sent_in : Message → Option Sent
sent_in (Publish dup qos retain topic id payload) = Some (record { dup = dup; id = id; app_message = record { topic = topic; payload = payload; qos = qos; retain = retain } })
sent_in _ = None

-- what a packet says, where there is one
abbrev pub of_packet : {X : Type 0} → (Message → Option X) → Option Message → Option X
of_packet f None = None
of_packet f (Some p) = f p

abbrev pub in_flight_of : Sent → List InFlight
in_flight_of x = option_map_or (λ id. (record { id = id; app_message = x.app_message; handed = x.dup }) ∷ []) x.id []

abbrev pub in_flight_in : Option Message → List InFlight
in_flight_in p = option_map_or in_flight_of (of_packet sent_in p) []

-- ---- the session under way

abbrev pub bare_session : ℕ → List ℕ × Bool → Session
bare_session key who = record { key = key; client = who.0; kept = who.1; here = None; grants = []; used = []; last = 0; in_flight = [] }

-- a connection with a keep alive of one second that was heard at the moment 0
abbrev pub kept_connection : ℕ → Option AppMessage → Connection
kept_connection conn will = record { conn = conn; alive = 1; heard = 0; will = will; drops = 0 }

abbrev pub sits : Kept → Session → Session
sits l s = record s { here = Some (kept_connection l.first (option_map (λ (x : Sent). x.app_message) (of_packet sent_in l.packet))) }

abbrev pub granted : Kept → Session → Session
granted l s = record s { grants = s.grants ++ option_map_or entries_in l.packet [] }

abbrev pub in_use : Kept → Session → Session
in_use l s = record s { used = s.used ++ l.first ∷ []; last = l.first }

abbrev pub gave : Kept → Session → Session
gave l s = record s { last = l.first }

abbrev pub copied : Kept → Session → Session
copied l s = record s { in_flight = s.in_flight ++ in_flight_in l.packet }

abbrev pub in_session : (Session → Session) → Stand → Stand
in_session f st = record st { session = option_map f st.session }

-- ---- one line

abbrev pub apart : Broker → Stand
apart b = record { broker = b; session = None }

abbrev pub after_kind : ℕ → Stand → Kept → Kind → Stand
after_kind limit st l kind.Numbers = apart (begun limit l.first l.second)
after_kind limit st l kind.Waiting = apart (with_part (ended st) (part.Waiting l.first))
after_kind limit st l kind.Session = record { broker = ended st; session = option_map (bare_session l.first) (of_packet client_in l.packet) }
after_kind limit st l kind.Sits = in_session (sits l) st
after_kind limit st l kind.Grant = in_session (granted l) st
after_kind limit st l kind.InUse = in_session (in_use l) st
after_kind limit st l kind.Last = in_session (gave l) st
after_kind limit st l kind.Unacknowledged = in_session (copied l) st
after_kind limit st l kind.Retained =
    apart (option_map_or (λ (x : Sent). with_part (ended st) (part.Retained x.app_message.topic (record { payload = x.app_message.payload; qos = x.app_message.qos }))) (of_packet sent_in l.packet) (ended st))

abbrev pub after : ℕ → Stand → Kept → Stand
after limit st l = after_kind limit st l l.kind
