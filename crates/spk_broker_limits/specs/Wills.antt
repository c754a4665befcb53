-- The wills of connections: which of them an event routes, and what else it routes (MQTT 3.1.1, 3.1.2.5 and 3.14).
use Rattle.std.specs.Prelude.{ℕ, ◌==◌, Bool, false, not, ◌&&◌, List, [], ◌∷◌, ◌++◌, map, length, Option, None, is_some, if◌then◌else◌}
use Rattle.std.specs.List.{filter, flat_map}
use Rattle.std.specs.Option.{option_map, option_map_or}
use Rattle.spk_packets.specs.Fault.{first_of}
use Rattle.spk_packets.specs.Message.{Message, Publish}
use Rattle.spk_packets.specs.Spelling.{unwritable}
use Rattle.spk_topics.specs.Text.{topic_refusal}
use Rattle.spk_session.specs.declared.answer.Sort.TheVariants as sort
use Rattle.spk_broker_rules.specs.Data.{AppMessage, Connection, Session, Broker}
use Rattle.spk_broker_rules.specs.Words.{option_list}
use Rattle.spk_broker_rules.specs.Plan.{Event, Packet, Fault, Closed, Refused}
use Rattle.spk_broker_rules.specs.Listening.{is_disconnect, is_joined}
use Rattle.spk_broker_rules.specs.Step.{after, session_by, step}

-- the will of a connection whose CONNECT was accepted, where it has one
abbrev pub will_in : Broker → ℕ → Option AppMessage
will_in b conn = option_map_or (λ (s : Session). option_map_or (λ (l : Connection). l.will) s.here None) (session_by conn b.sessions) None

-- the event is this connection's DISCONNECT
abbrev pub disconnects : ℕ → Event → Bool
disconnects conn (Packet d p moment) = d == conn && is_disconnect p
disconnects conn _ = false

-- the connection is joined no more behind the event, which isn't its DISCONNECT
abbrev pub is_lost : Broker → Event → ℕ → Bool
is_lost b e conn = not (is_joined (step b e).broker conn) && not (disconnects conn e)

-- its will beside its number, where these connections are meant
abbrev pub will_where : (ℕ → Bool) → Connection → List (ℕ × AppMessage)
will_where meant l = if meant l.conn then map (λ (will : AppMessage). (l.conn, will)) (option_list l.will) else []

-- the wills of the joined connections that are meant, in the order of sessions
abbrev pub wills_where : (ℕ → Bool) → List Session → List (ℕ × AppMessage)
wills_where meant sessions = flat_map (λ (s : Session). option_map_or (will_where meant) s.here []) sessions

-- the wills of the connections that an event ends otherwise than by DISCONNECT
abbrev pub lost : Broker → Event → List (ℕ × AppMessage)
lost b e = wills_where (is_lost b e) b.sessions

-- those of a list of events, newest first
abbrev pub all_lost : ℕ → List Event → List (ℕ × AppMessage)
all_lost limit [] = []
all_lost limit (e ∷ es) = lost (after limit es) e ++ all_lost limit es

-- the message of a PUBLISH on a topic name
abbrev pub message_of : Message → List AppMessage
message_of (Publish dup qos retain topic id payload) =
    if is_some (topic_refusal topic) then [] else record { topic = topic; payload = payload; qos = qos; retain = retain } ∷ []
message_of _ = []

-- the message of a packet that can be written, of a connection whose CONNECT was accepted
abbrev pub taken : Broker → Event → List AppMessage
taken b (Packet conn p moment) =
    if is_some (first_of (unwritable p)) then [] else if is_joined b conn then message_of p else []
taken b _ = []

-- those of a list of events, newest first
abbrev pub all_taken : ℕ → List Event → List AppMessage
all_taken limit [] = []
all_taken limit (e ∷ es) = taken (after limit es) e ++ all_taken limit es

-- how many of these messages are such
abbrev pub count : (AppMessage → Bool) → List AppMessage → ℕ
count such app_messages = length (filter such app_messages)

abbrev pub messages : List (ℕ × AppMessage) → List AppMessage
messages wills = map (λ (w : ℕ × AppMessage). w.1) wills

-- the wills of this connection among them
abbrev pub of_conn : ℕ → List (ℕ × AppMessage) → List (ℕ × AppMessage)
of_conn conn wills = filter (λ (w : ℕ × AppMessage). w.0 == conn) wills

-- a connection without its will, where it is this one
abbrev pub unwilled : ℕ → Connection → Connection
unwilled conn l = if l.conn == conn then record l { will = None } else l

-- the same data, but that this connection has no will
abbrev pub without_will : ℕ → Broker → Broker
without_will conn b = record b { sessions = map (λ (s : Session). record s { here = option_map (unwilled conn) s.here }) b.sessions }

-- The event ends this connection by itself: it is gone, what came is no packet, or a send to it that isn't a QoS 0 PUBLISH was refused.
abbrev pub is_its_end : ℕ → Event → Bool
is_its_end conn (Fault d f moment) = d == conn
is_its_end conn (Closed d moment) = d == conn
is_its_end conn (Refused d sort.Other moment) = d == conn
is_its_end conn _ = false
