-- A broker's data put together again, part by part, as they were kept before a restart (own rule).
use Rattle.std.specs.Prelude.{◌≡◌, ℕ, ◌+◌, ◌==◌, Bool, true, false, not, ◌&&◌, nat_lt, nat_le, List, [], ◌∷◌, length, string_bytes, Option, Some, None}
use Rattle.std.specs.Option.{option_map_or}
use Rattle.spk_packets.specs.Message.{Message, Publish}
use Rattle.spk_packets.specs.Spelling.{is_empty}
use Rattle.spk_session.specs.PacketIds.{is_in}
use Rattle.spk_broker_rules.specs.Data as plain
use Rattle.spk_broker_rules.specs.Step.{knows}
use Rattle.spk_broker_rules.specs.Table.{has}
use Rattle.spk_broker_rules.specs.Words.{most_topics}
use Rattle.spk_broker.specs.Filters.{is_filter}
use Rattle.spk_broker.specs.Sendable.{id_at, is_sendable}
use Rattle.spk_broker.specs.declared.message.Message as kept
use Rattle.spk_broker.specs.declared.part_fault.PartFault.{PartFault}
use Rattle.spk_broker.specs.declared.part_fault.PartFault.TheVariants.{NoMemory, Unfit}

-- ---- the parts

abbrev pub message_view : kept.Message → plain.AppMessage
message_view m = record { topic = string_bytes m.topic; payload = m.payload.items; qos = m.qos; retain = m.retain }

-- a session without a connection, grants, identifiers and messages
abbrev pub bare_session : ℕ → List ℕ → Bool → plain.Session
bare_session key client kept = record { key = key; client = client; kept = kept; here = None; grants = []; used = []; last = 0; in_flight = [] }

-- a connection with a keep alive of one second that was heard at the moment 0
abbrev pub kept_connection : ℕ → Option plain.AppMessage → plain.Connection
kept_connection conn will = record { conn = conn; alive = 1; heard = 0; will = will; drops = 0 }

-- a PUBLISH of such a message, with any identifier where it has one
abbrev pub sendable_as : plain.AppMessage → Message
sendable_as p = Publish false p.qos false p.topic (id_at p.qos) p.payload

-- topic and payload of a PUBLISH
abbrev pub words_of : Message → Option (List ℕ × List ℕ)
words_of (Publish dup qos retain topic id payload) = Some (topic, payload)
words_of _ = None

-- ---- which fit

-- a message that can be written as a PUBLISH
abbrev pub is_app_message : plain.AppMessage → Bool
is_app_message p = is_sendable p.topic p.payload p.qos

-- a filter with a QoS that is granted
abbrev pub is_grant : List ℕ → ℕ → Bool
is_grant filter qos = is_filter filter && nat_le qos 1

-- one more identifier
abbrev pub is_free : ℕ → List ℕ → Bool
is_free id used = not (id == 0) && (not (is_in used id) && nat_lt (length used) 1024)

-- a message that a session keeps
abbrev pub is_in_flight : ℕ → plain.AppMessage → Bool
is_in_flight id p = (p.qos == 1) && (not (id == 0) && is_app_message p)

-- the number of the last of these sessions
abbrev pub last_key : ℕ → List plain.Session → ℕ
last_key low [] = low
last_key low (s ∷ ss) = last_key s.key ss

-- a connection whose number was given, and that isn't there yet
abbrev pub is_new : plain.Broker → ℕ → Bool
is_new b conn = nat_le conn b.given && not (knows b conn)

-- so is that of a session, if it has one
abbrev pub is_new_connection : plain.Broker → Option plain.Connection → Bool
is_new_connection b here = option_map_or (λ (l : plain.Connection). is_new b l.conn) here true

abbrev pub is_newcomer_fit : plain.Broker → ℕ → Bool
is_newcomer_fit b conn = is_new b conn && nat_lt (b.made + length b.newcomers) b.given

-- a session that was made behind those that are there
abbrev pub is_session_fit : plain.Broker → plain.Session → Bool
is_session_fit b s = nat_lt (last_key 0 b.sessions) s.key && (nat_le s.key b.made && is_new_connection b s.here)

-- a topic that has no retained message and may have one
abbrev pub is_new_topic : plain.Broker → List ℕ → Bool
is_new_topic b topic = not (has topic b.retained) && nat_lt (length b.retained) most_topics

-- one more retained message
abbrev pub is_retained_fit : plain.Broker → List ℕ → List ℕ → ℕ → Bool
is_retained_fit b topic payload qos = is_sendable topic payload qos && (not (is_empty payload) && is_new_topic b topic)

-- ---- refusals

abbrev pub part_number : PartFault → ℕ
part_number NoMemory = 1
part_number Unfit = 139

-- what a part is refused with: Unfit exactly where it doesn't fit, else want of memory
abbrev pub IsRefused : Bool → PartFault → Type 0
IsRefused fits NoMemory = fits ≡ true
IsRefused fits Unfit = fits ≡ false
