-- What a broker keeps, line by line, in order (own rules): how many were numbered, the connections without CONNECT, the sessions, the retained messages.
use Rattle.std.specs.Prelude.{ℕ, ◌==◌, true, false, not, List, [], ◌∷◌, ◌++◌, map, Option, Some, None, if◌then◌else◌}
use Rattle.std.specs.List.{flat_map}
use Rattle.std.specs.Option.{option_map}
use Rattle.spk_packets.specs.Message.{Message, Connect, Publish, Subscribe}
use Rattle.spk_broker_rules.specs.Data.{AppMessage, InFlight, Connection, Newcomer, Session, Stored, Broker}
use Rattle.spk_broker_events.specs.Line.{Kept}
use Rattle.spk_broker_events.specs.declared.line.Kind.{Kind}
use Rattle.spk_broker_events.specs.declared.line.Kind.TheVariants as kind

abbrev pub line : Kind → ℕ → ℕ → Option Message → Kept
line k first second packet = record { kind = k; first = first; second = second; packet = packet }

-- each identifier has two bytes, so that any one stands for all where a message has one of QoS 1 and no other
abbrev pub any_id : ℕ → Option ℕ
any_id qos = if qos == 0 then None else Some 1

abbrev pub will_packet : AppMessage → Message
will_packet p = Publish false p.qos p.retain p.topic (any_id p.qos) p.payload

abbrev pub waiting_line : Newcomer → Kept
waiting_line g = line kind.Waiting g.conn 0 None

abbrev pub sits_line : Connection → Kept
sits_line l = line kind.Sits l.conn 0 (option_map will_packet l.will)

abbrev pub sits_lines : Option Connection → List Kept
sits_lines None = []
sits_lines (Some l) = sits_line l ∷ []

abbrev pub grant_line : List ℕ × ℕ → Kept
grant_line g = line kind.Grant 0 0 (Some (Subscribe 1 (g ∷ [])))

abbrev pub in_use_line : ℕ → Kept
in_use_line id = line kind.InUse id 0 None

abbrev pub in_flight_line : InFlight → Kept
in_flight_line c = line kind.Unacknowledged 0 0 (Some (Publish c.handed c.app_message.qos c.app_message.retain c.app_message.topic (Some c.id) c.app_message.payload))

abbrev pub session_line : Session → Kept
session_line s = line kind.Session s.key 0 (Some (Connect s.client (not s.kept) 0 None))

-- a session: its number and client, its connection, its grants, the identifiers in use and the one given last, what isn't acknowledged
abbrev pub session_lines : Session → List Kept
session_lines s =
    session_line s ∷ (sits_lines s.here ++ (map grant_line s.grants ++ (map in_use_line s.used ++ (line kind.Last s.last 0 None ∷ map in_flight_line s.in_flight))))

abbrev pub retained_line : List ℕ × Stored → Kept
retained_line e = line kind.Retained 0 0 (Some (Publish false e.1.qos true e.0 (any_id e.1.qos) e.1.payload))

abbrev pub lines : Broker → List Kept
lines b = line kind.Numbers b.given b.made None ∷ (map waiting_line b.newcomers ++ (flat_map session_lines b.sessions ++ map retained_line b.retained))
