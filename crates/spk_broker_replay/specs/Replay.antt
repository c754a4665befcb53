-- What of a broker's data survives a restart, and the events that lead there again (own rules).
use Rattle.std.specs.Prelude.{◌≡◌, ℕ, ◌+◌, ◌==◌, ◌≤◌, max, Bool, true, false, not, ◌&&◌, List, [], ◌∷◌, ◌++◌, map, Option, Some, None, if◌then◌else◌}
use Rattle.std.specs.List.{flat_map, AllByRecursion}
use Rattle.std.specs.Option.{option_map, option_map_or}
use Rattle.spk_packets.specs.Message.{Message, Connect, ConnAck, Publish, PubAck, Subscribe, SubAck, Unsubscribe, UnsubAck, PingReq, PingResp, Disconnect}
use Rattle.spk_session.specs.declared.answer.Sort.TheVariants as sort
use Rattle.spk_broker_rules.specs.Data.{Connection, Newcomer, Session, Broker}
use Rattle.spk_broker_rules.specs.Words.{option_list, is_silent}
use Rattle.spk_broker_rules.specs.Plan.{Event, Open, Packet, Fault, Closed, Tick, Refused}
use Rattle.spk_broker_rules.specs.Listening.{is_closed_in}
use Rattle.spk_broker_rules.specs.Step.{conn_at, silent_at, step}

-- ---- what survives

-- a connection without its keep alive, when it was heard, and its drops
abbrev pub bare_connection : Connection → Connection
bare_connection l = record l { alive = 0; heard = 0; drops = 0 }

abbrev pub bare_newcomer : Newcomer → Newcomer
bare_newcomer g = record g { heard = 0; drops = 0 }

abbrev pub bare_session : Session → Session
bare_session s = record s { here = option_map bare_connection s.here }

-- all data but for time and drops: connections, sessions with their grants, identifiers and messages in flight, wills, retained messages
abbrev pub bare : Broker → Broker
bare b = record b { limit = 0; clock = 0; newcomers = map bare_newcomer b.newcomers; sessions = map bare_session b.sessions }

-- ---- the events that are noted

-- a packet that may change nothing but when its connection was heard: PINGREQ, and a PUBLISH of QoS 0 without RETAIN
abbrev pub is_idle : Message → Bool
is_idle (Publish dup qos retain topic id payload) = qos == 0 && not retain
is_idle PingReq = true
is_idle _ = false

-- a CONNECT with a keep alive of one second, any other packet as it is
abbrev pub timeless : Message → Message
timeless (Connect client clean alive will) = Connect client clean 1 will
timeless (ConnAck present code) = ConnAck present code
timeless (Publish dup qos retain topic id payload) = Publish dup qos retain topic id payload
timeless (PubAck id) = PubAck id
timeless (Subscribe id entries) = Subscribe id entries
timeless (SubAck id codes) = SubAck id codes
timeless (Unsubscribe id filters) = Unsubscribe id filters
timeless (UnsubAck id) = UnsubAck id
timeless PingReq = PingReq
timeless PingResp = PingResp
timeless Disconnect = Disconnect

-- the connection that sits here and isn't silent at this clock
abbrev pub heard_at : ℕ → Session → List ℕ
heard_at clock s = option_map_or (λ (l : Connection). if is_silent clock l.alive l.heard then [] else l.conn ∷ []) s.here []

abbrev pub ping : ℕ → ℕ → Event
ping moment conn = Packet conn PingReq moment

-- two seconds, more than one and a half times the keep alive of all connections of a replay
abbrev pub pause : ℕ
pause = 2000

-- Where somebody is silent at this clock: two seconds later by the clock of the replay all others are heard, and then it ticks, so that
-- exactly those end who were silent.
abbrev pub late : List ℕ → ℕ → ℕ → List Session → List Event
late [] clock moment sessions = []
late (c ∷ cs) clock moment sessions = map (ping moment) (flat_map (heard_at clock) sessions) ++ Tick moment ∷ []

-- What is noted of an event that comes to a broker with these data, where the clock of the replay is this: nothing of what changes
-- nothing but time and drops; all other events with no moment of their own.
abbrev pub notes : Broker → ℕ → Event → List Event
notes b clock (Open moment) = Open 0 ∷ []
notes b clock (Packet conn p moment) =
    if is_idle p && not (is_closed_in conn (step b (Packet conn p moment))) then [] else Packet conn (timeless p) 0 ∷ []
notes b clock (Fault conn fault moment) = Fault conn fault 0 ∷ []
notes b clock (Closed conn moment) = Closed conn 0 ∷ []
notes b clock (Tick moment) =
    late (flat_map (silent_at (max b.clock moment)) b.sessions) (max b.clock moment) (clock + pause) b.sessions
notes b clock (Refused conn sort.QosZero moment) =
    if is_closed_in conn (step b (Refused conn sort.QosZero moment)) then Refused conn sort.Other 0 ∷ [] else []
notes b clock (Refused conn sort.Other moment) = Refused conn sort.Other 0 ∷ []

-- ---- data that were kept as they stood

-- a connection with a keep alive of one second
abbrev pub timed_connection : Connection → Connection
timed_connection l = record l { alive = 1; heard = 0; drops = 0 }

abbrev pub timed_session : Session → Session
timed_session s = record s { here = option_map timed_connection s.here }

-- A replay that begins at a broker's data, instead of at its events: all but time and drops is theirs.
abbrev pub restored : ℕ → Broker → Broker
restored limit b = record b { limit = limit; clock = 0; newcomers = map bare_newcomer b.newcomers; sessions = map timed_session b.sessions }

-- ---- events in a row, oldest first

abbrev pub run : Broker → List Event → Broker
run b [] = b
run b (e ∷ es) = run (step b e).broker es

-- all that is noted of them, beside a replay that stands at these data
abbrev pub journal : Broker → Broker → List Event → List Event
journal b n [] = []
journal b n (e ∷ es) = notes b n.clock e ++ journal (step b e).broker (run n (notes b n.clock e)) es

-- the end of all connections
abbrev pub connections : Broker → List ℕ
connections b = map (λ (g : Newcomer). g.conn) b.newcomers ++ flat_map (λ (s : Session). option_list (conn_at s)) b.sessions

abbrev pub ends : Broker → List Event
ends b = map (λ conn. Closed conn 0) (connections b)

-- ---- a replay beside its broker

-- a connection with a keep alive of one second that was heard at no later moment than the clock's
abbrev pub IsTimed : ℕ → Option Connection → Type 0
IsTimed clock None = Unit {0}
IsTimed clock (Some l) = (l.alive ≡ 1) × (l.heard ≤ clock)

-- the data of a replay are those of the broker, but for time and drops
pub record Follows (b n : Broker) : Type 0 where
  pub same : bare b ≡ bare n
  pub newcomers : AllByRecursion (λ (g : Newcomer). g.heard ≤ n.clock) n.newcomers
  pub connections : AllByRecursion (λ (s : Session). IsTimed n.clock s.here) n.sessions
