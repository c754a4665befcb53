-- The rules of the broker: each event is a short list of acts (MQTT 3.1.1, chapters 3 and 4). What an act does is said
-- twice, on tables (Step) and on the past (Story); the rules stand here alone.
use Rattle.std.specs.Prelude.{ℕ, Bool, true, false, not, ◌&&◌, ◌||◌, List, [], ◌∷◌, ◌++◌, Option, Some, None, is_some, if◌then◌else◌}
use Rattle.std.specs.List.{list_any, flat_map}
use Rattle.std.specs.Option.{option_map}
use Rattle.spk_packets.specs.declared.fault.PacketFault.{PacketFault}
use Rattle.spk_packets.specs.declared.fault.PacketFault.TheVariants as fault
use Rattle.spk_packets.specs.Fault.{first_of}
use Rattle.spk_packets.specs.Message.{Message, WillData, Connect, ConnAck, Publish, PubAck, Subscribe, Unsubscribe, UnsubAck, PingReq, PingResp, Disconnect}
use Rattle.spk_packets.specs.Spelling.{unwritable, is_empty}
use Rattle.spk_topics.specs.Text.{filter_refusal, topic_refusal}
use Rattle.spk_session.specs.declared.answer.Sort.{Sort}
use Rattle.spk_session.specs.declared.answer.Sort.TheVariants as sort
use Rattle.spk_broker_rules.specs.Data.{AppMessage}
use Rattle.spk_broker_rules.specs.Words.{will_message}

-- what comes to a broker, each with its moment
pub data Event : Type 0 where
  Open : (moment : ℕ) → Event
  Packet : (conn : ℕ) (packet : Message) (moment : ℕ) → Event
  -- bytes that are no packet
  Fault : (conn : ℕ) (fault : PacketFault) (moment : ℕ) → Event
  -- the connection ended without the broker
  Closed : (conn : ℕ) (moment : ℕ) → Event
  Tick : (moment : ℕ) → Event
  -- a send to this connection couldn't be taken
  Refused : (conn : ℕ) (sort : Sort) (moment : ℕ) → Event

-- One thing that a broker does at an event.
pub data Act : Type 0 where
  -- a new connection
  Opens : Act
  -- the clock is at least here
  At : (moment : ℕ) → Act
  -- a packet of this connection came
  Hear : (conn : ℕ) → Act
  -- a send to it was dropped
  Drop : (conn : ℕ) → Act
  -- this packet is sent
  Say : (conn : ℕ) (packet : Message) → Act
  -- the connection ends; its will waits to be routed, or is discarded
  Leave : (conn : ℕ) (wills : Bool) → Act
  -- the caller is told to close it
  Tell : (conn : ℕ) → Act
  -- this message waits to be routed, behind those that wait
  Queue : (app_message : AppMessage) → Act
  -- those that wait are routed, each whole before the next
  Route : Act
  -- a kept session of this client ends
  Forget : (client : List ℕ) → Act
  -- the connection takes up the kept session of its client, or makes a session; CONNACK, and what is sent again
  Accept : (conn : ℕ) (client : List ℕ) (kept : Bool) (alive : ℕ) (will : Option AppMessage) → Act
  -- its session gets these grants; SUBACK, then the retained messages for each
  Give : (conn : ℕ) (id : ℕ) (entries : List (List ℕ × ℕ)) → Act
  -- the grants of these filters are taken back
  Take : (conn : ℕ) (filters : List (List ℕ)) → Act
  -- its session has no message of this identifier any more
  Ack : (conn : ℕ) (id : ℕ) → Act

-- What the rules ask, for the event's connection and, where it is a CONNECT, its client, or a SUBSCRIBE, its entries.
pub record Seen : Type 0 where
  -- its CONNECT was accepted
  pub joined : Bool
  -- the connection that sits for the client; none for the empty client id
  pub older : Option ℕ
  -- the client has a kept session, or there are fewer of them than there may be
  pub welcome : Bool
  -- it has had as many drops as close it
  pub spent : Bool
  -- the connections that were silent for too long, in the order of connecting
  pub silent : List ℕ
  -- its entries would be given more of retained messages than may be
  pub heavy : Bool

-- ---- closing

-- the connection is closed, its will routed (3.1.2.5)
abbrev pub shut : ℕ → List Act
shut conn = Leave conn true ∷ Tell conn ∷ Route ∷ []

-- CONNACK with this code, and closed (3.2.2.3)
abbrev pub turn_away : ℕ → ℕ → List Act
turn_away conn code = Say conn (ConnAck false code) ∷ shut conn

-- ---- the first packet

-- the older connection's will and what follows it are routed (3.1.4)
abbrev pub take_over : Option ℕ → List Act
take_over None = []
take_over (Some older) = Leave older true ∷ Route ∷ []

-- the caller is told to close the older connection, where there is one
abbrev pub tell_older : Option ℕ → List Act
tell_older None = []
tell_older (Some older) = Tell older ∷ []

-- The older connection leaves first; with clean session 1 a kept session ends (3.1.2.4); then the client has its session, and the
-- older connection is closed.
abbrev pub join : Option ℕ → ℕ → List ℕ → Bool → ℕ → Option AppMessage → List Act
join older conn client clean alive will =
    take_over older ++ ((if clean then Forget client ∷ [] else []) ++ Accept conn client (not clean) alive will ∷ tell_older older)

-- the will's topic is no topic name (4.7)
abbrev pub has_bad_topic : Option WillData → Bool
has_bad_topic None = false
has_bad_topic (Some will) = is_some (topic_refusal will.topic)

-- CONNECT is judged in this order: the client id, the will's topic, the number of kept sessions (own rules but for the first)
abbrev pub connect : Seen → ℕ → List ℕ → Bool → ℕ → Option WillData → List Act
connect seen conn client clean alive will =
    if is_empty client && not clean then turn_away conn 2
    else if has_bad_topic will then shut conn
    else if not clean && not seen.welcome then turn_away conn 3
    else join seen.older conn client clean alive (option_map will_message will)

-- any other first packet closes the connection (3.1.0-1)
abbrev pub first_packet : Seen → ℕ → Message → List Act
first_packet seen conn (Connect client clean alive will) = connect seen conn client clean alive will
first_packet seen conn _ = shut conn

-- ---- further packets

-- PUBACK stands before what the publish sends
abbrev pub puback : ℕ → Option ℕ → List Act
puback conn None = []
puback conn (Some id) = Say conn (PubAck id) ∷ []

-- A PUBLISH is acknowledged at QoS 1 and routed. One on a text that is no topic name closes the connection (3.3.2.1).
abbrev pub publish : ℕ → Option ℕ → AppMessage → List Act
publish conn id app_message = if is_some (topic_refusal app_message.topic) then shut conn else puback conn id ++ Queue app_message ∷ Route ∷ []

-- a text among them is no topic filter (4.7)
abbrev pub has_bad_filter : List (List ℕ) → Bool
has_bad_filter filters = list_any (λ f. is_some (filter_refusal f)) filters

-- closed, and nothing given, where a filter is none, or where it asks for too much (own rule)
abbrev pub subscribe : Seen → ℕ → ℕ → List (List ℕ × ℕ) → List Act
subscribe seen conn id entries =
    if list_any (λ e. is_some (filter_refusal e.0)) entries || seen.heavy then shut conn else Give conn id entries ∷ Route ∷ []

-- The grants are taken back and UNSUBACK is sent, whether or not there were such grants (3.10.4); a text that is no filter closes
-- the connection.
abbrev pub unsubscribe : ℕ → ℕ → List (List ℕ) → List Act
unsubscribe conn id filters =
    if has_bad_filter filters then shut conn else Take conn filters ∷ Say conn (UnsubAck id) ∷ []

-- a second CONNECT, and what only a broker sends, closes the connection (3.1.0-2)
abbrev pub next_packet : Seen → ℕ → Message → List Act
next_packet seen conn (Publish dup qos retain topic id payload) =
    publish conn id (record { topic = topic; payload = payload; qos = qos; retain = retain })
next_packet seen conn (PubAck id) = Ack conn id ∷ []
next_packet seen conn (Subscribe id entries) = subscribe seen conn id entries
next_packet seen conn (Unsubscribe id filters) = unsubscribe conn id filters
next_packet seen conn PingReq = Say conn PingResp ∷ []
next_packet seen conn Disconnect = Leave conn false ∷ []
next_packet seen conn _ = shut conn

-- a packet that can't be written closes the connection as its bytes would
abbrev pub packet : Seen → ℕ → Message → List Act
packet seen conn p =
    if is_some (first_of (unwritable p)) then shut conn
    else if seen.joined then next_packet seen conn p
    else first_packet seen conn p

-- ---- the other events

-- bytes of a CONNECT of another protocol level
abbrev pub is_bad_level : PacketFault → Bool
is_bad_level fault.BadLevel = true
is_bad_level _ = false

-- a first packet of another protocol level gets CONNACK code 1 (3.1.2.2)
abbrev pub bad_bytes : Seen → ℕ → PacketFault → List Act
bad_bytes seen conn f = if is_bad_level f && not seen.joined then turn_away conn 1 else shut conn

-- all silent ones are ended first, then their wills are routed in that order
abbrev pub tick : List ℕ → List Act
tick silent = flat_map (λ conn. Leave conn true ∷ Tell conn ∷ []) silent ++ Route ∷ []

-- a refused PUBLISH of QoS 0 is a drop, any other refused send closes (own rule)
abbrev pub is_fatal : Sort → Bool → Bool
is_fatal sort.QosZero spent = spent
is_fatal sort.Other spent = true

-- at a send that couldn't be taken
abbrev pub refused : Seen → ℕ → Sort → List Act
refused seen conn s = if is_fatal s seen.spent then shut conn else []

-- noted before the rules look
abbrev pub before : Event → List Act
before (Open moment) = At moment ∷ []
before (Packet conn p moment) = At moment ∷ Hear conn ∷ []
before (Fault conn f moment) = At moment ∷ []
before (Closed conn moment) = At moment ∷ []
before (Tick moment) = At moment ∷ []
before (Refused conn sort.QosZero moment) = At moment ∷ Drop conn ∷ []
before (Refused conn sort.Other moment) = At moment ∷ []

-- the acts of an event, behind what is noted first
abbrev pub plan : Seen → Event → List Act
plan seen (Open moment) = Opens ∷ []
plan seen (Packet conn p moment) = packet seen conn p
plan seen (Fault conn f moment) = bad_bytes seen conn f
plan seen (Closed conn moment) = Leave conn true ∷ Route ∷ []
plan seen (Tick moment) = tick seen.silent
plan seen (Refused conn s moment) = refused seen conn s

-- whom the rules ask of
abbrev pub conn_of : Event → ℕ
conn_of (Open moment) = 0
conn_of (Packet conn p moment) = conn
conn_of (Fault conn f moment) = conn
conn_of (Closed conn moment) = conn
conn_of (Tick moment) = 0
conn_of (Refused conn s moment) = conn

-- the client identifier in a CONNECT
abbrev pub client_in : Message → List ℕ
client_in (Connect client clean alive will) = client
client_in _ = []

-- the client that the rules ask of: that of a CONNECT
abbrev pub client_of : Event → List ℕ
client_of (Packet conn p moment) = client_in p
client_of _ = []

-- the entries that a SUBSCRIBE asks for
abbrev pub entries_in : Message → List (List ℕ × ℕ)
entries_in (Subscribe id entries) = entries
entries_in _ = []

-- the entries that the rules ask of: those of a SUBSCRIBE
abbrev pub entries_of : Event → List (List ℕ × ℕ)
entries_of (Packet conn p moment) = entries_in p
entries_of _ = []
