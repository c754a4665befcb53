-- The acts on tables: the data after an act, and what it sends and closes, from the data before. The contracts of the
-- broker's calls cite `step`.
use Rattle.std.specs.Prelude.{ℕ, zero, suc, ◌+◌, ◌-◌, max, ◌==◌, nat_lt, nat_le, Bool, true, false, not, ◌&&◌, ◌||◌, List, [], ◌∷◌, ◌++◌, map, length, Option, Some, None, is_some, if◌then◌else◌}
use Rattle.std.specs.List.{filter, find, fold, list_any, flat_map}
use Rattle.std.specs.Option.{option_map, option_map_or}
use Rattle.std.specs.Str.{bytes_eq}
use Rattle.spk_packets.specs.Message.{ConnAck, SubAck}
use Rattle.spk_session.specs.PacketIds.{next_id}
use Rattle.spk_session.specs.Step.{has_room, without, one_more, is_spent}
use Rattle.spk_broker_rules.specs.Data.{AppMessage, InFlight, Connection, Newcomer, Session, Stored, Broker, Send, fresh_broker}
use Rattle.spk_broker_rules.specs.Table.{Table, has, put, remove}
use Rattle.spk_packets.specs.Spelling.{is_empty}
use Rattle.spk_broker_rules.specs.Words.{best, level, sent_as, plain_packet, numbered_packet, to_connection, option_list, resent, handed_out, without_id, stored, offers_to, granted_of, codes_of, with_entry, is_heavy, is_silent, most_topics, most_kept, most_open, last_number}
use Rattle.spk_broker_rules.specs.Plan.{Event, Act, Opens, At, Hear, Drop, Say, Leave, Tell, Queue, Route, Forget, Accept, Give, Take, Ack, Seen, before, plan, conn_of, client_of, entries_of}

-- A broker in the midst of a call: its data by now, what it sends and closes so far, and the messages that wait.
pub record Turn : Type 0 where
  pub broker : Broker
  pub sends : List Send
  pub closes : List ℕ
  pub waiting : List AppMessage

-- ---- looking up

-- the connection of a session, where it has one
abbrev pub conn_at : Session → Option ℕ
conn_at session = option_map (λ (l : Connection). l.conn) session.here

-- whether this connection sits here
abbrev pub sits : ℕ → Session → Bool
sits conn session = option_map_or (λ (l : Connection). l.conn == conn) session.here false

-- the session of this connection
abbrev pub session_by : ℕ → List Session → Option Session
session_by conn sessions = find (sits conn) sessions

-- the newcomer is this connection
abbrev pub is_newcomer : ℕ → Newcomer → Bool
is_newcomer conn newcomer = newcomer.conn == conn

-- the newcomers but this one
abbrev pub other_newcomers : ℕ → List Newcomer → List Newcomer
other_newcomers conn newcomers = filter (λ (g : Newcomer). not (g.conn == conn)) newcomers

-- a kept session of this client without a connection
abbrev pub is_away : List ℕ → Session → Bool
is_away client session = session.kept && (not (is_some session.here) && bytes_eq session.client client)

-- what stands at the place of the session of this key
abbrev pub swap : ℕ → List Session → List Session → List Session
swap key new sessions = flat_map (λ (s : Session). if s.key == key then new else s ∷ []) sessions

-- the sessions are these from now on
abbrev pub with_sessions : List Session → Turn → Turn
with_sessions sessions t = record t { broker = record t.broker { sessions = sessions } }

-- ---- what one message does to one session

-- What a message does to one session: what is left of it, and what it sends, closes and makes wait.
pub record Served : Type 0 where
  -- the session, unless it ended
  pub left : List Session
  pub sends : List Send
  pub closes : List ℕ
  pub wills : List AppMessage

-- the session stays, as it is here, and sends these
abbrev pub stays : Session → List Send → Served
stays session sends = record { left = session ∷ []; sends = sends; closes = []; wills = [] }

-- a session that may have no further message ends, and its connection with it (own rule)
abbrev pub bursts : Session → Served
bursts session = record {
  left = [];
  sends = [];
  closes = option_list (conn_at session);
  wills = option_map_or (λ (l : Connection). option_list l.will) session.here [];
}

-- what a kept session has in flight with one message more
abbrev pub in_flight_with : Session → ℕ → AppMessage → List InFlight
in_flight_with session id app_message =
    if session.kept then session.in_flight ++ (record { id = id; app_message = app_message; handed = is_some session.here }) ∷ [] else session.in_flight

-- a message at QoS 1 takes an identifier, and goes to the connection, where there is one
abbrev pub numbered : Session → AppMessage → ℕ → Served
numbered session app_message id =
    stays (record session { used = session.used ++ id ∷ []; last = id; in_flight = in_flight_with session id app_message })
    (to_connection (conn_at session) (numbered_packet false id app_message))

-- a message with its QoS and RETAIN as they are sent
abbrev pub hand_at : ℕ → AppMessage → Session → Served
hand_at zero app_message session = stays session (to_connection (conn_at session) (plain_packet app_message))
hand_at (suc q) app_message session = if has_room session.used then numbered session app_message (next_id session.used session.last) else bursts session

-- a message as it is sent, for one session
abbrev pub hand : AppMessage → Session → Served
hand app_message session = hand_at app_message.qos app_message session

-- nothing without a grant; else the message with the QoS of its level, RETAIN 0 (3.3.1.3)
abbrev pub serve_at : Option ℕ → AppMessage → Session → Served
serve_at None m session = stays session []
serve_at (Some q) m session = hand (sent_as m q false) session

-- what a routed message does to a session
abbrev pub serve : AppMessage → Session → Served
serve m session = serve_at (level m.qos (best m.topic session.grants)) m session

-- ---- routing

-- a retained message replaces the one on its topic, an empty one removes it (3.3.1.3)
abbrev pub retain_in : Table Stored → AppMessage → Table Stored
retain_in table m =
    if is_empty m.payload then remove m.topic table
    else if has m.topic table || nat_lt (length table) most_topics then put m.topic (stored m) table
    else table

-- a message with RETAIN is retained, any other changes nothing there
abbrev pub retained_with : Table Stored → AppMessage → Table Stored
retained_with table m = if m.retain then retain_in table m else table

-- one message, routed whole
abbrev pub route_one : AppMessage → Turn → Turn
route_one m t = record {
  broker = record t.broker {
    sessions = flat_map (λ (s : Session). (serve m s).left) t.broker.sessions;
    retained = retained_with t.broker.retained m;
  };
  sends = t.sends ++ flat_map (λ (s : Session). (serve m s).sends) t.broker.sessions;
  closes = t.closes ++ flat_map (λ (s : Session). (serve m s).closes) t.broker.sessions;
  waiting = t.waiting ++ flat_map (λ (s : Session). (serve m s).wills) t.broker.sessions;
}

-- the first that waits, while one does, but at most this many
unfoldable pub route_some : ℕ → Turn → Turn
route_some zero t = t
route_some (suc n) t = elim t.waiting [ [] ↦ t | m ∷ ms ↦ route_some n (route_one m (record t { waiting = ms })) ]

-- each that is routed ends sessions for each that it makes wait, so no more are routed
abbrev pub most : Turn → ℕ
most t = length t.waiting + length t.broker.sessions

-- All that waits is routed, in order, and what comes to wait by that.
unfoldable pub route : Turn → Turn
route t = route_some (most t) t

-- ---- coming and going

-- a connection comes, under the next number
abbrev pub opens : Turn → Turn
opens t = record t {
  broker = record t.broker {
    given = t.broker.given + 1;
    newcomers = t.broker.newcomers ++ (record { conn = t.broker.given + 1; heard = t.broker.clock; drops = 0 }) ∷ [];
  };
}

-- the newcomer of this connection was heard at this moment
abbrev pub newcomer_heard : ℕ → ℕ → Newcomer → Newcomer
newcomer_heard conn clock g = if g.conn == conn then record g { heard = clock } else g

-- the same of a connection with an accepted CONNECT
abbrev pub connection_heard : ℕ → ℕ → Connection → Connection
connection_heard conn clock l = if l.conn == conn then record l { heard = clock } else l

-- a send to the newcomer of this connection was dropped
abbrev pub newcomer_dropped : ℕ → Newcomer → Newcomer
newcomer_dropped conn g = if g.conn == conn then record g { drops = one_more g.drops } else g

-- the same of a connection with an accepted CONNECT
abbrev pub connection_dropped : ℕ → Connection → Connection
connection_dropped conn l = if l.conn == conn then record l { drops = one_more l.drops } else l

-- a change of the connections themselves
abbrev pub on_connections : (Newcomer → Newcomer) → (Connection → Connection) → Turn → Turn
on_connections on_newcomer on_connection t = record t {
  broker = record t.broker {
    newcomers = map on_newcomer t.broker.newcomers;
    sessions = map (λ (s : Session). record s { here = option_map on_connection s.here }) t.broker.sessions;
  };
}

-- the will of a session's connection, where it is to be routed
abbrev pub will_at : Bool → Session → List AppMessage
will_at true session = option_map_or (λ (l : Connection). option_list l.will) session.here []
will_at false session = []

-- a kept session stays, without a connection
abbrev pub left_behind : Session → List Session
left_behind session = if session.kept then (record session { here = None }) ∷ [] else []

-- The connection goes: from its session, with its will, or from the newcomers.
abbrev pub leave_at : Option Session → ℕ → Bool → Turn → Turn
leave_at None conn wills t = record t { broker = record t.broker { newcomers = other_newcomers conn t.broker.newcomers } }
leave_at (Some session) conn wills t =
    record (with_sessions (swap session.key (left_behind session) t.broker.sessions) t) { waiting = t.waiting ++ will_at wills session }

-- the session is gone
abbrev pub forget_at : Option Session → Turn → Turn
forget_at None t = t
forget_at (Some session) t = with_sessions (swap session.key [] t.broker.sessions) t

-- the connection that a newcomer becomes by its CONNECT
abbrev pub connection_of : Newcomer → ℕ → Option AppMessage → Connection
connection_of newcomer alive will = record { conn = newcomer.conn; alive = alive; heard = newcomer.heard; will = will; drops = newcomer.drops }

-- a session that is made: nothing is granted, and no identifier was given
abbrev pub new_session : ℕ → List ℕ → Bool → Connection → Session
new_session key client kept connection =
    record { key = key; client = client; kept = kept; here = Some connection; grants = []; used = []; last = 0; in_flight = [] }

-- a kept session is taken up: session present, and what it keeps is sent again
abbrev pub take_up : Option Session → List ℕ → Bool → Connection → Turn → Turn
take_up None client kept connection t = record t {
  broker = record t.broker {
    made = t.broker.made + 1;
    newcomers = other_newcomers connection.conn t.broker.newcomers;
    sessions = t.broker.sessions ++ new_session (t.broker.made + 1) client kept connection ∷ [];
  };
  sends = t.sends ++ (record { conn = connection.conn; packet = ConnAck false 0 }) ∷ [];
}
take_up (Some session) client kept connection t = record t {
  broker = record t.broker {
    newcomers = other_newcomers connection.conn t.broker.newcomers;
    sessions = swap session.key ((record session { here = Some connection; in_flight = map handed_out session.in_flight }) ∷ []) t.broker.sessions;
  };
  sends = t.sends ++ (record { conn = connection.conn; packet = ConnAck true 0 }) ∷ resent connection.conn session.in_flight;
}

-- the kept session that a CONNECT takes up, which is none with clean session 1
abbrev pub away_for : Bool → List ℕ → List Session → Option Session
away_for kept client sessions = if kept then find (is_away client) sessions else None

-- what a CONNECT of this newcomer does
abbrev pub accept_of : Option Newcomer → List ℕ → Bool → ℕ → Option AppMessage → Turn → Turn
accept_of None client kept alive will t = t
accept_of (Some newcomer) client kept alive will t =
    take_up (away_for kept client t.broker.sessions) client kept (connection_of newcomer alive will) t

-- ---- SUBSCRIBE, UNSUBSCRIBE, PUBACK

-- one message for the session of this key, where it still stands
abbrev pub offer_at : Option Session → ℕ → AppMessage → Turn → Turn
offer_at None key app_message t = t
offer_at (Some session) key app_message t = record {
  broker = record t.broker { sessions = swap key (hand app_message session).left t.broker.sessions };
  sends = t.sends ++ (hand app_message session).sends;
  closes = t.closes ++ (hand app_message session).closes;
  waiting = t.waiting ++ (hand app_message session).wills;
}

-- the session of this key
abbrev pub with_key : ℕ → List Session → Option Session
with_key key sessions = find (λ (s : Session). s.key == key) sessions

-- the same, of the key
abbrev pub offer : ℕ → Turn → AppMessage → Turn
offer key t app_message = offer_at (with_key key t.broker.sessions) key app_message t

-- how many pairs of a session and a filter there are
abbrev pub all_grants : List Session → ℕ
all_grants sessions = length (flat_map (λ (s : Session). s.grants) sessions)

-- the grants of the other sessions
abbrev pub other_grants : Session → List Session → ℕ
other_grants session sessions = all_grants sessions - length session.grants

-- The entries are granted and SUBACK is sent; then come the retained messages for each granted entry, one after the other
-- (3.8.4).
abbrev pub give_with : ℕ → Session → ℕ → ℕ → List (List ℕ × ℕ) → Turn → Turn
give_with others session conn id entries t =
    fold (offer session.key)
    (record (with_sessions (swap session.key ((record session { grants = fold (with_entry others) session.grants entries }) ∷ []) t.broker.sessions) t) {
      sends = t.sends ++ (record { conn = conn; packet = SubAck id (codes_of others session.grants entries) }) ∷ [];
    })
    (flat_map (offers_to t.broker.retained) (granted_of others session.grants entries))

-- the same, where the connection has a session
abbrev pub give_at : Option Session → ℕ → ℕ → List (List ℕ × ℕ) → Turn → Turn
give_at None conn id entries t = t
give_at (Some session) conn id entries t = give_with (other_grants session t.broker.sessions) session conn id entries t

-- the filters' grants are taken from the session of the connection, where it has one
abbrev pub take_at : Option Session → List (List ℕ) → Turn → Turn
take_at None filters t = t
take_at (Some session) filters t =
    with_sessions (swap session.key ((record session { grants = fold (λ g f. remove f g) session.grants filters }) ∷ []) t.broker.sessions) t

-- The session has no message of this identifier in flight any more, and the identifier is free.
abbrev pub ack_at : Option Session → ℕ → Turn → Turn
ack_at None id t = t
ack_at (Some session) id t =
    with_sessions (swap session.key ((record session { used = without id session.used; in_flight = without_id id session.in_flight }) ∷ []) t.broker.sessions) t

-- ---- an act, and a list of them

-- what an act changes, sends and closes
abbrev pub act : Act → Turn → Turn
act Opens t = opens t
act (At moment) t = record t { broker = record t.broker { clock = max t.broker.clock moment } }
act (Hear conn) t = on_connections (newcomer_heard conn t.broker.clock) (connection_heard conn t.broker.clock) t
act (Drop conn) t = on_connections (newcomer_dropped conn) (connection_dropped conn) t
act (Say conn p) t = record t { sends = t.sends ++ (record { conn = conn; packet = p }) ∷ [] }
act (Leave conn wills) t = leave_at (session_by conn t.broker.sessions) conn wills t
act (Tell conn) t = record t { closes = t.closes ++ conn ∷ [] }
act (Queue app_message) t = record t { waiting = t.waiting ++ app_message ∷ [] }
act Route t = route t
act (Forget client) t = forget_at (find (is_away client) t.broker.sessions) t
act (Accept conn client kept alive will) t = accept_of (find (is_newcomer conn) t.broker.newcomers) client kept alive will t
act (Give conn id entries) t = give_at (session_by conn t.broker.sessions) conn id entries t
act (Take conn filters) t = take_at (session_by conn t.broker.sessions) filters t
act (Ack conn id) t = ack_at (session_by conn t.broker.sessions) id t

-- a list of acts, each behind the one before
abbrev pub acts : List Act → Turn → Turn
acts [] t = t
acts (a ∷ as_list) t = acts as_list (act a t)

-- ---- what the rules ask of the tables

-- the connection of the client's session, unless the client identifier is empty
abbrev pub older_in : List ℕ → List Session → Option ℕ
older_in client sessions = if is_empty client then None
    else option_map_or conn_at (find (λ (s : Session). is_some s.here && bytes_eq s.client client) sessions) None

-- a kept session of this client
abbrev pub is_kept_of : List ℕ → Session → Bool
is_kept_of client s = s.kept && bytes_eq s.client client

-- the client has a kept session, or there are fewer of them than there may be
abbrev pub welcome_in : List ℕ → List Session → Bool
welcome_in client sessions = list_any (is_kept_of client) sessions || nat_lt (length (filter (λ (s : Session). s.kept) sessions)) most_kept

-- how many sends were dropped on a connection
abbrev pub drops_in : ℕ → Broker → ℕ
drops_in conn b = option_map_or (λ (g : Newcomer). g.drops) (find (is_newcomer conn) b.newcomers)
    (option_map_or (λ (s : Session). option_map_or (λ (l : Connection). l.drops) s.here 0) (session_by conn b.sessions) 0)

-- the connection of a session, where it was silent for too long
abbrev pub silent_at : ℕ → Session → List ℕ
silent_at clock s = option_map_or (λ (l : Connection). if is_silent clock l.alive l.heard then l.conn ∷ [] else []) s.here []

-- whether these entries would be given too much
abbrev pub heavy_at : Option Session → List (List ℕ × ℕ) → Broker → Bool
heavy_at None entries b = false
heavy_at (Some session) entries b = is_heavy b.retained (granted_of (other_grants session b.sessions) session.grants entries)

-- the same of the session of a connection
abbrev pub heavy_in : ℕ → List (List ℕ × ℕ) → Broker → Bool
heavy_in conn entries b = heavy_at (session_by conn b.sessions) entries b

-- what the rules ask at an event, asked of the tables
abbrev pub seen : Broker → Event → Seen
seen b e = record {
  joined = is_some (session_by (conn_of e) b.sessions);
  older = older_in (client_of e) b.sessions;
  welcome = welcome_in (client_of e) b.sessions;
  spent = is_spent b.limit (drops_in (conn_of e) b);
  silent = flat_map (silent_at b.clock) b.sessions;
  heavy = heavy_in (conn_of e) (entries_of e) b;
}

-- ---- a whole event

-- an event begins here: nothing is sent or closed yet, and nothing waits
abbrev pub begun : Broker → Turn
begun b = record { broker = b; sends = []; closes = []; waiting = [] }

-- what an event tells is noted before the rules look
abbrev pub noted : Broker → Event → Turn
noted b e = acts (before e) (begun b)

-- What an event changes, sends and closes: what it tells is noted, and then the acts of its plan are done.
unfoldable pub step : Broker → Event → Turn
step b e = acts (plan (seen (noted b e).broker e) e) (noted b e)

-- the data after all events, newest first, of a broker with this limit
abbrev pub after : ℕ → List Event → Broker
after limit [] = fresh_broker limit
after limit (e ∷ es) = (step (after limit es) e).broker

-- ---- refusals

-- whether a connection is known: NoSuchConn (30) exactly where it isn't
abbrev pub knows : Broker → ℕ → Bool
knows b conn = list_any (is_newcomer conn) b.newcomers || is_some (session_by conn b.sessions)

-- how many connections are open
abbrev pub open_count : Broker → ℕ
open_count b = length b.newcomers + length (filter (λ (s : Session). is_some s.here) b.sessions)

-- whether `open` is refused with Limit (31)
abbrev pub is_full : Broker → Bool
is_full b = nat_le most_open (open_count b) || nat_le last_number b.given
