-- What has happened to a broker, as a list of facts, newest first; and what follows from it, as questions to the whole list.
-- No table is kept here.
use Rattle.std.specs.Prelude.{ℕ, ◌+◌, ◌-◌, max, ◌==◌, nat_lt, nat_le, Bool, true, false, not, ◌&&◌, ◌||◌, List, [], ◌∷◌, ◌++◌, map, length, Option, Some, None, is_some, if◌then◌else◌}
use Rattle.std.specs.List.{filter, find, list_any, flat_map}
use Rattle.std.specs.Option.{option_map, option_map_or}
use Rattle.std.specs.Str.{bytes_eq}
use Rattle.spk_session.specs.Step.{without, one_more, is_spent}
use Rattle.spk_broker_rules.specs.Data.{AppMessage, InFlight, Connection, Newcomer, Session, Stored, Broker}
use Rattle.spk_broker_rules.specs.Table.{Table}
use Rattle.spk_packets.specs.Spelling.{is_empty}
use Rattle.spk_broker_rules.specs.Words.{handed_out, without_id, stored, granted_of, is_heavy, is_silent, most_topics, most_kept, most_open, last_number}
use Rattle.spk_broker_rules.specs.Plan.{Event, Seen, conn_of, client_of, entries_of}

-- ---- facts

-- of a connection; where there is a moment, it is what the clock showed
pub data ConnDeed : Type 0 where
  Opened : (clock : ℕ) → ConnDeed
  Heard : (clock : ℕ) → ConnDeed
  Dropped : ConnDeed
  -- it ended without an accepted CONNECT
  Ended : ConnDeed

-- of a session
pub data Deed : Type 0 where
  Made : (client : List ℕ) (kept : Bool) → Deed
  -- a CONNECT was accepted
  Joined : (conn : ℕ) (alive : ℕ) (will : Option AppMessage) → Deed
  -- its connection ended
  Left : (conn : ℕ) → Deed
  Over : Deed
  Granted : (filter : List ℕ) (qos : ℕ) → Deed
  TakenBack : (filter : List ℕ) → Deed
  -- a message got a packet identifier, and was handed out or not
  Numbered : (id : ℕ) (app_message : AppMessage) (handed : Bool) → Deed
  Acked : (id : ℕ) → Deed

-- One thing that happened: the clock was told a moment, a connection or a session did something, or a message was routed.
pub data Fact : Type 0 where
  Moment : (moment : ℕ) → Fact
  OfConn : (conn : ℕ) (deed : ConnDeed) → Fact
  OfSession : (session : ℕ) (deed : Deed) → Fact
  Routed : (app_message : AppMessage) → Fact

-- all that happened, newest first
abbrev pub Past : Type 0
Past = List Fact

-- the facts of one connection, and those of one session
abbrev pub conn_deeds : Past → ℕ → List ConnDeed
conn_deeds [] c = []
conn_deeds (OfConn d deed ∷ h) c = if d == c then deed ∷ conn_deeds h c else conn_deeds h c
conn_deeds (_ ∷ h) c = conn_deeds h c

-- the facts of one session
abbrev pub deeds : Past → ℕ → List Deed
deeds [] s = []
deeds (OfSession t deed ∷ h) s = if t == s then deed ∷ deeds h s else deeds h s
deeds (_ ∷ h) s = deeds h s

-- ---- the clock, connections and sessions

-- the greatest moment
abbrev pub clock : Past → ℕ
clock [] = 0
clock (Moment m ∷ h) = max (clock h) m
clock (_ ∷ h) = clock h

-- the connection was opened
abbrev pub is_opening : ConnDeed → Bool
is_opening (Opened at_clock) = true
is_opening _ = false

-- the session was made
abbrev pub is_making : Deed → Bool
is_making (Made client kept) = true
is_making _ = false

-- how many connections were opened, and how many sessions were made
abbrev pub given : Past → ℕ
given [] = 0
given (OfConn c deed ∷ h) = if is_opening deed then given h + 1 else given h
given (_ ∷ h) = given h

-- how many sessions were made
abbrev pub made : Past → ℕ
made [] = 0
made (OfSession s deed ∷ h) = if is_making deed then made h + 1 else made h
made (_ ∷ h) = made h

-- begins or ends with a fact, among numbers in the order in which they began
abbrev pub opened_by : ℕ → ConnDeed → List ℕ → List ℕ
opened_by c (Opened at_clock) cs = cs ++ c ∷ []
opened_by c (Heard at_clock) cs = cs
opened_by c Dropped cs = cs
opened_by c Ended cs = without c cs

-- a connection whose CONNECT was accepted is none of these any more
abbrev pub joined_by : Deed → List ℕ → List ℕ
joined_by (Joined conn alive will) cs = without conn cs
joined_by _ cs = cs

-- the connections that were opened and neither joined nor ended since, in the order of opening
abbrev pub newcomers : Past → List ℕ
newcomers [] = []
newcomers (Moment m ∷ h) = newcomers h
newcomers (OfConn c deed ∷ h) = opened_by c deed (newcomers h)
newcomers (OfSession s deed ∷ h) = joined_by deed (newcomers h)
newcomers (Routed m ∷ h) = newcomers h

-- a connection that left its session is none of these any more
abbrev pub left_by : Deed → List ℕ → List ℕ
left_by (Left conn) cs = without conn cs
left_by _ cs = cs

-- the connections that were opened and haven't ended since
abbrev pub open_conns : Past → List ℕ
open_conns [] = []
open_conns (Moment m ∷ h) = open_conns h
open_conns (OfConn c deed ∷ h) = opened_by c deed (open_conns h)
open_conns (OfSession s deed ∷ h) = left_by deed (open_conns h)
open_conns (Routed m ∷ h) = open_conns h

-- a session that was made is one of these, at the end, until it is over
abbrev pub made_by : ℕ → Deed → List ℕ → List ℕ
made_by s (Made client kept) ss = ss ++ s ∷ []
made_by s Over ss = without s ss
made_by s _ ss = ss

-- the sessions that were made and aren't over, in the order of making
abbrev pub sessions : Past → List ℕ
sessions [] = []
sessions (OfSession s deed ∷ h) = made_by s deed (sessions h)
sessions (_ ∷ h) = sessions h

-- ---- a connection, from its facts

-- the clock at its last packet, or at its opening
abbrev pub heard : List ConnDeed → ℕ
heard [] = 0
heard (Opened at_clock ∷ ds) = at_clock
heard (Heard at_clock ∷ ds) = at_clock
heard (Dropped ∷ ds) = heard ds
heard (Ended ∷ ds) = heard ds

-- how many sends were dropped on it since its opening (the count stays at 65,535, past every limit)
abbrev pub drops : List ConnDeed → ℕ
drops [] = 0
drops (Opened at_clock ∷ ds) = 0
drops (Heard at_clock ∷ ds) = drops ds
drops (Dropped ∷ ds) = one_more (drops ds)
drops (Ended ∷ ds) = drops ds

-- ---- a session, from its facts since it was made

-- the client identifier that it was made with
abbrev pub client : List Deed → List ℕ
client [] = []
client (Made c k ∷ ds) = c
client (_ ∷ ds) = client ds

-- made with clean session 0
abbrev pub kept : List Deed → Bool
kept [] = false
kept (Made c k ∷ ds) = k
kept (_ ∷ ds) = kept ds

-- an accepted CONNECT: its connection, keep alive and will
pub record Joining : Type 0 where
  pub conn : ℕ
  pub alive : ℕ
  pub will : Option AppMessage

-- its last accepted CONNECT, unless that connection ended since
abbrev pub here : List Deed → Option Joining
here [] = None
here (Made c k ∷ ds) = None
here (Joined conn alive will ∷ ds) = Some (record { conn = conn; alive = alive; will = will })
here (Left conn ∷ ds) = None
here (_ ∷ ds) = here ds

-- What is said of a text: a value, or that it has none any more; newest first.
abbrev pub Notes : Type 0 → Type 0
Notes V = List (List ℕ × Option V)

-- a text with a value stays where it is or comes last; one without goes
abbrev pub begins : {V : Type 0} → List ℕ → Option V → List (List ℕ) → List (List ℕ)
begins key None keys = filter (λ k. not (bytes_eq k key)) keys
begins key (Some v) keys = if list_any (λ k. bytes_eq k key) keys then keys else keys ++ key ∷ []

-- the texts that have a value, in the order in which their present stay began
abbrev pub staying : {V : Type 0} → Notes V → List (List ℕ)
staying [] = []
staying (n ∷ ns) = begins n.0 n.1 (staying ns)

-- what was said last of a text
abbrev pub last_said : {V : Type 0} → Notes V → List ℕ → Option V
last_said [] key = None
last_said (n ∷ ns) key = if bytes_eq key n.0 then n.1 else last_said ns key

-- the entry of a text, where it has a value
abbrev pub entry : {V : Type 0} → List ℕ → Option V → Table V
entry key None = []
entry key (Some v) = (key, v) ∷ []

-- each text that has a value, with the one said last
abbrev pub table : {V : Type 0} → Notes V → Table V
table ns = flat_map (λ k. entry k (last_said ns k)) (staying ns)

-- what was granted and taken back
abbrev pub grant_notes : List Deed → Notes ℕ
grant_notes [] = []
grant_notes (Made c k ∷ ds) = []
grant_notes (Granted filter qos ∷ ds) = (filter, Some qos) ∷ grant_notes ds
grant_notes (TakenBack filter ∷ ds) = (filter, None) ∷ grant_notes ds
grant_notes (_ ∷ ds) = grant_notes ds

-- a filter's grant is the last one given for it and not taken back
abbrev pub grants : List Deed → Table ℕ
grants ds = table (grant_notes ds)

-- the messages that got an identifier and weren't acknowledged since, in that order, which is the order of their routing; each
-- was handed out if it was so at first, or if a CONNECT was accepted since
abbrev pub unacked : List Deed → List InFlight
unacked [] = []
unacked (Made c k ∷ ds) = []
unacked (Joined conn alive will ∷ ds) = map handed_out (unacked ds)
unacked (Numbered id app_message handed ∷ ds) = unacked ds ++ (record { id = id; app_message = app_message; handed = handed }) ∷ []
unacked (Acked id ∷ ds) = without_id id (unacked ds)
unacked (_ ∷ ds) = unacked ds

-- the identifiers of the messages without an acknowledgement, in the order in which they were given
abbrev pub used : List Deed → List ℕ
used ds = map (λ (c : InFlight). c.id) (unacked ds)

-- a kept session keeps them
abbrev pub in_flight : List Deed → List InFlight
in_flight ds = if kept ds then unacked ds else []

-- the identifier given last, 0 where none was
abbrev pub last_id : List Deed → ℕ
last_id [] = 0
last_id (Made c k ∷ ds) = 0
last_id (Numbered id app_message handed ∷ ds) = id
last_id (_ ∷ ds) = last_id ds

-- ---- retained messages

-- the messages routed, newest first
abbrev pub routed : Past → List AppMessage
routed [] = []
routed (Routed m ∷ h) = m ∷ routed h
routed (_ ∷ h) = routed h

-- an empty payload removes what is retained (3.3.1.3)
abbrev pub retained_value : AppMessage → Option Stored
retained_value m = if is_empty m.payload then None else Some (stored m)

-- A retained message counts, unless its topic would be one more than may be kept.
abbrev pub counts : List (List ℕ) → AppMessage → Bool
counts topics m = is_empty m.payload || (list_any (λ k. bytes_eq k m.topic) topics || nat_lt (length topics) most_topics)

-- what a message says of its topic, where it counts
abbrev pub note_if : Bool → AppMessage → Notes Stored → Notes Stored
note_if b m ns = if b then (m.topic, retained_value m) ∷ ns else ns

-- what the messages routed say of their topics, newest first
abbrev pub retained_notes : List AppMessage → Notes Stored
retained_notes [] = []
retained_notes (m ∷ ms) = note_if (m.retain && counts (staying (retained_notes ms)) m) m (retained_notes ms)

-- of each topic the last retained message that counts, unless it is empty, in the order in which their present stay began
abbrev pub retained : Past → Table Stored
retained h = table (retained_notes (routed h))

-- ---- what the rules ask of the past

-- the connection of a session, where it has one
abbrev pub conn_here : Past → ℕ → Option ℕ
conn_here h s = option_map (λ (j : Joining). j.conn) (here (deeds h s))

-- the session has this connection
abbrev pub sits_at : Past → ℕ → ℕ → Bool
sits_at h c s = option_map_or (λ (j : Joining). j.conn == c) (here (deeds h s)) false

-- the session whose connection this is
abbrev pub session_at : Past → ℕ → Option ℕ
session_at h c = find (sits_at h c) (sessions h)

-- the session is of this client
abbrev pub is_of : Past → List ℕ → ℕ → Bool
is_of h c s = bytes_eq (client (deeds h s)) c

-- the connection that sits for a client
abbrev pub older_of : Past → List ℕ → Option ℕ
older_of h c = if is_empty c then None
    else option_map_or (conn_here h) (find (λ s. is_some (here (deeds h s)) && is_of h c s) (sessions h)) None

-- it has a kept session, or there are fewer than there may be
abbrev pub is_welcome : Past → List ℕ → Bool
is_welcome h c = list_any (λ s. kept (deeds h s) && is_of h c s) (sessions h)
    || nat_lt (length (filter (λ s. kept (deeds h s)) (sessions h))) most_kept

-- the drops of the connection of a session
abbrev pub joined_drops : Past → ℕ → ℕ
joined_drops h s = option_map_or (λ (j : Joining). drops (conn_deeds h j.conn)) (here (deeds h s)) 0

-- the drops of an open connection
abbrev pub drops_of : Past → ℕ → ℕ
drops_of h c = option_map_or (λ g. drops (conn_deeds h g)) (find (λ g. g == c) (newcomers h))
    (option_map_or (joined_drops h) (session_at h c) 0)

-- the connection of a session, where it was silent for too long
abbrev pub silent_of : Past → ℕ → List ℕ
silent_of h s = option_map_or (λ (j : Joining). if is_silent (clock h) j.alive (heard (conn_deeds h j.conn)) then j.conn ∷ [] else [])
    (here (deeds h s)) []

-- the pairs of a session and a filter, but those of this session
abbrev pub other_pairs : Past → ℕ → ℕ
other_pairs h s = length (flat_map (λ t. grants (deeds h t)) (sessions h)) - length (grants (deeds h s))

-- whether these entries would be given too much
abbrev pub heavy_for : Past → Option ℕ → List (List ℕ × ℕ) → Bool
heavy_for h None entries = false
heavy_for h (Some s) entries = is_heavy (retained h) (granted_of (other_pairs h s) (grants (deeds h s)) entries)

-- the same of the session of a connection
abbrev pub heavy_of : Past → ℕ → List (List ℕ × ℕ) → Bool
heavy_of h conn entries = heavy_for h (session_at h conn) entries

-- what the rules ask at an event, asked of the past
abbrev pub seen_in : ℕ → Past → Event → Seen
seen_in limit h e = record {
  joined = is_some (session_at h (conn_of e));
  older = older_of h (client_of e);
  welcome = is_welcome h (client_of e);
  spent = is_spent limit (drops_of h (conn_of e));
  silent = flat_map (silent_of h) (sessions h);
  heavy = heavy_of h (conn_of e) (entries_of e);
}

-- ---- which events may come

-- a connection is open
abbrev pub is_open : Past → ℕ → Bool
is_open h c = list_any (λ d. d == c) (open_conns h)

-- no further connection can be opened: as many are open as may be, or the greatest number was given
abbrev pub may_open : Past → Bool
may_open h = not (nat_le most_open (length (open_conns h)) || nat_le last_number (given h))

-- ---- the data that the past asks for

-- what the broker keeps of a connection without an accepted CONNECT
abbrev pub newcomer_of : Past → ℕ → Newcomer
newcomer_of h c = record { conn = c; heard = heard (conn_deeds h c); drops = drops (conn_deeds h c) }

-- what it keeps of a connection with an accepted CONNECT
abbrev pub connection_of : Past → Joining → Connection
connection_of h j = record {
  conn = j.conn;
  alive = j.alive;
  heard = heard (conn_deeds h j.conn);
  will = j.will;
  drops = drops (conn_deeds h j.conn);
}

-- what it keeps of a session, from its facts, with its connection read by `connection`
abbrev pub session_with : (Joining → Connection) → ℕ → List Deed → Session
session_with connection s ds = record {
  key = s;
  client = client ds;
  kept = kept ds;
  here = option_map connection (here ds);
  grants = grants ds;
  used = used ds;
  last = last_id ds;
  in_flight = in_flight ds;
}

-- what it keeps of a session
abbrev pub session_of : Past → ℕ → Session
session_of h s = session_with (connection_of h) s (deeds h s)

-- all that a broker with this limit keeps
abbrev pub broker_of : ℕ → Past → Broker
broker_of limit h = record {
  limit = limit;
  given = given h;
  made = made h;
  clock = clock h;
  newcomers = map (newcomer_of h) (newcomers h);
  sessions = map (session_of h) (sessions h);
  retained = retained h;
}
