-- The data behind each call, and its answer (own rules over MQTT 3.1.1, chapter 3).
use Rattle.std.specs.Prelude.{◌-◌, ◌==◌, ◌&&◌, ℕ, Bool, true, false, not, List, [], ◌∷◌, ◌++◌, map, max, Option, Some, None, is_none, unwrap_or, nat_le, slice_get, if◌then◌else◌}
use Rattle.std.specs.List.{filter, find, fold, list_any}
use Rattle.std.specs.Option.{option_map, option_map_or}
use Rattle.std.specs.Str.{bytes_eq}
use Rattle.spk_quota.specs.Data.{FilterData, MessageData, QuotaData, SessionData}
use Rattle.spk_quota.specs.Held.{lets}
use Rattle.spk_quota.specs.declared.limits.Limits.{Limits}

-- ---- whose is what

abbrev pub is_session : ℕ → List ℕ → SessionData → Bool
is_session user client s = s.user == user && bytes_eq s.client client

abbrev pub is_named : List ℕ → SessionData → Bool
is_named client s = bytes_eq s.client client

abbrev pub has_conn : Option ℕ → ℕ → Bool
has_conn None conn = false
has_conn (Some own) conn = own == conn

-- a session of this client has this connection
abbrev pub is_here : ℕ → List ℕ → SessionData → Bool
is_here conn client s = bytes_eq s.client client && has_conn s.conn conn

-- a session of this client has none
abbrev pub is_left : List ℕ → SessionData → Bool
is_left client s = bytes_eq s.client client && is_none s.conn

abbrev pub is_filter : ℕ → List ℕ → FilterData → Bool
is_filter user client f = f.user == user && bytes_eq f.client client

-- a session has this filter
abbrev pub is_it : ℕ → List ℕ → List ℕ → FilterData → Bool
is_it user client filter f = is_filter user client f && bytes_eq f.filter filter

-- a user's retained message on a topic
abbrev pub is_retained : ℕ → List ℕ → MessageData → Bool
is_retained user topic m = is_none m.will_of && m.user == user && bytes_eq m.topic topic

-- anybody's
abbrev pub is_retained_on : List ℕ → MessageData → Bool
is_retained_on topic m = is_none m.will_of && bytes_eq m.topic topic

abbrev pub is_will_of : ℕ → MessageData → Bool
is_will_of conn m = has_conn m.will_of conn

-- ---- sessions end, and are made

-- a session of this user ends, and its filters with it
abbrev pub without_session : ℕ → List ℕ → QuotaData → QuotaData
without_session user client d = record d {
  sessions = filter (λ s. not (is_session user client s)) d.sessions;
  filters = filter (λ f. not (is_filter user client f)) d.filters;
}

-- it is made anew
abbrev pub with_session : SessionData → List FilterData → QuotaData → QuotaData
with_session s filters d = record (without_session s.user s.client d) {
  sessions = (without_session s.user s.client d).sessions ++ s ∷ [];
  filters = (without_session s.user s.client d).filters ++ filters;
}

-- ---- the start: a kept session that stands, whose client is away, with its filters, each once

abbrev pub with_filter : ℕ → List ℕ → List FilterData → List ℕ → List FilterData
with_filter user client filters filter =
    if list_any (is_it user client filter) filters then filters else filters ++ record { user = user; client = client; filter = filter } ∷ []

abbrev pub resumed : QuotaData → ℕ → List ℕ → List (List ℕ) → ℕ → QuotaData
resumed d user client filters now =
    option_map_or (λ (l : Limits). with_session (record { user = user; client = client; kept = true; conn = None; since = now })
    (fold (with_filter user client) [] filters) d) (slice_get d.limits user) d

-- ---- CONNECT (3.1)

-- a kept session goes on, with its filters (3.1.2.4)
abbrev pub goes_on : QuotaData → ℕ → List ℕ → Bool → Bool
goes_on d user client clean = not clean && list_any (λ s. is_session user client s && s.kept) d.sessions

abbrev pub with_conn : ℕ → List ℕ → ℕ → SessionData → SessionData
with_conn user client conn s = if is_session user client s then record s { conn = Some conn } else s

abbrev pub seated : QuotaData → ℕ → ℕ → List ℕ → Bool → QuotaData
seated d user conn client clean =
    if goes_on d user client clean
    then record d { sessions = map (with_conn user client conn) d.sessions }
    else with_session (record { user = user; client = client; kept = not clean; conn = Some conn; since = 0 }) [] d

-- its will, if it has one with RETAIN and a payload
abbrev pub will_message : ℕ → ℕ → List ℕ × ℕ → MessageData
will_message user conn will = record { user = user; topic = will.0; bytes = will.1; will_of = Some conn }

abbrev pub with_message : Option MessageData → List MessageData → List MessageData
with_message None messages = messages
with_message (Some m) messages = messages ++ m ∷ []

abbrev pub with_will : ℕ → ℕ → Option (List ℕ × ℕ) → QuotaData → QuotaData
with_will user conn will d = record d { messages = with_message (option_map (will_message user conn) will) d.messages }

abbrev pub connected : QuotaData → ℕ → ℕ → List ℕ → Bool → Option (List ℕ × ℕ) → QuotaData
connected d user conn client clean will = with_will user conn will (seated d user conn client clean)

abbrev pub lets_in : QuotaData → ℕ → ℕ → List ℕ → Bool → Option (List ℕ × ℕ) → Bool
lets_in d user conn client clean will = lets d (connected d user conn client clean will) user

-- ---- SUBSCRIBE and UNSUBSCRIBE (3.8, 3.10)

abbrev pub user_of : QuotaData → List ℕ → Option ℕ
user_of d client = option_map (λ (s : SessionData). s.user) (find (is_named client) d.sessions)

-- its session has each of these filters, once
abbrev pub subscribed : QuotaData → List ℕ → List (List ℕ) → QuotaData
subscribed d client filters = option_map_or (λ user. record d { filters = fold (with_filter user client) d.filters filters }) (user_of d client) d

-- all of them, or none
abbrev pub lets_subscribe : QuotaData → List ℕ → List (List ℕ) → Bool
lets_subscribe d client filters = option_map_or (λ user. lets d (subscribed d client filters) user) (user_of d client) false

abbrev pub unsubscribed : QuotaData → List ℕ → List (List ℕ) → QuotaData
unsubscribed d client filters =
    option_map_or (λ user. record d { filters = filter (λ (f : FilterData). not (is_filter user client f && list_any (λ n. bytes_eq n f.filter) filters)) d.filters })
    (user_of d client) d

-- ---- PUBLISH with RETAIN (3.3.1.3)

abbrev pub without_retained : ℕ → List ℕ → QuotaData → QuotaData
without_retained user topic d = record d { messages = filter (λ m. not (is_retained user topic m)) d.messages }

abbrev pub published : QuotaData → ℕ → List ℕ → ℕ → QuotaData
published d user topic bytes = record d {
  messages = (without_retained user topic d).messages ++ record { user = user; topic = topic; bytes = bytes; will_of = None } ∷ [];
}

abbrev pub lets_retain : QuotaData → ℕ → List ℕ → ℕ → Bool
lets_retain d user topic bytes = lets d (published d user topic bytes) user

-- with an empty payload: nobody's retained message on this topic counts any more
abbrev pub cleared : QuotaData → List ℕ → QuotaData
cleared d topic = record d { messages = filter (λ m. not (is_retained_on topic m)) d.messages }

-- ---- a connection ends

-- by DISCONNECT its will is no more (3.14.4)
abbrev pub discarded : QuotaData → ℕ → QuotaData
discarded d conn = record d { messages = filter (λ m. not (is_will_of conn m)) d.messages }

-- the bytes of a user's retained message on a topic
abbrev pub bytes_on : ℕ → List ℕ → List MessageData → ℕ
bytes_on user topic messages = unwrap_or (option_map (λ (m : MessageData). m.bytes) (find (is_retained user topic) messages)) 0

-- what stays beside a will that becomes a retained message
abbrev pub stays_beside : ℕ → MessageData → MessageData → Bool
stays_beside conn will m = not (is_will_of conn m) && not (is_retained will.user will.topic m)

-- what a will becomes, where a retained message of so many bytes is on its topic
abbrev pub retained_of : MessageData → ℕ → MessageData
retained_of will bytes = record will { bytes = max will.bytes bytes; will_of = None }

-- its will counts as a retained message, of the greater size where one counts on that topic
abbrev pub settled : ℕ → List MessageData → List MessageData
settled conn messages =
    option_map_or
    (λ (will : MessageData). filter (stays_beside conn will) messages
    ++ retained_of will (bytes_on will.user will.topic messages) ∷ [])
    (find (is_will_of conn) messages) messages

-- its session, of this user, is away from then on, or ends, where it isn't kept
abbrev pub left_at : ℕ → ℕ → List ℕ → ℕ → SessionData → SessionData
left_at user conn client now s = if s.user == user && is_here conn client s then record s { conn = None; since = now } else s

-- the sessions behind it, where that of this client is kept
abbrev pub left_of : ℕ → List ℕ → ℕ → List SessionData → List SessionData
left_of conn client now sessions = option_map_or (λ (s : SessionData). map (left_at s.user conn client now) sessions) (find (is_here conn client) sessions) sessions

abbrev pub left : QuotaData → ℕ → List ℕ → ℕ → QuotaData
left d conn client now =
    option_map_or
    (λ (s : SessionData). if s.kept then record d { sessions = map (left_at s.user conn client now) d.sessions } else without_session s.user client d)
    (find (is_here conn client) d.sessions) d

abbrev pub ended : QuotaData → ℕ → List ℕ → ℕ → QuotaData
ended d conn client now = record (left d conn client now) { messages = settled conn d.messages }

-- ---- sessions of those who stay away (own rule)

abbrev pub is_long_away : ℕ → ℕ → SessionData → Bool
is_long_away now patience s = s.kept && is_none s.conn && nat_le patience (now - s.since)

abbrev pub long_away : QuotaData → ℕ → ℕ → Option (List ℕ)
long_away d now patience = option_map (λ (s : SessionData). s.client) (find (is_long_away now patience) d.sessions)

abbrev pub forgotten : QuotaData → List ℕ → QuotaData
forgotten d client = option_map_or (λ (s : SessionData). without_session s.user client d) (find (is_left client) d.sessions) d
