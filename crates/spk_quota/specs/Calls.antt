-- Any list of calls (own rules).
use Rattle.std.specs.Prelude.{◌==◌, ◌&&◌, ◌||◌, ◌≤◌, ◌≡◌, ◌+◌, ℕ, max, slice_get, unwrap_or, Bool, true, false, List, Option, if◌then◌else◌}
use Rattle.std.specs.List.{find, list_any}
use Rattle.std.specs.Option.{option_map_or}
use Rattle.spk_quota.specs.Data.{MessageData, QuotaData, SessionData}
use Rattle.spk_quota.specs.Step.{cleared, connected, discarded, ended, forgotten, is_here, is_left, is_will_of, lets_in, lets_retain, lets_subscribe, published, resumed, subscribed, unsubscribed, user_of}
use Rattle.spk_quota.specs.declared.limits.Held.{Held}
use Rattle.spk_quota.specs.declared.limits.Limits.{Limits}

pub data Call : Type 0 where
  Resume : (user : ℕ) (client : List ℕ) (filters : List (List ℕ)) (now : ℕ) → Call
  Connect : (user conn : ℕ) (client : List ℕ) (clean : Bool) (will : Option (List ℕ × ℕ)) → Call
  Subscribe : (client : List ℕ) (filters : List (List ℕ)) → Call
  Unsubscribe : (client : List ℕ) (filters : List (List ℕ)) → Call
  Publish : (user : ℕ) (topic : List ℕ) (bytes : ℕ) → Call
  Clear : (topic : List ℕ) → Call
  DiscardWill : (conn : ℕ) → Call
  Ended : (conn : ℕ) (client : List ℕ) (now : ℕ) → Call
  Forget : (client : List ℕ) → Call

abbrev pub step : QuotaData → Call → QuotaData
step d (Resume user client filters now) = resumed d user client filters now
step d (Connect user conn client clean will) = if lets_in d user conn client clean will then connected d user conn client clean will else d
step d (Subscribe client filters) = if lets_subscribe d client filters then subscribed d client filters else d
step d (Unsubscribe client filters) = unsubscribed d client filters
step d (Publish user topic bytes) = if lets_retain d user topic bytes then published d user topic bytes else d
step d (Clear topic) = cleared d topic
step d (DiscardWill conn) = discarded d conn
step d (Ended conn client now) = ended d conn client now
step d (Forget client) = forgotten d client

abbrev pub is_resume : Call → Bool
is_resume (Resume user client filters now) = true
is_resume _ = false

-- the session of a client is this user's
abbrev pub is_whose : QuotaData → List ℕ → ℕ → Bool
is_whose d client user = option_map_or (λ owner. owner == user) (user_of d client) false

-- the first session of these is this user's
abbrev pub is_owner : ℕ → Option SessionData → Bool
is_owner user found = option_map_or (λ (s : SessionData). s.user == user) found false

-- whether a call is one of a user: it names the user, or one of its sessions or wills; a Clear names none
abbrev pub is_by : QuotaData → Call → ℕ → Bool
is_by d (Resume owner client filters now) user = owner == user
is_by d (Connect owner conn client clean will) user = owner == user
is_by d (Subscribe client filters) user = is_whose d client user
is_by d (Unsubscribe client filters) user = is_whose d client user
is_by d (Publish owner topic bytes) user = owner == user
is_by d (Clear topic) user = false
is_by d (DiscardWill conn) user = list_any (λ (m : MessageData). is_will_of conn m && m.user == user) d.messages
is_by d (Ended conn client now) user =
    list_any (λ (m : MessageData). is_will_of conn m && m.user == user) d.messages || is_owner user (find (is_here conn client) d.sessions)
is_by d (Forget client) user = is_owner user (find (is_left client) d.sessions)

abbrev pub is_clear : Call → Bool
is_clear (Clear topic) = true
is_clear _ = false

-- a user's limits; of one who isn't known all are 0
abbrev pub limits_of : List Limits → ℕ → Limits
limits_of limits user = unwrap_or (slice_get limits user) (record { connections = 0; sessions = 0; filters = 0; retained = 0; bytes = 0; waiting = 0 })

-- a user holds no more of anything
pub record HoldsLess (behind before : Held) : Type 0 where
  pub connections : behind.connections ≤ before.connections
  pub sessions : behind.sessions ≤ before.sessions
  pub filters : behind.filters ≤ before.filters
  pub retained : behind.retained ≤ before.retained
  pub bytes : behind.bytes ≤ before.bytes

-- a user holds no more of anything than its limit, or than before, where that is more
pub record HoldsWithin (l : Limits) (before behind : Held) : Type 0 where
  pub connections : behind.connections ≤ max l.connections before.connections
  pub sessions : behind.sessions ≤ max l.sessions before.sessions
  pub filters : behind.filters ≤ max l.filters before.filters
  pub retained : behind.retained ≤ max l.retained before.retained
  pub bytes : behind.bytes ≤ max l.bytes before.bytes

-- a user holds no more of anything than its limit
pub record HoldsAtMost (l : Limits) (h : Held) : Type 0 where
  pub connections : h.connections ≤ l.connections
  pub sessions : h.sessions ≤ l.sessions
  pub filters : h.filters ≤ l.filters
  pub retained : h.retained ≤ l.retained
  pub bytes : h.bytes ≤ l.bytes

-- what a resumed session gives its user: itself, so many filters, and no connection
pub record HoldsGiven (count : ℕ) (before behind : Held) : Type 0 where
  pub connections : behind.connections ≤ before.connections
  pub sessions : behind.sessions ≤ before.sessions + 1
  pub filters : behind.filters ≤ before.filters + count
  pub retained : behind.retained ≡ before.retained
  pub bytes : behind.bytes ≡ before.bytes
