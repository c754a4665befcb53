-- What a user holds, and whether a call may make it hold this (own rules).
use Rattle.std.specs.Prelude.{◌==◌, ◌&&◌, ◌||◌, ℕ, Bool, false, count_by, is_some, nat_le, slice_get, if◌then◌else◌}
use Rattle.std.specs.List.{sum_by}
use Rattle.std.specs.Option.{option_map_or}
use Rattle.spk_quota.specs.Data.{FilterData, MessageData, QuotaData, SessionData}
use Rattle.spk_quota.specs.declared.limits.Held.{Held}
use Rattle.spk_quota.specs.declared.limits.Limits.{Limits}

-- a session of this user that has a connection
abbrev pub is_here_by : ℕ → SessionData → Bool
is_here_by user s = is_some s.conn && s.user == user

abbrev pub is_kept_by : ℕ → SessionData → Bool
is_kept_by user s = s.kept && s.user == user

abbrev pub is_filter_by : ℕ → FilterData → Bool
is_filter_by user f = f.user == user

abbrev pub is_message_by : ℕ → MessageData → Bool
is_message_by user m = m.user == user

-- the bytes of a message that count for a user
abbrev pub bytes_for : ℕ → MessageData → ℕ
bytes_for user m = if m.user == user then m.bytes else 0

-- sessions that have a connection, kept sessions, the filters of all sessions together, retained messages and wills, and the bytes of these
abbrev pub held : QuotaData → ℕ → Held
held d user = record {
  connections = count_by (is_here_by user) d.sessions;
  sessions = count_by (is_kept_by user) d.sessions;
  filters = count_by (is_filter_by user) d.filters;
  retained = count_by (is_message_by user) d.messages;
  bytes = sum_by (bytes_for user) d.messages;
}

-- a figure may stand behind a call where it is within its limit, or no more than before
abbrev pub may_be : (most before behind : ℕ) → Bool
may_be most before behind = nat_le behind most || nat_le behind before

abbrev pub fits : Limits → (before behind : Held) → Bool
fits l before behind =
    may_be l.connections before.connections behind.connections
    && may_be l.sessions before.sessions behind.sessions
    && may_be l.filters before.filters behind.filters
    && may_be l.retained before.retained behind.retained
    && may_be l.bytes before.bytes behind.bytes

-- whether a user may come to hold what it holds in the second data; one who isn't known may nothing
abbrev pub lets : QuotaData → QuotaData → ℕ → Bool
lets d behind user = option_map_or (λ l. fits l (held d user) (held behind user)) (slice_get d.limits user) false
