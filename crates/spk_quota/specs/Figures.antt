-- Figures that bodies work out (own rules).
use Rattle.std.specs.Prelude.{◌+◌, ◌-◌, ◌||◌, ℕ, Bool, List, Option, count_by, is_some, not, unwrap_or, if◌then◌else◌}
use Rattle.std.specs.Option.{option_map}
use Rattle.spk_quota.specs.Data.{MessageData, QuotaData, SessionData}
use Rattle.spk_quota.specs.Held.{bytes_for, held, is_here_by}
use Rattle.spk_quota.specs.Step.{is_retained, is_session, without_session}
use Rattle.spk_quota.specs.declared.limits.Held.{Held}

-- two figures of each sort together
abbrev pub sum_of : Held → Held → Held
sum_of a b = record {
  connections = a.connections + b.connections;
  sessions = a.sessions + b.sessions;
  filters = a.filters + b.filters;
  retained = a.retained + b.retained;
  bytes = a.bytes + b.bytes;
}

-- the bytes of a message that count for a user, but for its retained message on a topic
abbrev pub bytes_beside : ℕ → List ℕ → MessageData → ℕ
bytes_beside user topic m = if not (is_retained user topic m) then bytes_for user m else 0

-- a session of a user has a connection once that of this client has one
abbrev pub is_here_with : ℕ → List ℕ → SessionData → Bool
is_here_with user client s = is_session user client s || is_here_by user s

-- how many these are, but for that of this client
abbrev pub connections_beside : ℕ → List ℕ → List SessionData → ℕ
connections_beside user client sessions = count_by (is_here_with user client) sessions - 1

-- what a user holds beside a session that is made anew, or all of it, but for the connection of one that goes on
abbrev pub others_of : QuotaData → ℕ → List ℕ → Bool → Held
others_of d user client goes_on =
    if goes_on then record (held d user) { connections = connections_beside user client d.sessions } else held (without_session user client d) user

-- what comes to it with a CONNECT: a connection, a kept session, and a will
abbrev pub more_of : Bool → Option (List ℕ × ℕ) → Held
more_of is_new will = record {
  connections = 1;
  sessions = if is_new then 1 else 0;
  filters = 0;
  retained = if is_some will then 1 else 0;
  bytes = unwrap_or (option_map (λ w. w.1) will) 0;
}

-- what comes to it with a SUBSCRIBE: so many filters
abbrev pub more_filters : ℕ → Held
more_filters count = record { connections = 0; sessions = 0; filters = count; retained = 0; bytes = 0 }
