-- How long others wait for one client (own rules). Moments and times are in milliseconds.
use Rattle.std.specs.Prelude.{ℕ, ◌+◌, ◌-◌, min, nat_lt, nat_le, Bool, false, Option, Some, None, if◌then◌else◌}
use Rattle.std.specs.Option.{option_map}

pub record Waits : Type 0 where
  -- when the second began
  pub second : ℕ
  -- how long was waited in it, without the wait that goes on
  pub used : ℕ
  -- when the wait that goes on began
  pub since : Option ℕ

-- the most that is waited at a time
abbrev pub most_at_once : ℕ
most_at_once = 200

-- the most that is waited in a second
abbrev pub most_waited : ℕ
most_waited = 1000

abbrev pub fresh_waits : Waits
fresh_waits = record { second = 0; used = 0; since = None }

abbrev pub lasts_since : ℕ → ℕ → Option ℕ → Bool
lasts_since now used None = false
lasts_since now used (Some since) = nat_lt (now - since) (min (most_waited - used) most_at_once)

-- whether somebody waits at this moment
abbrev pub lasts : ℕ → Waits → Bool
lasts now w = lasts_since now w.used w.since

-- a wait of the most at once uses up the second
abbrev pub used_by : ℕ → ℕ → Option ℕ → ℕ
used_by now used None = used
used_by now used (Some since) = if nat_le most_at_once (now - since) then most_waited else min (used + (now - since)) most_waited

abbrev pub ended : ℕ → Waits → Waits
ended now w = record { second = w.second; used = used_by now w.used w.since; since = None }

-- a new second, where the last one is over
abbrev pub renewed : ℕ → Waits → Waits
renewed now w = if nat_le 1000 (now - w.second) then record w { second = now; used = 0 } else w

abbrev pub tried : ℕ → Waits → Waits
tried now w = if nat_lt w.used most_waited then record w { since = Some now } else w

abbrev pub began : ℕ → Waits → Waits
began now w = if lasts now w then w else tried now (renewed now (ended now w))

-- the greatest moment: it has 64 bits
abbrev pub last_moment : ℕ
last_moment = 18446744073709551615

-- when the wait that goes on is over at the latest
abbrev pub until : Waits → Option ℕ
until w = option_map (λ since. min (since + min (most_waited - w.used) most_at_once) last_moment) w.since
