-- Which closes the log tells of (own rules): ten in each second of the clock, and behind it how many more there were. Moments are in
-- milliseconds.
use Rattle.std.specs.Prelude.{ℕ, ◌+◌, ◌*◌, ◌/◌, ◌==◌, min, nat_lt, Bool, ◌&&◌, Option, Some, None, if◌then◌else◌}
use Rattle.spk_clients.specs.Client.{most_number}
use Rattle.spk_status.specs.declared.telling.Telling.{Telling}

abbrev pub fresh_telling : Telling
fresh_telling = record { second = 0; told = 0; more = 0 }

-- the second of a moment
abbrev pub second_of : ℕ → ℕ
second_of now = now / 1000

-- how many were told of in the second of this moment
abbrev pub told_in : ℕ → Telling → ℕ
told_in now t = if second_of now == t.second then t.told else 0

-- ten are told of in a second
abbrev pub is_told : ℕ → Telling → Bool
is_told now t = nat_lt (told_in now t) 10

-- behind a close at this moment
abbrev pub noted_at : ℕ → Telling → Telling
noted_at now t = if is_told now t
    then record t { second = second_of now; told = told_in now t + 1 }
    else record t { second = second_of now; told = told_in now t; more = min (t.more + 1) most_number }

-- the second of the last close is over, and not each was told of
abbrev pub is_rest_due : ℕ → Telling → Bool
is_rest_due now t = nat_lt 0 t.more && nat_lt t.second (second_of now)

abbrev pub rest_of : ℕ → Telling → Option ℕ
rest_of now t = if is_rest_due now t then Some t.more else None

abbrev pub rested_at : ℕ → Telling → Telling
rested_at now t = if is_rest_due now t then record t { more = 0 } else t

-- when the second of the last close is over, where not each was told of
abbrev pub due_of : Telling → Option ℕ
due_of t = if t.more == 0 then None else Some (min (min (t.second + 1) most_number * 1000) most_number)
