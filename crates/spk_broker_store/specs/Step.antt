-- What each call leaves of a journal's data (own rules). Moments are in milliseconds.
use Rattle.std.specs.Prelude.{ℕ, ◌+◌, ◌-◌, ◌/◌, ◌^◌, min, nat_le, ◌==◌, Bool, true, false, ◌&&◌, Option, Some, None, if◌then◌else◌}
use Rattle.std.specs.Option.{option_map, option_map_or}
use Rattle.spk_broker_store.specs.Data.{Data}
use Rattle.spk_broker_store.specs.declared.fault.StoreFault.{StoreFault}
use Rattle.spk_broker_store.specs.declared.fault.StoreFault.TheVariants.{NoMemory, Unfit, Unkept}

-- a sum, or the greatest number of 64 bits
abbrev pub sum : ℕ → ℕ → ℕ
sum a b = min (a + b) (2 ^ 64 - 1)

-- ---- puts

-- since when something isn't synced, behind a put at this moment
abbrev pub since_of : Bool → ℕ → Option ℕ → Option ℕ
since_of true now since = None
since_of false now None = Some now
since_of false now (Some first) = Some first

-- so many bytes are put behind the journal; where there are none nothing is
abbrev pub put : ℕ → ℕ → Data → Data
put count now s = if count == 0 then s else record s { len = sum s.len count; since = since_of s.each now s.since }

-- the disk failed
abbrev pub broken : Data → Data
broken s = record s { broken = true }

-- ---- syncs

-- ten milliseconds behind the first put that isn't synced
abbrev pub due : Data → Option ℕ
due s = option_map (λ first. sum first 10) s.since

abbrev pub is_due : ℕ → Data → Bool
is_due now s = option_map_or (λ moment. nat_le moment now) (due s) false

abbrev pub synced : Data → Data
synced s = record s { since = None }

abbrev pub synced_at : ℕ → Data → Data
synced_at now s = if is_due now s then synced s else s

-- ---- beginnings

-- it has at least 1,048,576 bytes, and four times those that it began with
abbrev pub is_long : Data → Bool
is_long s = nat_le 1048576 s.len && nat_le s.begun (s.len / 4)

-- it begins anew, with so many bytes
abbrev pub begun : ℕ → Data → Data
begun count s = record s { begun = count; len = count; since = None; broken = false }

-- where it isn't begun for want of memory, or since there is nothing to begin with, nothing has changed
abbrev pub after_refusal : StoreFault → Data → Data
after_refusal NoMemory s = s
after_refusal Unfit s = s
after_refusal Unkept s = broken s
