-- Of which messages it is told beforehand whether they ask for a rebirth.
use Rattle.std.specs.Prelude.{ℕ, ◌-◌, ◌/◌, Bool, true, false, ◌&&◌, ◌==◌, nat_le, length, Option, Some, None}
use Rattle.spk_sequence.specs.declared.answer.Step.{Step}
use Rattle.spk_sequence.specs.declared.answer.Step.TheVariants as step
use Rattle.spk_host_rules.specs.Data.{View, Watch}
use Rattle.spk_reading.specs.Data as said
use Rattle.spk_reading.specs.Data.{NumberedData, SubjectData}

-- so many metrics are few: to look them up costs no more than a request
abbrev pub few : ℕ
few = 64

abbrev pub devices_in : Option View → ℕ
devices_in None = 0
devices_in (Some view) = length view.devices

-- a device is found among these beside so many metrics: to pass over four costs no more than a metric
abbrev pub is_near : ℕ → ℕ → Bool
is_near metrics devices = nat_le (devices / 4) (few - metrics)

-- a birth asks for none; of data few metrics are looked up, and a device if it is near
abbrev pub is_soon : SubjectData → ℕ → ℕ → Bool
is_soon said.NodeBirth metrics devices = true
is_soon said.NodeData metrics devices = nat_le metrics few
is_soon (said.DeviceBirth device) metrics devices = true
is_soon (said.DeviceData device) metrics devices = nat_le metrics few && is_near metrics devices
is_soon (said.DeviceDeath device) metrics devices = is_near 0 devices

abbrev pub is_soon_told : Watch → NumberedData → Bool
is_soon_told w m = is_soon m.subject (length m.payload.metrics) (devices_in w.view)

-- at a step at which the view hears one event
abbrev pub is_told : Step → Watch → NumberedData → Bool
is_told (step.Consumed n) w m = n == 1 && is_soon_told w m
is_told step.Gap w m = true
is_told step.NotLive w m = true
is_told _ w m = false
