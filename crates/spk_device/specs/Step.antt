-- What a call of `Registry` answers, and the data after it, from the data before it and the arguments.
use Rattle.std.specs.Prelude.{ℕ, ◌+◌, ◌==◌, nat_le, Bool, true, false, not, ◌&&◌, ◌||◌, List, [], ◌∷◌, ◌++◌, length, map, Option, Some, None, codes, if◌then◌else◌}
use Rattle.std.specs.List.{enumerate_from, list_any}
use Rattle.std.specs.Option.{option_map_or}
use Rattle.std.specs.Str.{bytes_eq}
use Rattle.spk_payload.specs.Typing.{Typed}
use Rattle.spk_device.specs.declared.outcome.Outcome.{Outcome}
use Rattle.spk_device.specs.declared.outcome.Outcome.TheVariants.{Changed, Same}
use Rattle.spk_device.specs.declared.fault.Refusal.{Refusal}
use Rattle.spk_device.specs.declared.fault.Refusal.TheVariants.{Duplicate, NoSuch, WrongKind, Full, BadName}
use Rattle.spk_device.specs.declared.owner.Owner.{Owner}
use Rattle.spk_device.specs.Values.{flag_eq, value_eq, is_written, is_of}
use Rattle.spk_device.specs.Book.{Book, DeviceData, GaugeData, has_owner, has_device, has_metric, is_up, gauge_at}

-- ---- refusals, in their order

-- the names that a node's own messages use
abbrev pub is_taken : List ℕ → Bool
is_taken name = bytes_eq name (codes "bdSeq") || bytes_eq name (codes "Node Control/Rebirth")

abbrev pub is_empty : List ℕ → Bool
is_empty [] = true
is_empty (c ∷ cs) = false

-- `+`, `/`, `#` and U+0000 can't stand in a device's name, which is a level of its topics
abbrev pub is_barred : ℕ → Bool
is_barred c = (c == 43) || ((c == 47) || ((c == 35) || (c == 0)))

abbrev pub add_device_refusal : Book → List ℕ → Option Refusal
add_device_refusal b name =
    if has_device b name then Some Duplicate
    else if nat_le 1000 (length b.devices) then Some Full
    else if is_empty name || list_any is_barred name then Some BadName
    else None

abbrev pub add_metric_refusal : Book → Owner → List ℕ → ℕ → Option Typed → Option Refusal
add_metric_refusal b owner name datatype value =
    if is_taken name || has_metric b owner name then Some Duplicate
    else if not (has_owner b owner) then Some NoSuch
    else if not (is_written b.values datatype && is_of datatype value) then Some WrongKind
    else if nat_le 10000 (length b.gauges) then Some Full
    else if is_empty name then Some BadName
    else None

abbrev pub set_refusal : Book → ℕ → Option Typed → Option Refusal
set_refusal b alias value =
    option_map_or (λ g. if is_of g.datatype value then None else Some WrongKind) (gauge_at b alias) (Some NoSuch)

abbrev pub turn_refusal : Book → List ℕ → Option Refusal
turn_refusal b name = if has_device b name then None else Some NoSuch

abbrev pub births_refusal : Book → Owner → Option Refusal
births_refusal b owner = if has_owner b owner then None else Some NoSuch

-- ---- answers, where nothing is refused

abbrev pub change_unless : Bool → Outcome
change_unless same = if same then Same else Changed

-- Same exactly where the value is the present one
abbrev pub set_change : Book → ℕ → Option Typed → Outcome
set_change b alias value = change_unless (option_map_or (λ g. value_eq g.value value) (gauge_at b alias) false)

-- Same exactly where the device is so already
abbrev pub turn_change : Book → List ℕ → Bool → Outcome
turn_change b name up = change_unless (option_map_or (λ u. flag_eq u up) (is_up b name) false)

-- ---- the data after a call, where nothing is refused

-- a new device is down
abbrev pub with_device : Book → List ℕ → Book
with_device b name = record b { devices = b.devices ++ (record { name = name; up = false }) ∷ [] }

abbrev pub with_metric : Book → Owner → List ℕ → ℕ → Option Typed → Book
with_metric b owner name datatype value =
    record b { gauges = b.gauges ++ (record { owner = owner; name = name; datatype = datatype; value = value }) ∷ [] }

-- the metric of the alias has the value, the others keep theirs
abbrev pub values_with : ℕ → ℕ → Option Typed → List GaugeData → List GaugeData
values_with n alias value gauges =
    map (λ e. if e.0 + 1 == alias then record e.1 { value = value } else e.1) (enumerate_from n gauges)

abbrev pub with_value : Book → ℕ → Option Typed → Book
with_value b alias value = record b { gauges = values_with 0 alias value b.gauges }

-- the device of the name is up or down, the others stay as they are
abbrev pub turned : List ℕ → Bool → DeviceData → DeviceData
turned name up d = if bytes_eq name d.name then record d { up = up } else d

abbrev pub with_turn : Book → List ℕ → Bool → Book
with_turn b name up = record b { devices = map (turned name up) b.devices }
