-- What is asked of the list of calls that were done, newest first. Nothing here steps any data.
use Rattle.std.specs.Prelude.{ℕ, ◌+◌, ◌==◌, Bool, false, List, [], ◌∷◌, ◌++◌, map, Option, if◌then◌else◌}
use Rattle.std.specs.List.{enumerate_from}
use Rattle.std.specs.Str.{bytes_eq}
use Rattle.spk_payload.specs.Typing.{Typed}
use Rattle.spk_device.specs.Book.{Book, DeviceData, GaugeData, empty_book}
use Rattle.spk_device.specs.Calls.{Call, AddDevice, AddMetric, Set, Turn, refusal, unless_refused}

-- the devices as they were first, in order of adding: those that were there, and those added, which are down
abbrev pub devices_from : List DeviceData → List Call → List DeviceData
devices_from first [] = first
devices_from first (AddDevice name ∷ h) = devices_from first h ++ (record { name = name; up = false }) ∷ []
devices_from first (_ ∷ h) = devices_from first h

-- the metrics with their first values, in order of adding: those that were there, and those added
abbrev pub metrics_from : List GaugeData → List Call → List GaugeData
metrics_from first [] = first
metrics_from first (AddMetric owner name datatype value ∷ h) =
    metrics_from first h ++ (record { owner = owner; name = name; datatype = datatype; value = value }) ∷ []
metrics_from first (_ ∷ h) = metrics_from first h

abbrev pub metrics_added : List Call → List GaugeData
metrics_added h = metrics_from [] h

-- the value last set at an alias, or else the first
abbrev pub last_set : List Call → ℕ → Option Typed → Option Typed
last_set [] alias first = first
last_set (Set a value ∷ h) alias first = if alias == a then value else last_set h alias first
last_set (_ ∷ h) alias first = last_set h alias first

-- whether a device is up by the last turn of its name, or else as it was first
abbrev pub last_turn : List Call → List ℕ → Bool → Bool
last_turn [] name first = first
last_turn (Turn other up ∷ h) name first = if bytes_eq other name then up else last_turn h name first
last_turn (_ ∷ h) name first = last_turn h name first

abbrev pub device_by : List Call → DeviceData → DeviceData
device_by h d = record d { up = last_turn h d.name d.up }

-- a metric at its place, with the value last set at its alias
abbrev pub gauge_by : List Call → ℕ × GaugeData → GaugeData
gauge_by h e = record e.1 { value = last_set h (e.0 + 1) e.1.value }

-- from a first book on, and from an empty one: which values metrics may have stays as it is
abbrev pub book_from : Book → List Call → Book
book_from first h = record {
  devices = map (device_by h) (devices_from first.devices h);
  gauges = map (gauge_by h) (enumerate_from 0 (metrics_from first.gauges h));
  values = first.values;
}

abbrev pub book_at : List Call → Book
book_at h = book_from empty_book h

-- of all calls those that weren't refused: a refused one leaves no trace
abbrev pub done_from : Book → List Call → List Call
done_from first [] = []
done_from first (call ∷ calls) =
    unless_refused (refusal (book_from first (done_from first calls)) call) (call ∷ done_from first calls) (done_from first calls)

abbrev pub done : List Call → List Call
done calls = done_from empty_book calls
