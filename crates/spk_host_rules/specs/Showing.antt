-- What it means that a view shows the values of what was heard, newest first.
use Rattle.std.specs.Prelude.{◌≡◌, ℕ, Bool, true, false, not, ◌&&◌, List, Option, Some, None}
use Rattle.std.specs.List.{find}
use Rattle.std.specs.Str.{bytes_eq}
use Rattle.spk_host_rules.specs.Data.{Device, View, Event}
use Rattle.spk_host_rules.specs.Values.{Part, DeviceValues, last_part, values_at, node_data, device_at, consumed_of, is_online, is_followed}

-- A device is shown if it was born in this birth, or if an earlier birth named it; and then it is offline and stale. It is
-- online where the node is and it lives, and fresh where the node is followed and it lives.
abbrev pub ShowsDevice : Bool → Bool → Option DeviceValues → Option Device → Type 0
ShowsDevice online followed None None = Unit {0}
ShowsDevice online followed None (Some d) = (d.born ≡ false) × (d.online ≡ false) × (d.stale ≡ true)
ShowsDevice online followed (Some w) None = ⊥
ShowsDevice online followed (Some w) (Some d) =
    (d.born ≡ true) × (d.rows ≡ w.rows) × (d.online ≡ (online && w.alive)) × (d.stale ≡ not (followed && w.alive))

-- the device of this name
abbrev pub device_in : List ℕ → List Device → Option Device
device_in device devices = find (λ d. bytes_eq d.name device) devices

-- A view shows what was heard.
pub record Shows (events : List Event) (v : View) : Type 0 where
  -- the last birth that was taken, and what was consumed since
  pub part : Part
  pub is_last : last_part (consumed_of events) ≡ Some part
  -- the node's metrics have the values at the last message consumed
  pub rows : v.rows ≡ values_at part.birth (node_data part.since)
  pub online : v.online ≡ is_online events
  pub stale : v.stale ≡ not (is_followed events)
  -- and each device has its own
  pub devices : (device : List ℕ) →
      ShowsDevice (is_online events) (is_followed events) (device_at device part.since) (device_in device v.devices)

-- there is a view from the first birth on
abbrev pub IsShown : List Event → Option View → Type 0
IsShown events None = last_part (consumed_of events) ≡ None
IsShown events (Some v) = Shows events v
