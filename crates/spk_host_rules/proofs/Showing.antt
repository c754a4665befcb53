-- After any list of events the view shows the values of what was heard.
use Rattle.std.proofs.Common.{◌≡◌, ℕ, true, List, [], ◌∷◌, map, refl, sym, ◌∙◌, ap, Option, Some, None}
use Rattle.std.specs.Option.{option_map}
use Rattle.std.specs.Str.{bytes_eq}
use Rattle.spk_payload.specs.Meaning.{MetricData}
use Rattle.spk_host_rules.specs.Data.{Device, View, NodeBirth, NodeData, DeviceBirth, DeviceData, DeviceDeath, Event, Consumed, Gap, NotLive, Over}
use Rattle.spk_host_rules.specs.Table.{table_of}
use Rattle.spk_host_rules.specs.Values.{later, node_data, device_at, device_birth, device_data, has_died, is_online, is_followed}
use Rattle.spk_host_rules.specs.Step.{view_after, devices_of, node_born, unborn, stale_device, ended_device, changed_device, dead_device, show_all, after}
use Rattle.spk_host_rules.specs.Showing.{Shows, ShowsDevice, IsShown, device_in}
use Rattle.spk_host_rules.proofs.Lists.{map-id}
use Rattle.spk_host_rules.proofs.Rows.{show_all-values}
use Rattle.spk_host_rules.proofs.Devices.{in-mapped, in-put, name-found, shown-unborn, shown-stale, shown-ended, shown-born, shown-changed, shown-dead}

-- ---- a birth shows its values, whatever stood before

pub born : (events : List Event) (now : ℕ) (ms : List MetricData) (devices : List Device) → Shows (Consumed (NodeBirth ms) now ∷ events) (node_born ms devices)
born events now ms devices = record {
  part = record { birth = ms; since = [] };
  is_last = refl;
  rows = sym (map-id (λ r. r) (λ r. refl) (table_of ms));
  online = refl;
  stale = refl;
  devices = λ n. by n (in-mapped unborn (λ d. refl) n devices);
}
  where
    by : (n : List ℕ) → device_in n (map unborn devices) ≡ option_map unborn (device_in n devices) → ShowsDevice true true None (device_in n (map unborn devices))
    by n is = rw is (shown-unborn true true (device_in n devices))

-- ---- later messages

node-data : (events : List Event) (now : ℕ) (ms : List MetricData) (v : View) → Shows events v → IsShown (Consumed (NodeData ms) now ∷ events) (view_after (Some v) (Consumed (NodeData ms) now))
node-data events now ms v h = record {
  part = later (NodeData ms) h.part;
  is_last = ap (option_map (later (NodeData ms))) h.is_last;
  rows = ap (λ rows. show_all ms rows) h.rows ∙ show_all-values ms (table_of h.part.birth) (node_data h.part.since);
  online = h.online;
  stale = h.stale;
  devices = h.devices;
}

device-birth : (events : List Event) (now : ℕ) (name : List ℕ) (ms : List MetricData) (v : View) → Shows events v
    → IsShown (Consumed (DeviceBirth name ms) now ∷ events) (view_after (Some v) (Consumed (DeviceBirth name ms) now))
device-birth events now name ms v h = record {
  part = later (DeviceBirth name ms) h.part;
  is_last = ap (option_map (later (DeviceBirth name ms))) h.is_last;
  rows = h.rows;
  online = h.online;
  stale = h.stale;
  devices = λ n. rw (in-put y n v.devices)
      (shown-born (is_online events) (is_followed events) name n ms (bytes_eq name n) v.online v.stale
      (device_birth n h.part.since) (device_data n h.part.since) (has_died n h.part.since) (device_in n v.devices) h.online h.stale (h.devices n));
}
  where
    y : Device
    y = record { name = name; born = true; online = v.online; stale = v.stale; rows = table_of ms }

-- a device that is found has the name that is asked for
by-name : (name n : List ℕ) (ds : List Device) (d : Device) → device_in n ds ≡ Some d → bytes_eq name d.name ≡ bytes_eq name n
by-name name n ds d is = ap (bytes_eq name) (name-found n ds d is)

device-data : (events : List Event) (now : ℕ) (name : List ℕ) (ms : List MetricData) (v : View) → Shows events v
    → IsShown (Consumed (DeviceData name ms) now ∷ events) (view_after (Some v) (Consumed (DeviceData name ms) now))
device-data events now name ms v h = record {
  part = later (DeviceData name ms) h.part;
  is_last = ap (option_map (later (DeviceData name ms))) h.is_last;
  rows = h.rows;
  online = h.online;
  stale = h.stale;
  devices = λ n. rw (in-mapped (changed_device name ms) (λ d. refl) n v.devices)
      (shown-changed (is_online events) (is_followed events) name ms (bytes_eq name n)
      (device_birth n h.part.since) (device_data n h.part.since) (has_died n h.part.since) (device_in n v.devices)
      (by-name name n v.devices) (h.devices n));
}

device-death : (events : List Event) (now : ℕ) (name : List ℕ) (v : View) → Shows events v
    → IsShown (Consumed (DeviceDeath name) now ∷ events) (view_after (Some v) (Consumed (DeviceDeath name) now))
device-death events now name v h = record {
  part = later (DeviceDeath name) h.part;
  is_last = ap (option_map (later (DeviceDeath name))) h.is_last;
  rows = h.rows;
  online = h.online;
  stale = h.stale;
  devices = λ n. rw (in-mapped (dead_device name) (λ d. refl) n v.devices)
      (shown-dead (is_online events) (is_followed events) name (bytes_eq name n)
      (device_birth n h.part.since) (device_data n h.part.since) (has_died n h.part.since) (device_in n v.devices)
      (by-name name n v.devices) (h.devices n));
}

-- ---- a loss and an end

gap : (events : List Event) (now : ℕ) (v : View) → Shows events v → IsShown (Gap now ∷ events) (view_after (Some v) (Gap now))
gap events now v h = record {
  part = h.part;
  is_last = h.is_last;
  rows = h.rows;
  online = h.online;
  stale = refl;
  devices = λ n. rw (in-mapped stale_device (λ d. refl) n v.devices)
      (shown-stale (is_online events) (is_followed events) (device_at n h.part.since) (device_in n v.devices) (h.devices n));
}

not-live : (events : List Event) (now : ℕ) (v : View) → Shows events v → IsShown (NotLive now ∷ events) (Some v)
not-live events now v h = record {
  part = h.part;
  is_last = h.is_last;
  rows = h.rows;
  online = h.online;
  stale = h.stale;
  devices = h.devices;
}

over : (events : List Event) (v : View) → Shows events v → IsShown (Over ∷ events) (view_after (Some v) Over)
over events v h = record {
  part = h.part;
  is_last = h.is_last;
  rows = h.rows;
  online = refl;
  stale = refl;
  devices = λ n. rw (in-mapped ended_device (λ d. refl) n v.devices)
      (shown-ended (is_online events) (is_followed events) (device_at n h.part.since) (device_in n v.devices) (h.devices n));
}

-- ---- any event, any list

pub shown-after : (events : List Event) (e : Event) (view : Option View) → IsShown events view → IsShown (e ∷ events) (view_after view e)
shown-after events (Consumed (NodeBirth ms) now) view h = born events now ms (devices_of view)
shown-after events (Consumed (NodeData ms) now) None h = ap (option_map (later (NodeData ms))) h
shown-after events (Consumed (NodeData ms) now) (Some v) h = node-data events now ms v h
shown-after events (Consumed (DeviceBirth name ms) now) None h = ap (option_map (later (DeviceBirth name ms))) h
shown-after events (Consumed (DeviceBirth name ms) now) (Some v) h = device-birth events now name ms v h
shown-after events (Consumed (DeviceData name ms) now) None h = ap (option_map (later (DeviceData name ms))) h
shown-after events (Consumed (DeviceData name ms) now) (Some v) h = device-data events now name ms v h
shown-after events (Consumed (DeviceDeath name) now) None h = ap (option_map (later (DeviceDeath name))) h
shown-after events (Consumed (DeviceDeath name) now) (Some v) h = device-death events now name v h
shown-after events (Gap now) None h = h
shown-after events (Gap now) (Some v) h = gap events now v h
shown-after events (NotLive now) None h = h
shown-after events (NotLive now) (Some v) h = not-live events now v h
shown-after events Over None h = h
shown-after events Over (Some v) h = over events v h

pub always-shown : (wait : ℕ) (events : List Event) → IsShown events (after wait events).view
always-shown wait [] = refl
always-shown wait (e ∷ before) = shown-after before e (after wait before).view (always-shown wait before)
