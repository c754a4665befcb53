-- The devices of a view stand in the order of their first births.
use Rattle.std.proofs.Common.{◌≡◌, ℕ, Bool, true, false, ◌||◌, cond, List, [], ◌∷◌, ◌++◌, map, refl, sym, ◌∙◌, ap, Option, Some, None}
use Rattle.std.specs.List.{list_any}
use Rattle.std.specs.Option.{is_some}
use Rattle.std.specs.Str.{bytes_eq}
use Rattle.spk_payload.specs.Meaning.{MetricData}
use Rattle.spk_host_rules.specs.Births.{and_name}
use Rattle.spk_host_rules.specs.Data.{Device, View, NodeBirth, NodeData, DeviceBirth, DeviceData, DeviceDeath, Event, Consumed, Gap, NotLive, Over}
use Rattle.spk_host_rules.specs.Order.{device_names}
use Rattle.spk_host_rules.specs.Showing.{IsShown}
use Rattle.spk_host_rules.specs.Step.{after, view_after, devices_of, put_device, unborn, stale_device, ended_device, changed_device, dead_device}
use Rattle.spk_host_rules.specs.Table.{table_of}
use Rattle.spk_host_rules.specs.Values.{consumed_of, last_part}
use Rattle.spk_host_rules.proofs.Lists.{cond-ap, map-map, same-text}
use Rattle.spk_host_rules.proofs.Showing.{always-shown}

abbrev device_name : Device → List ℕ
device_name d = d.name

names_put : (d : Device) (ds : List Device) → map device_name (put_device d ds) ≡ and_name (Some d.name) (map device_name ds)
names_put d [] = refl
names_put d (e ∷ ds) = by (bytes_eq d.name e.name) refl (names_put d ds)
  where
    names : List (List ℕ)
    names = map device_name ds

    by : (b : Bool) → bytes_eq d.name e.name ≡ b → map device_name (put_device d ds) ≡ and_name (Some d.name) names
        → map device_name (cond b (d ∷ ds) (e ∷ put_device d ds)) ≡ cond (b || list_any (λ n. bytes_eq d.name n) names) (e.name ∷ names) ((e.name ∷ names) ++ d.name ∷ [])
    by true is rest = ap (λ (n : List ℕ). n ∷ names) (same-text d.name e.name is)
    by false is rest = ap (λ ns. e.name ∷ ns) rest ∙ cond-ap (λ ns. e.name ∷ ns) (list_any (λ n. bytes_eq d.name n) names) names (names ++ d.name ∷ [])

names-each : (f : Device → Device) → ((d : Device) → (f d).name ≡ d.name) → (ds : List Device) → map device_name (map f ds) ≡ map device_name ds
names-each f h ds = map-map f device_name device_name h ds

-- a view is there exactly where a birth was taken
there : (events : List Event) (view : Option View) → IsShown events view → is_some (last_part (consumed_of events)) ≡ is_some view
there events None h = ap is_some h
there events (Some v) h = ap is_some h.is_last

abbrev names_in : Option View → List (List ℕ)
names_in view = map device_name (devices_of view)

device-birth : (name : List ℕ) (ms : List MetricData) (now : ℕ) (view : Option View) → names_in (view_after view (Consumed (DeviceBirth name ms) now))
    ≡ cond (is_some view) (and_name (Some name) (names_in view)) (names_in view)
device-birth name ms now None = refl
device-birth name ms now (Some v) = names_put (record { name = name; born = true; online = v.online; stale = v.stale; rows = table_of ms }) v.devices

one-more : (events : List Event) (e : Event) (view : Option View) → IsShown events view → names_in view ≡ device_names (consumed_of events)
    → names_in (view_after view e) ≡ device_names (consumed_of (e ∷ events))
one-more events (Consumed (NodeBirth ms) now) view h names = names-each unborn (λ d. refl) (devices_of view) ∙ names
one-more events (Consumed (NodeData ms) now) None h names = names
one-more events (Consumed (NodeData ms) now) (Some v) h names = names
one-more events (Consumed (DeviceBirth name ms) now) view h names =
    device-birth name ms now view
    ∙ ap (λ ns. cond (is_some view) (and_name (Some name) ns) ns) names
    ∙ ap (λ b. cond b (and_name (Some name) (device_names (consumed_of events))) (device_names (consumed_of events))) (sym (there events view h))
one-more events (Consumed (DeviceData name ms) now) None h names = names
one-more events (Consumed (DeviceData name ms) now) (Some v) h names = names-each (changed_device name ms) (λ d. refl) v.devices ∙ names
one-more events (Consumed (DeviceDeath name) now) None h names = names
one-more events (Consumed (DeviceDeath name) now) (Some v) h names = names-each (dead_device name) (λ d. refl) v.devices ∙ names
one-more events (Gap now) None h names = names
one-more events (Gap now) (Some v) h names = names-each stale_device (λ d. refl) v.devices ∙ names
one-more events (NotLive now) view h names = names
one-more events Over None h names = names
one-more events Over (Some v) h names = names-each ended_device (λ d. refl) v.devices ∙ names

pub in-order : (wait : ℕ) (events : List Event) → map (λ (d : Device). d.name) (devices_of (after wait events).view) ≡ device_names (consumed_of events)
in-order wait [] = refl
in-order wait (e ∷ before) = one-more before e (after wait before).view (always-shown wait before) (in-order wait before)
