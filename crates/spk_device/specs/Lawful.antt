-- What holds of each registry's data.
use Rattle.std.specs.Prelude.{◌≡◌, ℕ, ◌≤◌, Bool, true, false, not, ◌&&◌, ◌==◌, List, [], ◌∷◌, length, map, All}
use Rattle.std.specs.List.{enumerate_from, list_any}
use Rattle.std.specs.Str.{bytes_eq}
use Rattle.spk_device.specs.declared.owner.Owner.{Owner}
use Rattle.spk_device.specs.Step.{is_empty, is_taken}
use Rattle.spk_device.specs.Values.{is_of}
use Rattle.spk_device.specs.Book.{Book, DeviceData, GaugeData, is_owner, is_there, owned}

-- no element is the same as an earlier one, by a test of a later and an earlier
abbrev pub AreApart : {X : Type 0} → (X → X → Bool) → List X → Type 0
AreApart same [] = Unit {0}
AreApart same (x ∷ xs) = (list_any (λ y. same y x) xs ≡ false) × AreApart same xs

-- one name
abbrev pub same_device : DeviceData → DeviceData → Bool
same_device d e = bytes_eq d.name e.name

-- one owner and one name
abbrev pub same_metric : GaugeData → GaugeData → Bool
same_metric g h = is_owner g.owner h.owner && bytes_eq g.name h.name

-- a device's name can be a level of a topic: it has a byte, and none of `/`, `+`, `#` and U+0000 (MQTT 3.1.1, 4.7)
abbrev pub holds : ℕ → List ℕ → Bool
holds byte text = list_any (λ b. b == byte) text

abbrev pub is_level : List ℕ → Bool
is_level name = not (is_empty name) && not (holds 47 name) && (not (holds 43 name) && not (holds 35 name)) && not (holds 0 name)

-- Each device has its own name, which can stand in a topic. Each metric of an owner has its own name too, which isn't one that
-- the node's own messages use; it has an owner that is there and a value of its datatype. And there are no more of them
-- than there may be.
pub record IsLawful (b : Book) : Type 0 where
  pub few_devices : length b.devices ≤ 1000
  pub few_gauges : length b.gauges ≤ 10000
  pub apart : AreApart same_device b.devices
  pub metrics_apart : AreApart same_metric b.gauges
  pub owners : All (λ g. is_there b.devices g.owner ≡ true) b.gauges
  pub values : All (λ g. is_of g.datatype g.value ≡ true) b.gauges
  pub levels : All (λ d. is_level d.name ≡ true) b.devices
  pub named : All (λ g. is_empty g.name ≡ false) b.gauges
  pub unreserved : All (λ g. is_taken g.name ≡ false) b.gauges

-- ---- the names by which the registry finds numbers

abbrev pub device_names : List DeviceData → List (List ℕ × ℕ)
device_names devices = map (λ e. (e.1.name, e.0)) (enumerate_from 0 devices)

abbrev pub metric_names : Owner → List GaugeData → List (List ℕ × ℕ)
metric_names owner gauges = map (λ e. (e.1.name, e.0)) (owned owner gauges)
