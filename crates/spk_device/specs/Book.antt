-- The plain data of a registry, of which the contracts of `Registry` speak, and what is read from it.
use Rattle.std.specs.Prelude.{ℕ, ◌+◌, ◌-◌, ◌==◌, nat_lt, Bool, true, ◌&&◌, List, [], length, map, filter, slice_get, Option, Some, None, is_some, is_none, if◌then◌else◌}
use Rattle.std.specs.List.{enumerate_from, position_from}
use Rattle.std.specs.Option.{option_map, option_and_then}
use Rattle.std.specs.Str.{bytes_eq}
use Rattle.spk_payload.specs.Meaning.{MetricData}
use Rattle.spk_payload.specs.Typing.{Typed, written_of}
use Rattle.spk_payload.specs.declared.values.Values.{Values}
use Rattle.spk_payload.specs.declared.values.Values.TheVariants as choice
use Rattle.spk_device.specs.declared.owner.Owner.{Owner}
use Rattle.spk_device.specs.declared.owner.Owner.TheVariants.{Node, Device}

-- a device's name, as bytes, and whether it is up
pub record DeviceData : Type 0 where
  pub name : List ℕ
  pub up : Bool

-- a metric: whose it is, its name as bytes, its datatype, and the value last set
pub record GaugeData : Type 0 where
  pub owner : Owner
  pub name : List ℕ
  pub datatype : ℕ
  pub value : Option Typed

-- Devices and metrics in the order in which they were added, and which values metrics may have. A device's number is its
-- place, from 0. A metric's alias is its place and one, from 1.
pub record Book : Type 0 where
  pub devices : List DeviceData
  pub gauges : List GaugeData
  pub values : Values

abbrev pub fresh_book : Values → Book
fresh_book values = record { devices = []; gauges = []; values = values }

-- with whole values alone
abbrev pub empty_book : Book
empty_book = fresh_book choice.Whole

-- ---- owners

-- owners by number: the node, then its devices
abbrev pub owner_number : Owner → ℕ
owner_number Node = 0
owner_number (Device n) = n + 1

abbrev pub is_owner : Owner → Owner → Bool
is_owner a b = owner_number a == owner_number b

-- the node is always there
abbrev pub is_there : List DeviceData → Owner → Bool
is_there devices owner = nat_lt (owner_number owner) (length devices + 1)

abbrev pub has_owner : Book → Owner → Bool
has_owner b owner = is_there b.devices owner

-- ---- devices

-- the number of the device of a name
abbrev pub number_of : Book → List ℕ → Option ℕ
number_of b name = position_from (λ d. bytes_eq name d.name) 0 b.devices

abbrev pub has_device : Book → List ℕ → Bool
has_device b name = is_some (number_of b name)

abbrev pub device_at : Book → ℕ → Option DeviceData
device_at b n = slice_get b.devices n

-- whether the device of a name is up, if there is one
abbrev pub is_up : Book → List ℕ → Option Bool
is_up b name = option_and_then (λ n. option_map (λ d. d.up) (device_at b n)) (number_of b name)

-- ---- metrics

-- the place of the metric of an owner and a name
abbrev pub place_of : Book → Owner → List ℕ → Option ℕ
place_of b owner name = position_from (λ g. is_owner owner g.owner && bytes_eq name g.name) 0 b.gauges

abbrev pub has_metric : Book → Owner → List ℕ → Bool
has_metric b owner name = is_some (place_of b owner name)

abbrev pub alias_of : Book → Owner → List ℕ → Option ℕ
alias_of b owner name = option_map (λ n. n + 1) (place_of b owner name)

abbrev pub gauge_at : Book → ℕ → Option GaugeData
gauge_at b alias = if alias == 0 then None else slice_get b.gauges (alias - 1)

-- ---- births (Sparkplug 3.0.0, chapter 6, NBIRTH and DBIRTH)

-- the metrics of an owner in order of adding, each with its place
abbrev pub owned : Owner → List GaugeData → List (ℕ × GaugeData)
owned owner gauges = filter (λ e. is_owner owner e.1.owner) (enumerate_from 0 gauges)

-- A metric in a birth: name, alias, datatype, and its value as it is written, or null alone where it has none.
abbrev pub birth_of : ℕ × GaugeData → MetricData
birth_of e = record {
  name = Some e.1.name;
  alias = Some (e.0 + 1);
  timestamp = None;
  datatype = Some e.1.datatype;
  historical = None;
  transient = None;
  null = if is_none e.1.value then Some true else None;
  value = option_and_then (written_of e.1.datatype) e.1.value;
}

abbrev pub births_of : Book → Owner → List MetricData
births_of b owner = map birth_of (owned owner b.gauges)
