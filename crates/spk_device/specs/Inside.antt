-- How a registry keeps its book: the devices and metrics in two lists, and the names that lead to their places.
use Rattle.std.specs.Prelude.{◌≡◌, ℕ, List, map, slice_get, Some}
use Rattle.spk_payload.specs.declared.values.Values.{Values}
use Rattle.spk_device.specs.declared.device.Device.{Device}
use Rattle.spk_device.specs.declared.gauge.Gauge.{Gauge}
use Rattle.spk_device.specs.declared.owner.Owner.TheVariants.{Node, Device as OfDevice}
use Rattle.spk_device.specs.declared.registry.Registry.TheInside.{Inside}
use Rattle.spk_device.specs.Book.{Book}
use Rattle.spk_device.specs.Lawful.{IsLawful, device_names, metric_names}
use Rattle.spk_device.specs.View.{device_view, gauge_view}

abbrev pub book_by : Values → List Device → List Gauge → Book
book_by values devices gauges = record { devices = map device_view devices; gauges = map gauge_view gauges; values = values }

abbrev pub book_of : Inside → Book
book_of a = book_by a.values a.devices.items a.gauges.items

-- The book is lawful, each device is found by its name, and each owner finds its metrics by theirs.
pub record IsIndexedBy (values : Values) (devices : List Device) (gauges : List Gauge) (names own_names : List (List ℕ × ℕ)) : Type 0 where
  pub lawful : IsLawful (book_by values devices gauges)
  pub numbers : names ≡ device_names (map device_view devices)
  pub own : own_names ≡ metric_names Node (map gauge_view gauges)
  pub tables : (n : ℕ) (d : Device) → slice_get devices n ≡ Some d
      → d.metrics ≡ metric_names (OfDevice n) (map gauge_view gauges)

abbrev pub IsIndexed : Inside → Type 0
IsIndexed a = IsIndexedBy a.values a.devices.items a.gauges.items a.numbers a.own
