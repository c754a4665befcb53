-- What contracts see of the crate's types.
use Rattle.std.specs.Option.{option_map}
use Rattle.std.specs.String.{string_bytes}
use Rattle.spk_payload.specs.Typing.{typed_view}
use Rattle.spk_device.specs.declared.device.Device.{Device}
use Rattle.spk_device.specs.declared.gauge.Gauge.{Gauge}
use Rattle.spk_device.specs.Book.{DeviceData, GaugeData}

abbrev pub device_view : Device → DeviceData
device_view d = record { name = string_bytes d.name; up = d.up }

abbrev pub gauge_view : Gauge → GaugeData
gauge_view g = record {
  owner = g.owner;
  name = string_bytes g.name;
  datatype = g.datatype;
  value = option_map typed_view g.value;
}
