use Rattle.std.proofs.Common.{◌≡◌, map}
use Rattle.std.specs.Prelude.{take}
use Rattle.serde_json.specs.View.{view}
use Rattle.spk_page.specs.Rows.{device_data}
use Rattle.spk_page.proofs.rows_json.devices_value.Given as goal

-- the values of the devices so far
abbrev pub invariant-loop-device : goal.invariant-loop-device
invariant-loop-device l = map view l.items.items ≡ map device_data (take l.device-index l.devices)
