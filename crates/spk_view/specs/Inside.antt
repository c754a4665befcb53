-- What contracts see of the crate's types.
use Rattle.std.specs.Prelude.{map, string_bytes}
use Rattle.spk_payload.specs.View.{metric_view}
use Rattle.spk_view.specs.Data.{Prepared, NodeTable, NodeChanges, DeviceTable, DeviceChanges, DeviceEnd}
use Rattle.spk_view.specs.declared.ready.Body.{Body}
use Rattle.spk_view.specs.declared.ready.Body.TheVariants as body

abbrev pub body_view : Body → Prepared
body_view (body.NodeBirth table) = NodeTable table
body_view (body.NodeData ms) = NodeChanges (map metric_view ms.items)
body_view (body.DeviceBirth name table) = DeviceTable (string_bytes name) table
body_view (body.DeviceData name ms) = DeviceChanges (string_bytes name) (map metric_view ms.items)
body_view (body.DeviceDeath name) = DeviceEnd (string_bytes name)
