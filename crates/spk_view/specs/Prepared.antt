-- What a message that was made ready does to what a host keeps of a node.
use Rattle.std.specs.Prelude.{ℕ, Bool, true, false, not, ◌||◌, ◌&&◌, List, [], map, Option, Some, None, if◌then◌else◌}
use Rattle.std.specs.List.{list_any}
use Rattle.std.specs.Option.{option_map}
use Rattle.std.specs.Str.{bytes_eq}
use Rattle.spk_host_rules.specs.Data.{Row, Device, View, Watch, Message, NodeBirth, NodeData, DeviceBirth, DeviceData, DeviceDeath}
use Rattle.spk_payload.specs.Meaning.{MetricData}
use Rattle.spk_host_rules.specs.Table.{table_of, is_lacking, name_by}
use Rattle.spk_host_rules.specs.Step as rules
use Rattle.spk_view.specs.Data.{Prepared, NodeTable, NodeChanges, DeviceTable, DeviceChanges, DeviceEnd}

-- a message, made ready
abbrev pub prepared : Message → Prepared
prepared (NodeBirth ms) = NodeTable (table_of ms)
prepared (NodeData ms) = NodeChanges ms
prepared (DeviceBirth name ms) = DeviceTable name (table_of ms)
prepared (DeviceData name ms) = DeviceChanges name ms
prepared (DeviceDeath name) = DeviceEnd name

-- the name of the row that a metric of data means: that of its alias or, without one, of its name
abbrev pub meaning : List Row → MetricData → Option (List ℕ)
meaning rows m = name_by rows m.alias m.name

-- ---- the view

abbrev pub born_with : List Row → List Device → View
born_with rows devices = record { online = true; stale = false; rows = rows; devices = map rules.unborn devices }

-- a device as its birth shows it
abbrev pub newborn : List ℕ → List Row → View → Device
newborn name rows v = record { name = name; born = true; online = v.online; stale = v.stale; rows = rows }

abbrev pub device_with : List ℕ → List Row → View → View
device_with name rows v = record v { devices = rules.put_device (newborn name rows v) v.devices }

abbrev pub view_by : Option View → Prepared → Option View
view_by view (NodeTable rows) = Some (born_with rows (rules.devices_of view))
view_by view (NodeChanges ms) = option_map (rules.node_changed ms) view
view_by view (DeviceTable name rows) = option_map (device_with name rows) view
view_by view (DeviceChanges name ms) = option_map (rules.each_device (rules.changed_device name ms)) view
view_by view (DeviceEnd name) = option_map (rules.each_device (rules.dead_device name)) view

-- ---- room for a device

abbrev pub has_device : List ℕ → List Device → Bool
has_device name devices = list_any (λ d. bytes_eq name d.name) devices

-- a device that isn't in the view takes room in it
abbrev pub is_new : Prepared → View → Bool
is_new (DeviceTable name rows) v = not (has_device name v.devices)
is_new _ v = false

abbrev pub takes_room : Option View → Prepared → Bool
takes_room None p = false
takes_room (Some v) p = is_new p v

-- ---- requests

abbrev pub is_unknown_by : Option View → Prepared → Bool
is_unknown_by view (NodeTable rows) = false
is_unknown_by view (NodeChanges ms) = is_lacking (rules.rows_of view) ms
is_unknown_by view (DeviceTable name rows) = false
is_unknown_by view (DeviceChanges name ms) = rules.is_device_lacking (rules.device_rows name view) ms
is_unknown_by view (DeviceEnd name) = rules.is_device_lacking (rules.device_rows name view) []

abbrev pub is_birth_by : Prepared → Bool
is_birth_by (NodeTable rows) = true
is_birth_by _ = false

-- a request is due at such a cause
abbrev pub asks_by : ℕ → Watch → Bool → ℕ → Bool
asks_by wait w is_cause now = is_cause && rules.may_ask wait now w.asked w.born_since

-- what is kept after an event: the view then, whether it was a cause, and whether it was a birth of the node
abbrev pub kept_after : ℕ → Watch → Option View → Bool → Bool → ℕ → Watch
kept_after wait w view is_cause is_birth now = record {
  view = view;
  asked = if asks_by wait w is_cause now then Some now else w.asked;
  born_since = if asks_by wait w is_cause now then false else (is_birth || w.born_since);
}
