-- What a host does at an event of a node: its view's tables after it, and whether it asks for a rebirth.
use Rattle.std.specs.Prelude.{ℕ, ◌-◌, nat_le, Bool, true, false, not, ◌&&◌, ◌||◌, List, [], ◌∷◌, map, Option, Some, None, if◌then◌else◌}
use Rattle.std.specs.List.{find}
use Rattle.std.specs.Option.{option_map}
use Rattle.std.specs.Str.{bytes_eq}
use Rattle.spk_payload.specs.Meaning.{MetricData}
use Rattle.spk_host_rules.specs.Data.{Row, Device, View, Message, NodeBirth, NodeData, DeviceBirth, DeviceData, DeviceDeath, Event, Consumed, Gap, NotLive, Over, Watch, unheard}
use Rattle.spk_host_rules.specs.Table.{table_of, changes, changed, is_lacking}
use Rattle.spk_host_rules.specs.Values.{is_node_birth}

-- ---- rows

-- a metric of data, on the rows as they stand
abbrev pub show : MetricData → List Row → List Row
show m rows = map (λ r. if changes rows r.name m then changed m r else r) rows

-- several metrics of data, one after the other
abbrev pub show_all : List MetricData → List Row → List Row
show_all [] rows = rows
show_all (m ∷ ms) rows = show_all ms (show m rows)

-- ---- devices

-- at the place of the device of its name, or else last
abbrev pub put_device : Device → List Device → List Device
put_device d [] = d ∷ []
put_device d (e ∷ devices) = if bytes_eq d.name e.name then d ∷ devices else e ∷ put_device d devices

-- a device behind a new NBIRTH: it has had no DBIRTH since, and is offline and stale
abbrev pub unborn : Device → Device
unborn d = record d { born = false; online = false; stale = true }

-- a device behind a gap
abbrev pub stale_device : Device → Device
stale_device d = record d { stale = true }

-- a device behind an end of the session
abbrev pub ended_device : Device → Device
ended_device d = record d { online = false; stale = true }

-- the data of a device that wasn't born since the NBIRTH is dropped
abbrev pub changed_device : List ℕ → List MetricData → Device → Device
changed_device name ms d = record d { rows = if d.born && bytes_eq name d.name then show_all ms d.rows else d.rows }

-- the device of this name goes offline and stale by its DDEATH
abbrev pub dead_device : List ℕ → Device → Device
dead_device name d = record d { online = d.online && not (bytes_eq name d.name); stale = d.stale || bytes_eq name d.name }

-- ---- the view

-- the devices of a view; none where there is no view
abbrev pub devices_of : Option View → List Device
devices_of None = []
devices_of (Some v) = v.devices

-- a new birth: the devices that were named before stay, offline and stale
abbrev pub node_born : List MetricData → List Device → View
node_born ms devices = record { online = true; stale = false; rows = table_of ms; devices = map unborn devices }

-- NDATA changes rows of the node's own
abbrev pub node_changed : List MetricData → View → View
node_changed ms v = record v { rows = show_all ms v.rows }

-- A device's birth makes it online and its metrics fresh, as the node is while it is followed.
abbrev pub device_born : List ℕ → List MetricData → View → View
device_born name ms v = record v {
  devices = put_device (record { name = name; born = true; online = v.online; stale = v.stale; rows = table_of ms }) v.devices;
}

-- a change of each device
abbrev pub each_device : (Device → Device) → View → View
each_device f v = record v { devices = map f v.devices }

-- the view behind a message consumed; without an NBIRTH before it there is none
abbrev pub view_with : Option View → Message → Option View
view_with view (NodeBirth ms) = Some (node_born ms (devices_of view))
view_with view (NodeData ms) = option_map (node_changed ms) view
view_with view (DeviceBirth name ms) = option_map (device_born name ms) view
view_with view (DeviceData name ms) = option_map (each_device (changed_device name ms)) view
view_with view (DeviceDeath name) = option_map (each_device (dead_device name)) view

-- the view behind a gap: all is stale
abbrev pub lost : View → View
lost v = record v { stale = true; devices = map stale_device v.devices }

-- the view behind an end of the session: all is offline and stale
abbrev pub ended : View → View
ended v = record v { online = false; stale = true; devices = map ended_device v.devices }

-- the view behind what was heard
abbrev pub view_after : Option View → Event → Option View
view_after view (Consumed m now) = view_with view m
view_after view (Gap now) = option_map lost view
view_after view (NotLive now) = view
view_after view Over = option_map ended view

-- ---- requests

-- the node's own rows
abbrev pub rows_of : Option View → List Row
rows_of None = []
rows_of (Some v) = v.rows

-- the device was born since the NBIRTH, and has these rows
abbrev pub rows_if_born : Option Device → Option (List Row)
rows_if_born None = None
rows_if_born (Some d) = if d.born then Some d.rows else None

-- the rows of the device of this name, where it was born since the NBIRTH
abbrev pub device_rows : List ℕ → Option View → Option (List Row)
device_rows name view = rows_if_born (find (λ d. bytes_eq d.name name) (devices_of view))

-- the device wasn't born, or its birth gave no such alias
abbrev pub is_device_lacking : Option (List Row) → List MetricData → Bool
is_device_lacking None ms = true
is_device_lacking (Some rows) ms = is_lacking rows ms

-- The message names a device or an alias that the births didn't give, by the view before it. An unknown name alone isn't one.
abbrev pub is_unknown : Option View → Message → Bool
is_unknown view (NodeBirth ms) = false
is_unknown view (NodeData ms) = is_lacking (rows_of view) ms
is_unknown view (DeviceBirth name ms) = false
is_unknown view (DeviceData name ms) = is_device_lacking (device_rows name view) ms
is_unknown view (DeviceDeath name) = is_device_lacking (device_rows name view) []

-- the causes to ask for a rebirth
abbrev pub is_cause : Option View → Event → Bool
is_cause view (Consumed m now) = is_unknown view m
is_cause view (Gap now) = true
is_cause view (NotLive now) = true
is_cause view Over = false

-- an end is no cause, and its moment isn't asked for
abbrev pub moment_of : Event → ℕ
moment_of (Consumed m now) = now
moment_of (Gap now) = now
moment_of (NotLive now) = now
moment_of Over = 0

-- an NBIRTH was consumed
abbrev pub is_birth : Event → Bool
is_birth (Consumed m now) = is_node_birth m
is_birth _ = false

-- None was asked for, a birth was taken since, or `wait` or more has passed. A moment before the last request's counts as none.
abbrev pub may_ask : ℕ → ℕ → Option ℕ → Bool → Bool
may_ask wait now None born_since = true
may_ask wait now (Some before) born_since = born_since || nat_le wait (now - before)

-- a rebirth is asked for
abbrev pub asks : ℕ → Watch → Event → Bool
asks wait w e = is_cause w.view e && may_ask wait (moment_of e) w.asked w.born_since

-- ---- all of it

-- what is kept behind what was heard
abbrev pub step : ℕ → Watch → Event → Watch
step wait w e = record {
  view = view_after w.view e;
  asked = if asks wait w e then Some (moment_of e) else w.asked;
  born_since = if asks wait w e then false else (is_birth e || w.born_since);
}

-- after a list of events, newest first
abbrev pub after : ℕ → List Event → Watch
after wait [] = unheard
after wait (e ∷ before) = step wait (after wait before) e

-- a rebirth is asked for at an event after these
abbrev pub asked_at : ℕ → List Event → Event → Bool
asked_at wait before e = asks wait (after wait before) e
