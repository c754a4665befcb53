-- Which values are shown (own rule): all, or whole values alone, where a float or a double is shown as what isn't read. What is kept of a
-- node is the same by both.
use Rattle.std.specs.Prelude.{Bool, true, false, map, if◌then◌else◌}
use Rattle.spk_payload.specs.declared.values.Values.{Values}
use Rattle.spk_payload.specs.declared.values.Values.TheVariants as choice
use Rattle.spk_payload.specs.Meaning.{whole_metric}
use Rattle.spk_payload.specs.Typing.{Typed, Binary32, Binary64}
use Rattle.spk_host_rules.specs.Data.{Shown, Nothing, Value, Other, Row, Device, View, Message, NodeBirth, NodeData, DeviceBirth, DeviceData, DeviceDeath, Event, Consumed, Gap, NotLive, Over}

-- it is no float and no double
abbrev pub is_whole : Typed → Bool
is_whole (Binary32 n) = false
is_whole (Binary64 n) = false
is_whole _ = true

-- what is shown is no float and no double
abbrev pub is_shown_whole : Shown → Bool
is_shown_whole Nothing = true
is_shown_whole (Value v) = is_whole v
is_shown_whole Other = true

-- what is shown is among the values asked for
abbrev pub is_asked : Values → Shown → Bool
is_asked choice.Whole s = is_shown_whole s
is_asked choice.All s = true

-- what is shown where these values are asked for
abbrev pub shown_by : Values → Shown → Shown
shown_by values s = if is_asked values s then s else Other

-- what a reader of whole values alone is shown: a float or a double as what isn't read
abbrev pub whole_shown : Shown → Shown
whole_shown s = if is_shown_whole s then s else Other

-- ---- a view by whole values alone

-- a row as such a reader sees it
abbrev pub whole_row : Row → Row
whole_row r = record r { shown = whole_shown r.shown }

-- a device as such a reader sees it
abbrev pub whole_device : Device → Device
whole_device d = record d { rows = map whole_row d.rows }

-- a view as such a reader sees it
abbrev pub whole_view : View → View
whole_view v = record v { rows = map whole_row v.rows; devices = map whole_device v.devices }

-- ---- what was heard, as a reader of whole values alone hears it

-- a message as such a reader reads it
abbrev pub whole_message : Message → Message
whole_message (NodeBirth ms) = NodeBirth (map whole_metric ms)
whole_message (NodeData ms) = NodeData (map whole_metric ms)
whole_message (DeviceBirth name ms) = DeviceBirth name (map whole_metric ms)
whole_message (DeviceData name ms) = DeviceData name (map whole_metric ms)
whole_message (DeviceDeath name) = DeviceDeath name

-- what was heard, as such a reader hears it
abbrev pub whole_event : Event → Event
whole_event (Consumed m now) = Consumed (whole_message m) now
whole_event (Gap now) = Gap now
whole_event (NotLive now) = NotLive now
whole_event Over = Over
