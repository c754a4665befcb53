-- The values at a message, as queries over the messages of one birth. All lists stand newest first.
use Rattle.std.specs.Prelude.{ℕ, Bool, true, false, not, ◌||◌, List, [], ◌∷◌, ◌++◌, map, reverse, Option, Some, None, if◌then◌else◌}
use Rattle.std.specs.List.{find}
use Rattle.std.specs.Option.{option_map}
use Rattle.std.specs.Str.{bytes_eq}
use Rattle.spk_payload.specs.Meaning.{MetricData}
use Rattle.spk_host_rules.specs.Data.{Row, Message, NodeBirth, NodeData, DeviceBirth, DeviceData, DeviceDeath, Event, Consumed, Gap, NotLive, Over}
use Rattle.spk_host_rules.specs.Table.{table_of, changes, changed}

-- ---- one owner: the metrics of its birth, and the metrics of all its data since

-- a row with its last change, where there is one
abbrev pub as_changed : Row → Option MetricData → Row
as_changed r None = r
as_changed r (Some m) = changed m r

-- each row shows the last change of it
abbrev pub values_in : List Row → List MetricData → List Row
values_in table since = map (λ r. as_changed r (find (λ m. changes table r.name m) since)) table

-- the rows of an owner, by its birth and its data since
abbrev pub values_at : List MetricData → List MetricData → List Row
values_at birth since = values_in (table_of birth) since

-- ---- the node's birth that the messages end in: the metrics of its NBIRTH, and the messages since

-- The messages of one NBIRTH: its metrics, and what came since.
pub record Part : Type 0 where
  pub birth : List MetricData
  pub since : List Message

-- with one more message since the NBIRTH
abbrev pub later : Message → Part → Part
later m part = record part { since = m ∷ part.since }

-- the last NBIRTH and what came since
abbrev pub last_part : List Message → Option Part
last_part [] = None
last_part (NodeBirth ms ∷ before) = Some (record { birth = ms; since = [] })
last_part (NodeData ms ∷ before) = option_map (later (NodeData ms)) (last_part before)
last_part (DeviceBirth name ms ∷ before) = option_map (later (DeviceBirth name ms)) (last_part before)
last_part (DeviceData name ms ∷ before) = option_map (later (DeviceData name ms)) (last_part before)
last_part (DeviceDeath name ∷ before) = option_map (later (DeviceDeath name)) (last_part before)

-- the metrics of the node's own data
abbrev pub node_data : List Message → List MetricData
node_data [] = []
node_data (NodeData ms ∷ before) = reverse ms ++ node_data before
node_data (_ ∷ before) = node_data before

-- ---- a device: the metrics of its last DBIRTH, those of its data since, and whether it died since

-- the metrics of its last DBIRTH
abbrev pub device_birth : List ℕ → List Message → Option (List MetricData)
device_birth device [] = None
device_birth device (DeviceBirth name ms ∷ before) = if bytes_eq name device then Some ms else device_birth device before
device_birth device (_ ∷ before) = device_birth device before

-- the metrics of its data since its last DBIRTH
abbrev pub device_data : List ℕ → List Message → List MetricData
device_data device [] = []
device_data device (DeviceBirth name ms ∷ before) = if bytes_eq name device then [] else device_data device before
device_data device (DeviceData name ms ∷ before) = (if bytes_eq name device then reverse ms else []) ++ device_data device before
device_data device (_ ∷ before) = device_data device before

-- a DDEATH came since its last DBIRTH
abbrev pub has_died : List ℕ → List Message → Bool
has_died device [] = false
has_died device (DeviceBirth name ms ∷ before) = if bytes_eq name device then false else has_died device before
has_died device (DeviceDeath name ∷ before) = bytes_eq name device || has_died device before
has_died device (_ ∷ before) = has_died device before

-- What a device shows: whether it is alive, and its rows.
pub record DeviceValues : Type 0 where
  pub alive : Bool
  pub rows : List Row

-- the values of a device that was born in this birth
abbrev pub device_at : List ℕ → List Message → Option DeviceValues
device_at device since =
    option_map (λ birth. record { alive = not (has_died device since); rows = values_at birth (device_data device since) })
    (device_birth device since)

-- ---- what was heard

-- the messages consumed
abbrev pub consumed_of : List Event → List Message
consumed_of [] = []
consumed_of (Consumed m now ∷ before) = m ∷ consumed_of before
consumed_of (_ ∷ before) = consumed_of before

-- it is an NBIRTH
abbrev pub is_node_birth : Message → Bool
is_node_birth (NodeBirth ms) = true
is_node_birth _ = false

-- a birth was taken, and no gap and no end came since
abbrev pub is_followed : List Event → Bool
is_followed (Consumed m now ∷ before) = is_node_birth m || is_followed before
is_followed (NotLive now ∷ before) = is_followed before
is_followed _ = false

-- a birth was taken, and no end came since: a gap leaves online what was online
abbrev pub is_online : List Event → Bool
is_online [] = false
is_online (Consumed m now ∷ before) = is_node_birth m || is_online before
is_online (Gap now ∷ before) = is_online before
is_online (NotLive now ∷ before) = is_online before
is_online (Over ∷ before) = false
