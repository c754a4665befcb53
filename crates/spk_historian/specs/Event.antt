-- What a historian is told, without where it lies in memory: texts are their bytes.
use Rattle.std.specs.Prelude.{ℕ, List, Option, Some, None}
use Rattle.spk_history.specs.declared.entry.Ending.{Ending}
use Rattle.spk_payload.specs.Meaning.{PayloadData}
use Rattle.spk_payload.specs.View.{payload_view}
use Rattle.spk_historian.specs.declared.event.Node as rust
use Rattle.spk_historian.specs.declared.event.What.{What}
use Rattle.spk_historian.specs.declared.event.What.TheVariants as whats
use Rattle.spk_historian.specs.declared.event.Event.{Event}
use Rattle.spk_historian.specs.declared.event.Event.TheVariants as events

-- a node by its number, and what it is called
pub record NameData : Type 0 where
  pub number : ℕ
  pub group : List ℕ
  pub name : List ℕ

-- what a message is about; of a device with the device's name
pub data WhatData : Type 0 where
  NodeBirth : (stamp bd : ℕ) → WhatData
  NodeData : WhatData
  DeviceBirth : (device : List ℕ) → WhatData
  DeviceData : (device : List ℕ) → WhatData
  DeviceDeath : (device : List ℕ) → WhatData

pub data EventData : Type 0 where
  Began : (at : ℕ) → EventData
  Ended : (at : ℕ) → EventData
  Consumed : (at : ℕ) (node : NameData) (what : WhatData) (seq : ℕ) (payload : PayloadData) → EventData
  Died : (at : ℕ) (node : NameData) (bd : ℕ) → EventData
  Gap : (at : ℕ) (node : NameData) (missing : ℕ) → EventData
  Hole : (node : NameData) (from to missing unused : ℕ) (ended_by : Ending) → EventData

abbrev pub name_view : rust.Node → NameData
name_view n = record { number = n.number; group = n.group.now; name = n.name.now }

abbrev pub what_view : What → WhatData
what_view (whats.NodeBirth stamp bd) = NodeBirth stamp bd
what_view whats.NodeData = NodeData
what_view (whats.DeviceBirth device) = DeviceBirth device.now
what_view (whats.DeviceData device) = DeviceData device.now
what_view (whats.DeviceDeath device) = DeviceDeath device.now

abbrev pub event_view : Event → EventData
event_view (events.Began at) = Began at
event_view (events.Ended at) = Ended at
event_view (events.Consumed at node what seq payload) = Consumed at (name_view node) (what_view what) seq (payload_view payload.now)
event_view (events.Died at node bd) = Died at (name_view node) bd
event_view (events.Gap at node missing) = Gap at (name_view node) missing
event_view (events.Hole node from to missing unused ended_by) = Hole (name_view node) from to missing unused ended_by

-- whose it is
abbrev pub node_of : EventData → Option NameData
node_of (Began at) = None
node_of (Ended at) = None
node_of (Consumed at node what seq payload) = Some node
node_of (Died at node bd) = Some node
node_of (Gap at node missing) = Some node
node_of (Hole node from to missing unused ended_by) = Some node
