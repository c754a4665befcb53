-- What a record says, without where it lies in memory: texts and payloads are their bytes.
use Rattle.std.specs.Prelude.{ℕ, List}
use Rattle.spk_history.specs.declared.entry.SessionEvent.{SessionEvent}
use Rattle.spk_history.specs.declared.entry.Ending.{Ending}
use Rattle.spk_history.specs.declared.entry.Kind.{Kind}
use Rattle.spk_history.specs.declared.entry.Kind.TheVariants as kinds
use Rattle.spk_history.specs.declared.entry.Entry.{Entry}
use Rattle.spk_history.specs.declared.entry.Entry.TheVariants as entries

-- a message's kind, with the device's name
pub data KindData : Type 0 where
  NodeData : KindData
  DeviceBirth : (device : List ℕ) → KindData
  DeviceData : (device : List ℕ) → KindData
  DeviceDeath : (device : List ℕ) → KindData

pub data EntryData : Type 0 where
  Session : (at : ℕ) (what : SessionEvent) → EntryData
  Node : (node : ℕ) (group name : List ℕ) → EntryData
  Birth : (at node stamp bd : ℕ) (payload : List ℕ) → EntryData
  Death : (at node bd : ℕ) → EntryData
  Gap : (at node awaited missing : ℕ) → EntryData
  Hole : (node from to missing unused : ℕ) (ended_by : Ending) → EntryData
  Message : (at node : ℕ) (kind : KindData) (seq : ℕ) (payload : List ℕ) → EntryData

abbrev pub kind_of : Kind → KindData
kind_of kinds.NodeData = NodeData
kind_of (kinds.DeviceBirth device) = DeviceBirth device.now
kind_of (kinds.DeviceData device) = DeviceData device.now
kind_of (kinds.DeviceDeath device) = DeviceDeath device.now

-- what an entry says
abbrev pub said : Entry → EntryData
said (entries.Session at what) = Session at what
said (entries.Node node group name) = Node node group.now name.now
said (entries.Birth at node stamp bd payload) = Birth at node stamp bd payload.now
said (entries.Death at node bd) = Death at node bd
said (entries.Gap at node awaited missing) = Gap at node awaited missing
said (entries.Hole node from to missing unused ended_by) = Hole node from to missing unused ended_by
said (entries.Message at node kind seq payload) = Message at node (kind_of kind) seq payload.now
