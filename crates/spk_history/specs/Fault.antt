-- The number of each fault, and why an entry isn't appended.
use Rattle.std.specs.Prelude.{◌≡◌, ℕ, ◌<◌, Bool, true, false, ◌||◌, List, length, nat_lt}
use Rattle.spk_history.specs.declared.fault.HistoryFault.{HistoryFault}
use Rattle.spk_history.specs.declared.fault.HistoryFault.TheVariants.{NoMemory, LongName, LongRecord, FullPart, Unwritten}
use Rattle.spk_history.specs.Entry.{KindData, NodeData, DeviceBirth, DeviceData, DeviceDeath, EntryData, Node, Message}
use Rattle.spk_history.specs.Record.{content, most}

abbrev pub number_of : HistoryFault → ℕ
number_of NoMemory = 1
number_of LongName = 123
number_of LongRecord = 124
number_of FullPart = 125
number_of Unwritten = 126

abbrev pub is_long : List ℕ → Bool
is_long bytes = nat_lt 65535 (length bytes)

abbrev pub has_long_device : KindData → Bool
has_long_device NodeData = false
has_long_device (DeviceBirth device) = is_long device
has_long_device (DeviceData device) = is_long device
has_long_device (DeviceDeath device) = is_long device

-- a name has more than 65,535 bytes
unfoldable pub has_long_name : EntryData → Bool
has_long_name (Node node group name) = is_long group || is_long name
has_long_name (Message at node kind seq payload) = has_long_device kind
has_long_name _ = false

-- What an entry is refused for: a long name first. NoMemory says nothing of it.
abbrev pub IsRefusedFor : EntryData → HistoryFault → Type 0
IsRefusedFor e NoMemory = Unit {0}
IsRefusedFor e LongName = has_long_name e ≡ true
IsRefusedFor e LongRecord = (has_long_name e ≡ false) × (most < length (content e))
IsRefusedFor e FullPart = ⊥
IsRefusedFor e Unwritten = ⊥
