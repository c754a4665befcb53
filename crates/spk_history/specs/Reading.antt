-- What the private readers give, one definition for each: a value and the bytes behind it, or nothing. The public contracts cite what bytes spell
-- (Record.antt); these serve their proof.
use Rattle.std.specs.Prelude.{ℕ, List, [], ◌∷◌, Option, Some, None, nat_lt, ◌==◌, if◌then◌else◌}
use Rattle.spk_frames.specs.Reading.{◌>>=◌, eight_at, ended, four_at, name_at, one_at}
use Rattle.spk_history.specs.declared.entry.SessionEvent.{SessionEvent}
use Rattle.spk_history.specs.declared.entry.SessionEvent.TheVariants as sessions
use Rattle.spk_history.specs.declared.entry.Ending.{Ending}
use Rattle.spk_history.specs.declared.entry.Ending.TheVariants as endings
use Rattle.spk_history.specs.Entry.{KindData, NodeData, DeviceBirth, DeviceData, DeviceDeath, EntryData, Session, Node, Birth, Death, Gap, Hole, Message}

-- ---- contents, behind their code

unfoldable pub session_at : SessionEvent → List ℕ → Option EntryData
session_at what bytes = do
  at ← eight_at bytes
  ended (Session at.0 what) at.1

unfoldable pub node_at : List ℕ → Option EntryData
node_at bytes = do
  node ← four_at bytes
  group ← name_at node.1
  name ← name_at group.1
  ended (Node node.0 group.0 name.0) name.1

-- the moment and the node's number
unfoldable pub head_at : List ℕ → Option ((ℕ × ℕ) × List ℕ)
head_at bytes = do
  at ← eight_at bytes
  node ← four_at at.1
  Some ((at.0, node.0), node.1)

unfoldable pub birth_at : List ℕ → Option EntryData
birth_at bytes = do
  head ← head_at bytes
  stamp ← eight_at head.1
  bd ← one_at stamp.1
  Some (Birth head.0.0 head.0.1 stamp.0 bd.0 bd.1)

unfoldable pub death_at : List ℕ → Option EntryData
death_at bytes = do
  head ← head_at bytes
  bd ← one_at head.1
  ended (Death head.0.0 head.0.1 bd.0) bd.1

-- two numbers in eight bytes each
unfoldable pub pair_at : List ℕ → Option ((ℕ × ℕ) × List ℕ)
pair_at bytes = do
  first ← eight_at bytes
  second ← eight_at first.1
  Some ((first.0, second.0), second.1)

unfoldable pub gap_at : List ℕ → Option EntryData
gap_at bytes = do
  head ← head_at bytes
  counts ← pair_at head.1
  ended (Gap head.0.0 head.0.1 counts.0.0 counts.0.1) counts.1

unfoldable pub hole_at : Ending → List ℕ → Option EntryData
hole_at ended_by bytes = do
  node ← four_at bytes
  moments ← pair_at node.1
  counts ← pair_at moments.1
  ended (Hole node.0 moments.0.0 moments.0.1 counts.0.0 counts.0.1 ended_by) counts.1

-- the kind that a code stands for, with the device's name
unfoldable pub kind_at : ℕ → List ℕ → Option (KindData × List ℕ)
kind_at code bytes = if code == 10 then Some (NodeData, bytes) else (do
  device ← name_at bytes
  Some (if code == 11 then DeviceBirth device.0 else if code == 12 then DeviceData device.0 else DeviceDeath device.0, device.1))

unfoldable pub message_at : ℕ → List ℕ → Option EntryData
message_at code bytes = do
  head ← head_at bytes
  seq ← one_at head.1
  kind ← kind_at code seq.1
  Some (Message head.0.0 head.0.1 kind.0 seq.0 kind.1)

unfoldable pub entry_of : ℕ → List ℕ → Option EntryData
entry_of code rest = if code == 1 then session_at sessions.Began rest
    else if code == 2 then session_at sessions.Ended rest
    else if code == 3 then node_at rest
    else if code == 4 then birth_at rest
    else if code == 5 then death_at rest
    else if code == 6 then gap_at rest
    else if code == 7 then hole_at endings.Birth rest
    else if code == 8 then hole_at endings.NewSession rest
    else if code == 9 then hole_at endings.HostSession rest
    else if nat_lt 9 code then (if nat_lt code 14 then message_at code rest else None) else None

unfoldable pub entry_at : List ℕ → Option EntryData
entry_at [] = None
entry_at (code ∷ rest) = entry_of code rest
