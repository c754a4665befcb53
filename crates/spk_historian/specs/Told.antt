-- What the history of a list of events is, newest first, and what a historian keeps of it (own rules).
use Rattle.std.specs.Prelude.{◌≡◌, ◌⊎◌, ℕ, ◌==◌, ◌-◌, ◌^◌, min, Bool, true, false, List, [], ◌∷◌, ◌++◌, length, reverse, slice_index_or, Option, Some, None, IfSome, if◌then◌else◌}
use Rattle.std.specs.List.{filter, list_any}
use Rattle.std.specs.Option.{option_map_or}
use Rattle.spk_payload.specs.Spelling.{PayloadFits, spelling}
use Rattle.spk_history.specs.declared.entry.SessionEvent.TheVariants as sessions
use Rattle.spk_history.specs.Entry as entry
use Rattle.spk_history.specs.Entry.{EntryData}
use Rattle.spk_history.specs.Parts.{IsNotPut, PartsData, AreNamed, Stands}
use Rattle.spk_history.specs.declared.fault.HistoryFault.{HistoryFault}
use Rattle.spk_history.specs.declared.fault.HistoryFault.TheVariants.{NoMemory}
use Rattle.spk_historian.specs.declared.nodes.Kept.{Kept}
use Rattle.spk_historian.specs.Kept.{kept_payload}
use Rattle.spk_historian.specs.Event.{node_of, NameData, WhatData, NodeBirth, NodeData, DeviceBirth, DeviceData, DeviceDeath, EventData, Began, Ended, Consumed, Died, Gap, Hole}

-- ---- which position of a node is awaited

-- an event is a message of this node
abbrev pub is_use : ℕ → EventData → Bool
is_use n (Consumed at node what seq payload) = node.number == n
is_use n _ = false

abbrev pub is_node_birth : WhatData → Bool
is_node_birth (NodeBirth stamp bd) = true
is_node_birth _ = false

abbrev pub is_birth : EventData → Bool
is_birth (Consumed at node what seq payload) = is_node_birth what
is_birth _ = false

-- the newest ones, to the first that is such a one
abbrev pub until : {X : Type 0} → (X → Bool) → List X → List X
until p [] = []
until p (x ∷ xs) = if p x then x ∷ [] else x ∷ until p xs

-- a count, as far as 64 bits go
abbrev pub capped : ℕ → ℕ
capped n = min n (2 ^ 64 - 1)

-- Positions begin with a birth: so the next one is as many as the node's messages that were consumed since the last birth, and that.
abbrev pub awaited : ℕ → List EventData → ℕ
awaited n es = capped (length (until is_birth (filter (is_use n) es)))

-- ---- the entry of an event

abbrev pub message_of : ℕ → ℕ → ℕ → List ℕ → WhatData → EntryData
message_of at n seq payload (NodeBirth stamp bd) = entry.Birth at n stamp bd payload
message_of at n seq payload NodeData = entry.Message at n entry.NodeData seq payload
message_of at n seq payload (DeviceBirth device) = entry.Message at n (entry.DeviceBirth device) seq payload
message_of at n seq payload (DeviceData device) = entry.Message at n (entry.DeviceData device) seq payload
message_of at n seq payload (DeviceDeath device) = entry.Message at n (entry.DeviceDeath device) seq payload

-- the bytes that are kept of an event's payload; none where it has none
abbrev pub spelling_of : EventData → List ℕ
spelling_of (Consumed at node what seq payload) = spelling payload
spelling_of _ = []

-- of an event before which this position of its node is awaited
abbrev pub entry_with : ℕ → EventData → EntryData
entry_with position (Began at) = entry.Session at sessions.Began
entry_with position (Ended at) = entry.Session at sessions.Ended
entry_with position (Consumed at node what seq payload) = message_of at node.number seq (spelling payload) what
entry_with position (Died at node bd) = entry.Death at node.number bd
entry_with position (Gap at node missing) = entry.Gap at node.number position missing
entry_with position (Hole node from to missing unused ended_by) = entry.Hole node.number from to missing unused ended_by

-- the entry of an event behind those before it, newest first
abbrev pub entry_of : List EventData → EventData → EntryData
entry_of past e = entry_with (option_map_or (λ node. awaited node.number past) (node_of e) 0) e

-- newest first, too
abbrev pub entries_of : List EventData → List EntryData
entries_of [] = []
entries_of (e ∷ es) = entry_of es e ∷ entries_of es

-- ---- messages

-- an entry of a message that was consumed
abbrev pub is_message : EntryData → Bool
is_message (entry.Birth at node stamp bd payload) = true
is_message (entry.Message at node kind seq payload) = true
is_message _ = false

-- the entry of a message that was consumed, where the event is one
abbrev pub consumed : EventData → Option EntryData
consumed (Consumed at node what seq payload) = Some (message_of at node.number seq (spelling payload) what)
consumed _ = None

-- ---- the nodes that entries name, and those that they are of

abbrev pub names : ℕ → EntryData → Bool
names n (entry.Node node group name) = node == n
names n _ = false

-- whether some entry names the node of this number
abbrev pub are_named : ℕ → List EntryData → Bool
are_named n entries = list_any (names n) entries

-- an entry that isn't the naming of a node
abbrev pub is_event : EntryData → Bool
is_event (entry.Node node group name) = false
is_event _ = true

-- the entries that aren't
abbrev pub happened : List EntryData → List EntryData
happened entries = filter is_event entries

-- the number of the node that an entry is of
abbrev pub refers : EntryData → Option ℕ
refers (entry.Session at what) = None
refers (entry.Node node group name) = None
refers (entry.Birth at node stamp bd payload) = Some node
refers (entry.Death at node bd) = Some node
refers (entry.Gap at node awaited missing) = Some node
refers (entry.Hole node from to missing unused ended_by) = Some node
refers (entry.Message at node kind seq payload) = Some node

-- Behind those in front each entry is of a node that was named before it.
abbrev pub AreCalled : List EntryData → List EntryData → Type 0
AreCalled front [] = Unit {0}
AreCalled front (e ∷ entries) = IfSome (refers e) (λ n. are_named n front ≡ true) × AreCalled (front ++ e ∷ []) entries

-- ---- what is kept

pub record HistorianData : Type 0 where
  pub parts : PartsData
  pub nodes : List Kept

-- of a node that nothing was told of
abbrev pub fresh : Kept
fresh = record { is_named = false; used = 0 }

-- what is kept of the node of a number
abbrev pub kept_at : List Kept → ℕ → Kept
kept_at nodes n = slice_index_or nodes n fresh

-- the entry that names a node
abbrev pub naming_of : NameData → EntryData
naming_of node = entry.Node node.number node.group node.name

-- it, where the node wasn't named
abbrev pub naming_as : List Kept → NameData → List EntryData
naming_as nodes node = if (kept_at nodes node.number).is_named then [] else naming_of node ∷ []

-- the naming of an event's node, where it wasn't named
abbrev pub naming : List Kept → EventData → List EntryData
naming nodes e = option_map_or (naming_as nodes) (node_of e) []

-- by what is kept of it: the position that is awaited of an event's node
abbrev pub position_in : List Kept → EventData → ℕ
position_in nodes e = option_map_or (λ node. (kept_at nodes node.number).used) (node_of e) 0

-- why the entry that names a node, where there is one, isn't put
abbrev pub IsNotNamed : PartsData → Option NameData → HistoryFault → Type 0
IsNotNamed p None f = ⊥
IsNotNamed p (Some node) f = IsNotPut p (naming_of node) f

-- Why an event isn't told: memory was refused, or the entry that names its node isn't put, or its own isn't.
abbrev pub IsNotTold : HistorianData → EventData → HistoryFault → Type 0
IsNotTold h e f = (f ≡ NoMemory) ⊎ (IsNotNamed h.parts (node_of e) f ⊎ IsNotPut h.parts (entry_with (position_in h.nodes e) e) f)

-- what is kept of its payload can be spelled, so that it is read again
abbrev pub Fits : EventData → Type 0
Fits (Consumed at node what seq payload) = PayloadFits (kept_payload payload)
Fits _ = Unit {0}

-- An entry that names no node was put behind those of a part.
pub record AddsTo (old : PartsData) (e : EntryData) (new : PartsData) : Type 0 where
  pub stands : (part : List ℕ) (entries : List EntryData) → Stands part entries old → Stands part (entries ++ e ∷ []) new
  pub again : (nodes : List EntryData) → AreNamed old nodes → AreNamed new nodes

-- A historian was told these events: behind the entries of the parts before, its part, with what is to be written behind what stands in it, has these
-- entries. All that aren't the naming of a node are those of the events, in order, each once.
pub record Tells (before entries : List EntryData) (part : List ℕ) (es : List EventData) (h : HistorianData) : Type 0 where
  pub stands : Stands part entries h.parts
  pub are : happened (before ++ entries) ≡ reverse (entries_of es)
  pub counts : (n : ℕ) → (kept_at h.nodes n).used ≡ awaited n es
  pub called : AreCalled [] entries
  pub named : (n : ℕ) → (kept_at h.nodes n).is_named ≡ are_named n entries
  pub again : (nodes : List EntryData) × AreNamed h.parts nodes × (happened nodes ≡ []) × ((n : ℕ) → (kept_at h.nodes n).is_named ≡ are_named n nodes)
