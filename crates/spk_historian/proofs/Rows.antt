-- Histories that are worked out by hand. Events stand oldest first here.
use Rattle.std.proofs.Common.{◌≡◌, refl, ℕ, true, List, [], ◌∷◌, reverse, Option, Some, None}
use Rattle.std.specs.Prelude.{codes}
use Rattle.spk_protobuf.specs.Spelling.{bytes_field, groups_of, varint}
use Rattle.spk_payload.specs.Meaning.{Content, Int, Other, MetricData, PayloadData}
use Rattle.spk_payload.specs.Spelling.{metric_spelling, spelling}
use Rattle.spk_history.specs.declared.entry.Ending.TheVariants as endings
use Rattle.spk_history.specs.declared.entry.SessionEvent.TheVariants as sessions
use Rattle.spk_history.specs.Entry as entry
use Rattle.spk_history.specs.Entry.{EntryData}
use Rattle.spk_historian.specs.Event.{NameData, NodeBirth, NodeData, DeviceData, EventData, Began, Ended, Consumed, Died, Gap, Hole}
use Rattle.spk_historian.specs.Kept.{kept_payload}
use Rattle.spk_historian.specs.Told.{awaited, entries_of, naming}

abbrev pump : NameData
pump = record { number = 0; group = codes "G"; name = codes "pump" }

abbrev valve : NameData
valve = record { number = 7; group = codes "G"; name = codes "valve" }

-- a payload with one metric of the alias 2, and this value
abbrev payload : Option Content → PayloadData
payload value = record {
  timestamp = None;
  metrics = record { name = None; alias = Some 2; timestamp = None; datatype = None; historical = None; transient = None; null = None; value = value } ∷ [];
  seq = Some 1;
}

abbrev none : PayloadData
none = record { timestamp = None; metrics = []; seq = None }

-- of a data set it is kept that the metric was there, and no value
pub unread : (spelling (payload (Some Other)) ≡ 18 ∷ 2 ∷ 16 ∷ 2 ∷ 24 ∷ 1 ∷ []) × (kept_payload (payload (Some Other)) ≡ payload None)
unfolding spelling metric_spelling bytes_field varint groups_of
unread = (refl, refl)

-- of a number the number
pub a_number : (spelling (payload (Some (Int 7))) ≡ 18 ∷ 4 ∷ 16 ∷ 2 ∷ 80 ∷ 7 ∷ 24 ∷ 1 ∷ []) × (kept_payload (payload (Some (Int 7))) ≡ payload (Some (Int 7)))
unfolding spelling metric_spelling bytes_field varint groups_of
a_number = (refl, refl)

-- a node is born, two messages of it are consumed, one of another node, and it loses some
abbrev lost : List EventData
lost =
    Began 1 ∷ Consumed 2 pump (NodeBirth 90 4) 0 none ∷ Consumed 3 pump NodeData 1 none ∷ Consumed 4 valve NodeData 9 none
    ∷ Consumed 5 pump (DeviceData (codes "d")) 2 none ∷ Gap 6 pump 2 ∷ []

-- position 3 is awaited of it, 1 of the other, and 0 of one that was never heard
pub positions : (awaited 0 (reverse lost) ≡ 3) × (awaited 7 (reverse lost) ≡ 1) × (awaited 8 (reverse lost) ≡ 0)
positions = (refl, refl, refl)

pub entries_lost : reverse (entries_of (reverse lost))
    ≡ entry.Session 1 sessions.Began ∷ entry.Birth 2 0 90 4 [] ∷ entry.Message 3 0 entry.NodeData 1 [] ∷ entry.Message 4 7 entry.NodeData 9 []
    ∷ entry.Message 5 0 (entry.DeviceData (codes "d")) 2 [] ∷ entry.Gap 6 0 3 2 ∷ []
unfolding spelling
entries_lost = refl

-- with its next birth position 1 is awaited, and the hole is closed
abbrev mended : List EventData
mended = Consumed 2 pump (NodeBirth 90 4) 0 none ∷ Gap 6 pump 0 ∷ Consumed 8 pump (NodeBirth 91 4) 0 none ∷ Hole pump 2 8 0 0 endings.Birth ∷ Died 9 pump 4 ∷ Ended 10 ∷ []

pub entries_mended : reverse (entries_of (reverse mended))
    ≡ entry.Birth 2 0 90 4 [] ∷ entry.Gap 6 0 1 0 ∷ entry.Birth 8 0 91 4 [] ∷ entry.Hole 0 2 8 0 0 endings.Birth ∷ entry.Death 9 0 4 ∷ entry.Session 10 sessions.Ended ∷ []
unfolding spelling
entries_mended = refl

pub born_again : awaited 0 (reverse mended) ≡ 1
born_again = refl

-- a node is named once, and what is no node's names none
pub named : (naming [] (Gap 6 pump 2) ≡ entry.Node 0 (codes "G") (codes "pump") ∷ [])
    × (naming (record { is_named = true; used = 0 } ∷ []) (Gap 6 pump 2) ≡ []) × (naming [] (Ended 10) ≡ [])
named = (refl, refl, refl)
