-- Messages get their numbers, and packets are written.
use Rattle.std.specs.Prelude.{◌≡◌, ◌⊎◌, ℕ, ◌+◌, ◌%◌, Bool, false, List, [], ◌∷◌, Some, None, Vec, if◌then◌else◌}
use Rattle.std.specs.List.{AllByRecursion, list_all}
use Rattle.std.specs.declared.alloc.Global.{Global}
use Rattle.spk_payload.specs.Meaning.{MetricData, Other}
use Rattle.spk_payload.specs.Spelling as payload
use Rattle.spk_packets.specs.Grammar.{Spells}
use Rattle.spk_packets.specs.Message as packets
use Rattle.spk_packets.specs.Spelling as packet
use Rattle.spk_sequence.specs.NodeRecord.{Numbering, RunsOn, Restarts}
use Rattle.spk_edge_rules.specs.Writable.{is_writable}
use Rattle.spk_edge_rules.specs.declared.fault.EdgeFault.{EdgeFault}
use Rattle.spk_edge_rules.specs.declared.fault.EdgeFault.TheVariants.{NoMemory, TooLarge}
use Rattle.spk_edge.specs.View.{MessageData}

-- no metric has a value that isn't known
abbrev pub AreKnown : List MetricData → Type 0
AreKnown metrics = AllByRecursion (λ m. m.value ≡ Some Other → ⊥) metrics

abbrev pub AllKnown : List MessageData → Type 0
AllKnown messages = AllByRecursion (λ m. AreKnown m.payload.metrics) messages

-- the packet of a message that has its number
abbrev pub wire_of : MessageData → packets.Message
wire_of m = packets.Publish false 0 false m.topic None (payload.spelling m.payload)

-- Its packet's spelling spells its packet, and its payload has a spelling: who reads these bytes reads this message.
pub record IsWhole (m : MessageData) : Type 0 where
  pub spelled : Spells (packet.spelling (wire_of m)) (wire_of m)
  pub fits : payload.PayloadFits m.payload

abbrev pub AreWhole : List MessageData → Type 0
AreWhole messages = AllByRecursion IsWhole messages

-- ---- numbers

abbrev pub with_number : ℕ → MessageData → MessageData
with_number n m = record m { payload = record m.payload { seq = Some n } }

abbrev pub begins_anew : Numbering → Bool → Bool
begins_anew RunsOn opens = false
begins_anew Restarts opens = opens

abbrev pub number_in : Numbering → ℕ → MessageData → ℕ
number_in numbering seq m = if begins_anew numbering m.opens then 0 else seq

abbrev pub next_in : Numbering → ℕ → MessageData → ℕ
next_in numbering seq m = (number_in numbering seq m + 1) % 256

abbrev pub numbered : Numbering → ℕ → List MessageData → List MessageData
numbered numbering seq [] = []
numbered numbering seq (m ∷ ms) = with_number (number_in numbering seq m) m ∷ numbered numbering (next_in numbering seq m) ms

abbrev pub seq_past : Numbering → ℕ → List MessageData → ℕ
seq_past numbering seq [] = seq
seq_past numbering seq (m ∷ ms) = seq_past numbering (next_in numbering seq m) ms

-- ---- refusals

abbrev pub bytes_of : Vec ℕ Global → List ℕ
bytes_of v = v.items

-- memory was refused, or one of the packets can't be written
abbrev pub IsUnwritten : List packets.Message → EdgeFault → Type 0
IsUnwritten ps e = (e ≡ NoMemory) ⊎ ((e ≡ TooLarge) × (list_all is_writable ps ≡ false))
