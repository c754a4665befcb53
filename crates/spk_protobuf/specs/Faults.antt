-- Where a text is no list of fields: the fault of a text at whose front no field stands, and the items of a
-- text, which are its fields and then the first fault, if there is one. A fault is named by what stands there:
-- first the tag's varint is judged, then the number 0, then the wire type, then the value.
use Rattle.std.specs.Prelude.{◌≡◌, ◌≢◌, ℕ, ◌/◌, ◌%◌, ◌<◌, ◌≤◌, ◌⊎◌, List, [], ◌∷◌, ◌++◌, length, take, All, Result, Ok, Err}
use Rattle.spk_protobuf.specs.declared.fault.WireFault.{WireFault}
use Rattle.spk_protobuf.specs.declared.fault.WireFault.TheVariants.{Truncated, VarintTooLong, Group, FieldZero, WireType}
use Rattle.spk_protobuf.specs.Grammar.{Entry, IsVarint, IsField}

-- No varint stands at the front: all bytes that there are, or ten of them, say that more follow.
abbrev pub IsVarintFault : List ℕ → WireFault → Type 0
IsVarintFault text Truncated = (length text < 10) × All (λ b. 128 ≤ b) text
IsVarintFault text VarintTooLong = (10 ≤ length text) × All (λ b. 128 ≤ b) (take 10 text)
IsVarintFault text _ = ⊥

-- A length stands at the front, and fewer bytes than it says.
abbrev pub IsShorterThanSaid : List ℕ → Type 0
IsShorterThanSaid text = (size after : List ℕ) × (n : ℕ) × IsVarint size n × (text ≡ size ++ after) × (length after < n)

-- The text ends within a value of this wire type.
abbrev pub IsValueCut : ℕ → List ℕ → Type 0
IsValueCut kind text =
    ((kind ≡ 0) × IsVarintFault text Truncated)
    ⊎ ((kind ≡ 1) × (length text < 8))
    ⊎ ((kind ≡ 2) × (IsVarintFault text Truncated ⊎ IsShorterThanSaid text))
    ⊎ ((kind ≡ 5) × (length text < 4))

-- What is wrong behind a tag, by the fault's name.
abbrev pub IsTagFault : ℕ → List ℕ → WireFault → Type 0
IsTagFault tag rest FieldZero = tag / 8 ≡ 0
IsTagFault tag rest Group = (0 < tag / 8) × ((tag % 8 ≡ 3) ⊎ (tag % 8 ≡ 4))
IsTagFault tag rest WireType = (0 < tag / 8) × ((tag % 8 ≡ 6) ⊎ (tag % 8 ≡ 7))
IsTagFault tag rest Truncated = (0 < tag / 8) × IsValueCut (tag % 8) rest
IsTagFault tag rest VarintTooLong = (0 < tag / 8) × ((tag % 8 ≡ 0) ⊎ (tag % 8 ≡ 2)) × IsVarintFault rest VarintTooLong

-- No field stands at the front of the text: its tag is no varint, or something is wrong behind the tag.
abbrev pub IsFieldFault : List ℕ → WireFault → Type 0
IsFieldFault text w = IsVarintFault text w ⊎ ((tag rest : List ℕ) × (n : ℕ) × IsVarint tag n × (text ≡ tag ++ rest) × IsTagFault n rest w)

-- The items of a text: its fields one after the other, and last the fault where no field stands.
abbrev pub AreItems : List ℕ → List (Result Entry WireFault) → Type 0
AreItems text [] = text ≡ []
AreItems text (Ok f ∷ items) = (front rest : List ℕ) × IsField front f × AreItems rest items × (text ≡ front ++ rest)
AreItems text (Err w ∷ items) = (text ≢ []) × IsFieldFault text w × (items ≡ [])
