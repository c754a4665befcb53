-- What a list of fields is (Protocol Buffers documentation, "Encoding": "Base 128 Varints", "Message
-- Structure", "Length-Delimited Records"). Texts are lists of bytes. Each definition relates a whole text
-- to what it says, by cases.
use Rattle.std.specs.Prelude.{◌≡◌, ℕ, ◌+◌, ◌*◌, ◌%◌, ◌^◌, ◌<◌, ◌≤◌, List, [], ◌∷◌, ◌++◌, length}

-- The value of a field, by its wire type: a number, eight bytes, a text with its length, four bytes.
pub data Shape : Type 0 where
  Varint : ℕ → Shape
  Eight : List ℕ → Shape
  Bytes : List ℕ → Shape
  Four : List ℕ → Shape

-- What one field says.
pub record Entry : Type 0 where
  pub number : ℕ
  pub shape : Shape

-- Groups of seven bits, the least significant first. Bit 7 of a byte says that more follow.
abbrev pub AreGroups : List ℕ → ℕ → Type 0
AreGroups [] n = ⊥
AreGroups (b ∷ []) n = (b < 128) × (n ≡ b)
AreGroups (b ∷ c ∷ bs) n = (128 ≤ b) × (high : ℕ) × (n ≡ b % 128 + 128 * high) × AreGroups (c ∷ bs) high

-- A varint has at most ten bytes. Bits past the 64th are ignored (own rule: the documentation is silent).
abbrev pub IsVarint : List ℕ → ℕ → Type 0
IsVarint text n = (length text ≤ 10) × (whole : ℕ) × AreGroups text whole × (n ≡ whole % 2 ^ 64)

abbrev pub wire_type : Shape → ℕ
wire_type (Varint n) = 0
wire_type (Eight bytes) = 1
wire_type (Bytes bytes) = 2
wire_type (Four bytes) = 5

abbrev pub IsValue : List ℕ → Shape → Type 0
IsValue text (Varint n) = IsVarint text n
IsValue text (Eight bytes) = (length bytes ≡ 8) × (text ≡ bytes)
IsValue text (Bytes bytes) = (size : List ℕ) × IsVarint size (length bytes) × (text ≡ size ++ bytes)
IsValue text (Four bytes) = (length bytes ≡ 4) × (text ≡ bytes)

-- A tag and a value. The tag is a varint, the field's number times 8 plus the wire type.
abbrev pub IsField : List ℕ → Entry → Type 0
IsField text f = (0 < f.number) × (tag value : List ℕ) × IsVarint tag (f.number * 8 + wire_type f.shape) × IsValue value f.shape × (text ≡ tag ++ value)

-- The field list of a text: of the empty text the empty list, else a field and the list of what follows it.
abbrev pub FieldList : List ℕ → List Entry → Type 0
FieldList text [] = text ≡ []
FieldList text (f ∷ fs) = (front rest : List ℕ) × IsField front f × FieldList rest fs × (text ≡ front ++ rest)
