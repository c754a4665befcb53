-- What the bytes of a history are, and what stands at the front of bytes that may have been cut off or spoiled (own rules). A file is a head, a line of
-- text, and then records one behind the other (Record.antt).
use Rattle.std.specs.Prelude.{◌≡◌, ◌⊎◌, ℕ, ◌<◌, List, [], ◌∷◌, ◌++◌, codes, length}
use Rattle.std.specs.List.{flat_map}
use Rattle.spk_frames.specs.Frame as frames
use Rattle.spk_history.specs.declared.reading.Front.{Front}
use Rattle.spk_history.specs.declared.reading.Front.TheVariants as fronts
use Rattle.spk_history.specs.declared.reading.Beginning.{Beginning}
use Rattle.spk_history.specs.declared.reading.Beginning.TheVariants as beginnings
use Rattle.spk_history.specs.Entry.{EntryData, said}
use Rattle.spk_history.specs.Record.{IsEntry, most, record_of}

-- the line that a file begins with, and its end
unfoldable pub head : List ℕ
head = codes "Juldremm history 1" ++ 10 ∷ []

-- the records of entries, one behind the other
abbrev pub records_of : List EntryData → List ℕ
records_of entries = flat_map record_of entries

abbrev pub file_of : List EntryData → List ℕ
file_of entries = head ++ records_of entries

abbrev pub AreEntries : List EntryData → Type 0
AreEntries [] = Unit {0}
AreEntries (e ∷ entries) = IsEntry e × AreEntries entries

-- no record stands at the front
abbrev pub HasNoRecord : List ℕ → Type 0
HasNoRecord bytes = (e : EntryData) (rest : List ℕ) → IsEntry e → bytes ≡ record_of e ++ rest → ⊥

-- ---- the front of bytes behind the head

-- a record is cut off: too few bytes for its length, or for its content and sum behind a length that a content may have
abbrev pub IsTorn : List ℕ → Type 0
IsTorn bytes = frames.IsTorn most bytes

-- What stands at the front: the record of an entry, with as many bytes as it has; nothing; a torn record; or something else.
abbrev pub IsFront : List ℕ → Front → Type 0
IsFront bytes (fronts.Record entry len) = IsEntry (said entry) × ((rest : List ℕ) × (bytes ≡ record_of (said entry) ++ rest)) × (len ≡ length (record_of (said entry)))
IsFront bytes fronts.End = bytes ≡ []
IsFront bytes fronts.Torn = IsTorn bytes
IsFront bytes fronts.Broken = (0 < length bytes) × ¬ (IsTorn bytes) × HasNoRecord bytes

-- Two answers say the same.
abbrev pub SaysSame : Front → Front → Type 0
SaysSame (fronts.Record entry len) (fronts.Record other size) = (said entry ≡ said other) × (len ≡ size)
SaysSame fronts.End fronts.End = Unit {0}
SaysSame fronts.Torn fronts.Torn = Unit {0}
SaysSame fronts.Broken fronts.Broken = Unit {0}
SaysSame _ _ = ⊥

-- ---- whole files

-- The head and what stands behind it; a head that is cut off; or the bytes of something else.
abbrev pub IsBeginning : List ℕ → Beginning → Type 0
IsBeginning bytes (beginnings.Head rest) = bytes ≡ head ++ rest.now
IsBeginning bytes beginnings.Torn = (lost : List ℕ) × (0 < length lost) × (head ≡ bytes ++ lost)
IsBeginning bytes beginnings.Other = ((rest : List ℕ) → bytes ≡ head ++ rest → ⊥) × ((lost : List ℕ) → head ≡ bytes ++ lost → ⊥)

-- Bytes behind a head are the records of entries, as many as can be, and then a rest.
pub record Holds (bytes : List ℕ) (entries : List EntryData) (rest : List ℕ) : Type 0 where
  pub are : bytes ≡ records_of entries ++ rest
  pub fit : AreEntries entries
  pub all : HasNoRecord rest

-- What is read of a file: the entries behind its head, and what stands behind them. Without a head nothing is.
abbrev pub IsRead : List ℕ → List EntryData → List ℕ → Type 0
IsRead bytes entries rest = ((body : List ℕ) × (bytes ≡ head ++ body) × Holds body entries rest)
    ⊎ (((body : List ℕ) → bytes ≡ head ++ body → ⊥) × (entries ≡ []) × (rest ≡ bytes))

-- the one list is the beginning of the other
abbrev pub Begins : {X : Type 0} → List X → List X → Type 0
Begins {X} front list = (more : List X) × (list ≡ front ++ more)

-- ---- a history in parts

-- the entries of parts, one part behind the other
abbrev pub joined : List (List EntryData) → List EntryData
joined [] = []
joined (part ∷ parts) = part ++ joined parts

-- What is read of files, one behind the other.
abbrev pub AreRead : List (List ℕ) → List EntryData → Type 0
AreRead [] entries = entries ≡ []
AreRead (file ∷ files) entries = (first : List EntryData) × (rest : List ℕ) × (more : List EntryData) × IsRead file first rest × AreRead files more × (entries ≡ first ++ more)

abbrev pub AreParts : List (List EntryData) → Type 0
AreParts [] = Unit {0}
AreParts (part ∷ parts) = AreEntries part × AreParts parts
