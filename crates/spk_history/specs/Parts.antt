-- A history that is written in parts (own rules): each is a file, which begins with the nodes that were named so far.
use Rattle.std.specs.Prelude.{◌≡◌, ℕ, ◌+◌, ◌≤◌, Bool, true, false, ◌&&◌, ◌||◌, List, [], ◌∷◌, ◌++◌, length, nat_lt}
use Rattle.spk_history.specs.declared.fault.HistoryFault.{HistoryFault}
use Rattle.spk_history.specs.declared.fault.HistoryFault.TheVariants.{NoMemory, LongName, LongRecord, FullPart, Unwritten}
use Rattle.spk_history.specs.Entry.{EntryData, Node}
use Rattle.spk_history.specs.Fault.{IsRefusedFor}
use Rattle.spk_history.specs.File.{AreEntries, file_of, records_of}
use Rattle.spk_history.specs.Record.{HasTexts, content, most, record_of}

-- What is kept: the most bytes of a part; the records of the nodes; what is to be written behind what stands in the part; how many bytes the part then
-- has; and whether it has a record beside those that it began with.
pub record PartsData : Type 0 where
  pub most : ℕ
  pub nodes : List ℕ
  pub unwritten : List ℕ
  pub len : ℕ
  pub has_record : Bool

-- the entry again, if it names a node
abbrev pub named : EntryData → List EntryData
named (Node node group name) = Node node group name ∷ []
named _ = []

-- A part of this length has no room for so many bytes: it would pass its most bytes, and has a record; or no number counts its bytes.
abbrev pub is_over : (len size most : ℕ) → (has_record : Bool) → Bool
is_over len size most has_record = (has_record && nat_lt most (len + size)) || nat_lt 18446744073709551615 (len + size)

abbrev pub is_full : PartsData → EntryData → Bool
is_full p e = is_over p.len (length (record_of e)) p.most p.has_record

-- Why an entry isn't put: as for `append`, and else where the part is full.
abbrev pub IsNotPut : PartsData → EntryData → HistoryFault → Type 0
IsNotPut p e NoMemory = Unit {0}
IsNotPut p e LongName = IsRefusedFor e LongName
IsNotPut p e LongRecord = IsRefusedFor e LongRecord
IsNotPut p e FullPart = HasTexts e × (length (content e) ≤ most) × (is_full p e ≡ true)
IsNotPut p e Unwritten = ⊥

-- Why an entry isn't found: as for `append`, and else where no number counts the bytes of the part with it.
abbrev pub IsNotFound : PartsData → EntryData → HistoryFault → Type 0
IsNotFound p e NoMemory = Unit {0}
IsNotFound p e LongName = IsRefusedFor e LongName
IsNotFound p e LongRecord = IsRefusedFor e LongRecord
IsNotFound p e FullPart = is_over p.len (length (record_of e)) p.most false ≡ true
IsNotFound p e Unwritten = ⊥

-- These nodes were named, in order.
pub record AreNamed (p : PartsData) (nodes : List EntryData) : Type 0 where
  pub are : p.nodes ≡ records_of nodes
  pub fit : AreEntries nodes

-- What stands in the part, with what is to be written behind it, is the file of these entries.
pub record Stands (part : List ℕ) (entries : List EntryData) (p : PartsData) : Type 0 where
  pub are : part ++ p.unwritten ≡ file_of entries
  pub fit : AreEntries entries
  pub long : p.len ≡ length (file_of entries)
