-- The rows of a history in parts.
use Rattle.std.specs.Prelude.{◌≡◌, ℕ, Bool, true, false, List, [], ◌∷◌, ◌++◌}
use Rattle.spk_history.specs.Entry.{EntryData, Birth, Message}
use Rattle.spk_history.specs.File.{IsRead}
use Rattle.spk_history_rows.specs.Row.{RowData, row_of}

-- the rows with those of a part's other entries, behind these of it
abbrev pub with_entries : List RowData → List EntryData → List EntryData → List RowData
with_entries rows part [] = rows
with_entries rows part (e ∷ es) = with_entries (rows ++ row_of rows part e ∷ []) (part ++ e ∷ []) es

abbrev pub with_parts : List RowData → List (List EntryData) → List RowData
with_parts rows [] = rows
with_parts rows (part ∷ parts) = with_parts (with_entries rows [] part) parts

-- the rows of parts, oldest first
abbrev pub rows_of : List (List EntryData) → List RowData
rows_of parts = with_parts [] parts

-- a message that was consumed, an NBIRTH too
abbrev pub is_message : EntryData → Bool
is_message (Birth at node stamp bd payload) = true
is_message (Message at node kind seq payload) = true
is_message _ = false

-- What is read of each file, as the entries of a part.
abbrev pub AreReadAs : List (List ℕ) → List (List EntryData) → Type 0
AreReadAs [] [] = Unit {0}
AreReadAs [] (part ∷ parts) = ⊥
AreReadAs (file ∷ files) [] = ⊥
AreReadAs (file ∷ files) (part ∷ parts) = ((rest : List ℕ) × IsRead file part rest) × AreReadAs files parts

abbrev pub entry_of : RowData → EntryData
entry_of row = row.entry

-- The rows of files, oldest first: those of what is read of each.
abbrev pub AreRowsOf : List (List ℕ) → List RowData → Type 0
AreRowsOf files rows = (parts : List (List EntryData)) × AreReadAs files parts × (rows ≡ rows_of parts)
