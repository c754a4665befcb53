-- The rows of a part's bytes.
use Rattle.std.specs.Prelude.{◌≡◌, List, [], ◌∷◌, ◌++◌, drop, Option, Some, None}
use Rattle.spk_history.specs.Entries.{AreTaken, EntriesData}
use Rattle.spk_history.specs.Entry.{EntryData, said}
use Rattle.spk_history.specs.File.{Holds}
use Rattle.spk_history_rows.specs.declared.row.Row.{Row}
use Rattle.spk_history_rows.specs.Data.{Follows, RowsData}
use Rattle.spk_history_rows.specs.Row.{RowData, row_of}
use Rattle.spk_history_rows.specs.View.{row_view}

-- the walk over the entries, and the entry of the next row, which it gave
pub record PartData : Type 0 where
  pub entries : EntriesData
  pub next : Option EntryData

-- These entries had their rows: behind their records stands that of the next, or no record, and then they are those that the bytes hold.
abbrev pub IsBefore : EntriesData → List EntryData → Option EntryData → Type 0
IsBefore w part None = Holds w.bytes part (drop w.whole w.bytes)
IsBefore w part (Some e) = AreTaken w (part ++ e ∷ [])

abbrev pub IsAt : PartData → List EntryData → Type 0
IsAt p part = IsBefore p.entries part p.next

-- A row was given: that of the next entry of the part, behind the rows so far.
abbrev pub Gave : RowsData → PartData → Row → RowsData → PartData → Type 0
Gave r p row q s = (rows : List RowData) (part : List EntryData) → Follows r rows part → IsAt p part
    → (row_view q row ≡ row_of rows part (said row.entry))
    × Follows q (rows ++ row_of rows part (said row.entry) ∷ []) (part ++ said row.entry ∷ [])
    × IsAt s (part ++ said row.entry ∷ [])
