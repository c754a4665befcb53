-- The rows of a history: each entry once, in order, with its place.
use Rattle.std.proofs.Common.{◌≡◌, ◌⊎◌, ◌∙◌, sym, ap, refl, inl, inr, ℕ, List, [], ◌∷◌, ◌++◌, map, filter, length, append_assoc, append-nil, Some}
use Rattle.std.specs.Prelude.{slice_get}
use Rattle.std.proofs.lemmas.List.{map-append}
use Rattle.spk_history.specs.Entry.{EntryData}
use Rattle.spk_history.specs.File.{AreEntries, AreParts, AreRead, IsRead, file_of, joined}
use Rattle.spk_history_rows.specs.History.{AreReadAs, AreRowsOf, entry_of, is_message, rows_of, with_entries, with_parts}
use Rattle.spk_history_rows.specs.Row.{RowData, row_of}
use Rattle.spk_history_rows.proofs.Lists.{none≢some, append-sees}

each_entry : (rows : List RowData) (part es : List EntryData) → map entry_of (with_entries rows part es) ≡ map entry_of rows ++ es
each_entry rows part [] = sym (append-nil (map entry_of rows))
each_entry rows part (e ∷ es) =
    each_entry (rows ++ row_of rows part e ∷ []) (part ++ e ∷ []) es
    ∙ ap (λ l. l ++ es) (map-append entry_of rows (row_of rows part e ∷ []))
    ∙ append_assoc (map entry_of rows) (e ∷ []) es

each_part : (rows : List RowData) (parts : List (List EntryData)) → map entry_of (with_parts rows parts) ≡ map entry_of rows ++ joined parts
each_part rows [] = sym (append-nil (map entry_of rows))
each_part rows (part ∷ parts) =
    each_part (with_entries rows [] part) parts
    ∙ ap (λ l. l ++ joined parts) (each_entry rows [] part)
    ∙ append_assoc (map entry_of rows) part (joined parts)

pub each : (parts : List (List EntryData)) → map entry_of (rows_of parts) ≡ joined parts
each parts = each_part [] parts

-- ---- places

abbrev ArePlaced : List RowData → Type 0
ArePlaced rows = (k : ℕ) (row : RowData) → slice_get rows k ≡ Some row → row.place ≡ k

one_more : (rows : List RowData) (part : List EntryData) (e : EntryData) → ArePlaced rows → ArePlaced (rows ++ row_of rows part e ∷ [])
one_more rows part e placed k row at = by (append-sees rows (row_of rows part e) k row at)
  where
    by : ((k ≡ length rows) × (row ≡ row_of rows part e)) ⊎ (slice_get rows k ≡ Some row) → row.place ≡ k
    by (inl (end, is)) = ap (λ (r : RowData). r.place) is ∙ sym end
    by (inr old) = placed k row old

placed_entries : (rows : List RowData) (part es : List EntryData) → ArePlaced rows → ArePlaced (with_entries rows part es)
placed_entries rows part [] placed = placed
placed_entries rows part (e ∷ es) placed = placed_entries (rows ++ row_of rows part e ∷ []) (part ++ e ∷ []) es (one_more rows part e placed)

placed_parts : (rows : List RowData) (parts : List (List EntryData)) → ArePlaced rows → ArePlaced (with_parts rows parts)
placed_parts rows [] placed = placed
placed_parts rows (part ∷ parts) placed = placed_parts (with_entries rows [] part) parts (placed_entries rows [] part placed)

pub placed : (parts : List (List EntryData)) → ArePlaced (rows_of parts)
placed parts = placed_parts [] parts (λ k row at. absurd (none≢some at))

-- ---- files

-- What `spk_history`'s law of parts says.
abbrev pub PartsAreRead : Type 0
PartsAreRead = (parts : List (List EntryData)) (read : List EntryData) → AreParts parts → AreRead (map file_of parts) read → read ≡ joined parts

one_part : PartsAreRead → (part read : List EntryData) (rest : List ℕ) → AreEntries part → IsRead (file_of part) read rest → read ≡ part
one_part law part read rest are is =
    sym (append-nil read)
    ∙ law (part ∷ []) (read ++ []) (are, tt) (read, rest, [], is, refl, refl)
    ∙ append-nil part

same_parts : PartsAreRead → (parts read : List (List EntryData)) → AreParts parts → AreReadAs (map file_of parts) read → read ≡ parts
same_parts law [] [] are is = refl
same_parts law [] (r ∷ rs) are is = absurd is
same_parts law (p ∷ ps) [] are is = absurd is
same_parts law (p ∷ ps) (r ∷ rs) are is =
    ap (λ x. x ∷ rs) (one_part law p r is.0.0 are.0 is.0.1) ∙ ap (λ xs. p ∷ xs) (same_parts law ps rs are.1 is.1)

pub whole : PartsAreRead → (parts : List (List EntryData)) (rows : List RowData) → AreParts parts → AreRowsOf (map file_of parts) rows
    → map entry_of rows ≡ joined parts
whole law parts rows are (read, is, of) =
    ap (map entry_of) of ∙ each read ∙ ap joined (same_parts law parts read are is)

pub messages : PartsAreRead → (parts : List (List EntryData)) (rows : List RowData) → AreParts parts → AreRowsOf (map file_of parts) rows
    → filter is_message (map entry_of rows) ≡ filter is_message (joined parts)
messages law parts rows are is = ap (filter is_message) (whole law parts rows are is)
