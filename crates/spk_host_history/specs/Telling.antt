-- What a history was told besides.
use Rattle.std.specs.Prelude.{◌≡◌, ℕ, List, [], ◌∷◌, ◌++◌}
use Rattle.std.specs.List.{filter_map}
use Rattle.spk_history.specs.Entry.{EntryData}
use Rattle.spk_historian.specs.Event.{EventData}
use Rattle.spk_historian.specs.Told.{HistorianData, Tells, consumed}

-- These events were told besides, newest first, in the part that is written.
abbrev pub Adds : List EventData → HistorianData → HistorianData → Type 0
Adds more old new = (before entries : List EntryData) (part : List ℕ) (es : List EventData) → Tells before entries part es old
    → (now : List EntryData) × Tells before now part (more ++ es) new

-- Some events were told besides, of which none is a message that was consumed.
abbrev pub Befalls : HistorianData → HistorianData → Type 0
Befalls old new = (more : List EventData) × (filter_map consumed more ≡ []) × Adds more old new
