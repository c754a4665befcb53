use Rattle.std.proofs.Common.{◌≡◌, List, [], ◌∷◌, ◌++◌, Option, Some, None, drop, subst, sym}
use Rattle.std.specs.Option.{option_map}
use Rattle.std.specs.Prelude.{IfNone, IfSome}
use Rattle.spk_history.specs.declared.entry.Entry.{Entry}
use Rattle.spk_history.specs.Entries.{AreTaken, EntriesData}
use Rattle.spk_history.specs.Entry.{EntryData, said}
use Rattle.spk_history.specs.File.{Holds}
use Rattle.spk_history_rows.specs.Part.{IsBefore}
use Rattle.spk_history_rows.proofs.part.PartRows.new.Goals as goal

-- the first entry stands next, or the bytes hold none
first : (w v : EntriesData) (o : Option Entry) → AreTaken w []
    → IfSome o (λ e. (entries : List EntryData) → AreTaken w entries → AreTaken v (entries ++ said e ∷ []))
    → IfNone o ((v ≡ w) × ((entries : List EntryData) → AreTaken w entries → Holds w.bytes entries (drop w.whole w.bytes))) → IsBefore v [] (option_map said o)
first w v (Some e) none taken over = taken [] none
first w v None none taken over = subst (λ (x : EntriesData). Holds x.bytes [] (drop x.whole x.bytes)) (sym over.0) (over.1 [] none)

pub returns-clause-first : goal.returns-clause-first
returns-clause-first c = first c.new-entries.result c.next-next.new.self c.next-next.result c.new-entries.ensures.none c.next-next.ensures.taken c.next-next.ensures.over
