-- What the disk may hold in the life that deeds come to: what it held, until a record is saved.
use Rattle.std.proofs.Common.{◌≡◌, ℕ, Bool, true, false, List, [], ◌∷◌, ◌++◌, map, Option, Some, None, refl, sym, subst, inl, inr, true≢false}
use Rattle.std.specs.List.{AllByRecursion}
use Rattle.spk_edge_rules.specs.Config.{Setup}
use Rattle.spk_edge_rules.specs.Inputs.{Input}
use Rattle.spk_record.specs.declared.record.Record.{Record}
use Rattle.spk_edge_app.specs.Data.{Deed, Opened, Read, Heard, Told, Asked, Wrote, Saved, GaveUp, Stopped, Handed, Over}
use Rattle.spk_edge_app.specs.Run.{is_saved}
use Rattle.spk_lives.specs.Lives as lives
use Rattle.spk_lives.specs.Lives.{Begins, IsAmong, Keeps, Reserve, Says, on_disk}
use Rattle.spk_edge_lives.specs.Life.{begins, life_of, since_write, told_in, wanted_after}
use Rattle.spk_edge_lives.proofs.Said.{disk_says}

begun_holds : (s : Setup) (is : List Input) (wanted : Option Record) (ls : List lives.Deed) (r : Reserve) → IsAmong r (on_disk s ls) → IsAmong r (on_disk s (begins s is wanted ++ ls))
begun_holds s is None ls r among = among
begun_holds s is (Some wanted) ls r among = inr among

holds_on : (s : Setup) (kept : Record) (d : Deed) (ds : List Deed) (r : Reserve) → IsAmong r (on_disk s (life_of s kept ds))
    → IsAmong r (on_disk s (begins s (told_in s (d ∷ ds)) (wanted_after s kept (d ∷ ds)) ++ life_of s kept ds))
holds_on s kept d ds r among = begun_holds s (told_in s (d ∷ ds)) (wanted_after s kept (d ∷ ds)) (life_of s kept ds) r among

holds_one : (s : Setup) (kept : Record) (d : Deed) (ds : List Deed) (r : Reserve) → is_saved d ≡ false → IsAmong r (on_disk s (life_of s kept ds))
    → IsAmong r (on_disk s (life_of s kept (d ∷ ds)))
holds_one s kept (Opened now out bytes sent) ds r unsaved among = holds_on s kept (Opened now out bytes sent) ds r among
holds_one s kept (Read piece now) ds r unsaved among = holds_on s kept (Read piece now) ds r among
holds_one s kept (Heard packet now came) ds r unsaved among = holds_on s kept (Heard packet now came) ds r among
holds_one s kept (Told input out sent) ds r unsaved among = holds_on s kept (Told input out sent) ds r among
holds_one s kept (Asked now) ds r unsaved among = holds_on s kept (Asked now) ds r among
holds_one s kept (Wrote first others now) ds r unsaved among = subst (IsAmong r) (sym (disk_says s (since_write s ds) (life_of s kept ds))) among
holds_one s kept (Saved saved) ds r unsaved among = absurd (true≢false unsaved)
holds_one s kept (GaveUp now) ds r unsaved among = holds_on s kept (GaveUp now) ds r among
holds_one s kept Stopped ds r unsaved among = holds_on s kept Stopped ds r among
holds_one s kept Handed ds r unsaved among = holds_on s kept Handed ds r among
holds_one s kept (Over now) ds r unsaved among = holds_on s kept (Over now) ds r among

pub holds_until : (s : Setup) (kept : Record) (since ds : List Deed) (r : Reserve) → AllByRecursion (λ d. is_saved d ≡ false) since
    → IsAmong r (on_disk s (life_of s kept ds)) → IsAmong r (on_disk s (life_of s kept (since ++ ds)))
holds_until s kept [] ds r unsaved among = among
holds_until s kept (d ∷ since) ds r unsaved among = holds_one s kept d (since ++ ds) r unsaved.0 (holds_until s kept since ds r unsaved.1 among)
