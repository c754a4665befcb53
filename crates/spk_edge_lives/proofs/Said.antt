-- What a life says is what the node was told until something was written last.
use Rattle.std.proofs.Common.{◌≡◌, ◌∙◌, ℕ, List, [], ◌∷◌, ◌++◌, map, Option, Some, None, refl, sym, ap, append_assoc}
use Rattle.std.proofs.lemmas.List.{map-append}
use Rattle.spk_edge.specs.Calls.{input_by, inputs_by}
use Rattle.spk_edge_rules.specs.Config.{Setup}
use Rattle.spk_edge_rules.specs.Inputs.{Input}
use Rattle.spk_record.specs.declared.record.Record.{Record}
use Rattle.spk_edge_app.specs.Data.{Deed, Opened, Read, Heard, Told, Asked, Wrote, Saved, GaveUp, Stopped, Handed, Over}
use Rattle.spk_edge_app.specs.Run.{of_node, on_node}
use Rattle.spk_lives.specs.Lives as lives
use Rattle.spk_lives.specs.Lives.{Begins, Keeps, Says, on_disk, said}
use Rattle.spk_edge_lives.specs.Life.{before_write, begins, life_of, since_write, told_in, wanted_after}

pub said_says : (is : List Input) (ls : List lives.Deed) → said (map Says is ++ ls) ≡ is ++ said ls
said_says [] ls = refl
said_says (i ∷ is) ls = ap (λ (xs : List Input). i ∷ xs) (said_says is ls)

pub said_begins : (s : Setup) (is : List Input) (wanted : Option Record) (ls : List lives.Deed) → said (begins s is wanted ++ ls) ≡ said ls
said_begins s is None ls = refl
said_begins s is (Some w) ls = refl

pub disk_says : (s : Setup) (is : List Input) (ls : List lives.Deed) → on_disk s (map Says is ++ ls) ≡ on_disk s ls
disk_says s [] ls = refl
disk_says s (i ∷ is) ls = disk_says s is ls

-- ---- what the node was told, by the last write

pub told_more : (s : Setup) (d : Deed) (ds : List Deed) → told_in s (d ∷ ds) ≡ inputs_by (on_node s.config d) ++ told_in s ds
told_more s d ds = map-append input_by (on_node s.config d) (of_node s.config ds)

split_on : (s : Setup) (d : Deed) (ds : List Deed) → told_in s ds ≡ since_write s ds ++ before_write s ds
    → told_in s (d ∷ ds) ≡ (inputs_by (on_node s.config d) ++ since_write s ds) ++ before_write s ds
split_on s d ds e =
    told_more s d ds ∙ ap (λ (xs : List Input). inputs_by (on_node s.config d) ++ xs) e
    ∙ sym (append_assoc (inputs_by (on_node s.config d)) (since_write s ds) (before_write s ds))

pub told_split : (s : Setup) (ds : List Deed) → told_in s ds ≡ since_write s ds ++ before_write s ds
told_split s [] = refl
told_split s (Wrote first others now ∷ ds) = refl
told_split s (Opened now out bytes sent ∷ ds) = split_on s (Opened now out bytes sent) ds (told_split s ds)
told_split s (Read piece now ∷ ds) = split_on s (Read piece now) ds (told_split s ds)
told_split s (Heard packet now came ∷ ds) = split_on s (Heard packet now came) ds (told_split s ds)
told_split s (Told input out sent ∷ ds) = split_on s (Told input out sent) ds (told_split s ds)
told_split s (Asked now ∷ ds) = split_on s (Asked now) ds (told_split s ds)
told_split s (Saved saved ∷ ds) = split_on s (Saved saved) ds (told_split s ds)
told_split s (GaveUp now ∷ ds) = split_on s (GaveUp now) ds (told_split s ds)
told_split s (Stopped ∷ ds) = split_on s Stopped ds (told_split s ds)
told_split s (Handed ∷ ds) = split_on s Handed ds (told_split s ds)
told_split s (Over now ∷ ds) = split_on s (Over now) ds (told_split s ds)

-- ---- the life

said_on : (s : Setup) (kept : Record) (d : Deed) (ds : List Deed)
    → said (begins s (told_in s (d ∷ ds)) (wanted_after s kept (d ∷ ds)) ++ life_of s kept ds) ≡ said (life_of s kept ds)
said_on s kept d ds = said_begins s (told_in s (d ∷ ds)) (wanted_after s kept (d ∷ ds)) (life_of s kept ds)

pub said_life : (s : Setup) (kept : Record) (ds : List Deed) → said (life_of s kept ds) ≡ before_write s ds
said_life s kept [] = refl
said_life s kept (Saved saved ∷ ds) = said_life s kept ds
said_life s kept (Wrote first others now ∷ ds) =
    said_says (since_write s ds) (life_of s kept ds)
    ∙ ap (λ (xs : List Input). since_write s ds ++ xs) (said_life s kept ds) ∙ sym (told_split s ds)
said_life s kept (Opened now out bytes sent ∷ ds) = said_on s kept (Opened now out bytes sent) ds ∙ said_life s kept ds
said_life s kept (Read piece now ∷ ds) = said_on s kept (Read piece now) ds ∙ said_life s kept ds
said_life s kept (Heard packet now came ∷ ds) = said_on s kept (Heard packet now came) ds ∙ said_life s kept ds
said_life s kept (Told input out sent ∷ ds) = said_on s kept (Told input out sent) ds ∙ said_life s kept ds
said_life s kept (Asked now ∷ ds) = said_on s kept (Asked now) ds ∙ said_life s kept ds
said_life s kept (GaveUp now ∷ ds) = said_on s kept (GaveUp now) ds ∙ said_life s kept ds
said_life s kept (Stopped ∷ ds) = said_on s kept Stopped ds ∙ said_life s kept ds
said_life s kept (Handed ∷ ds) = said_on s kept Handed ds ∙ said_life s kept ds
said_life s kept (Over now ∷ ds) = said_on s kept (Over now) ds ∙ said_life s kept ds
