-- Where memory may be asked for: a metric stands before the first fault, here or later.
use Rattle.std.proofs.Common.{◌≡◌, Bool, true, false, ◌||◌, ◌∷◌, Result, Ok, refl, sym, ap, subst, ◌∙◌}
use Rattle.std.specs.Prelude.{IsTrue, is_some}
use Rattle.spk_protobuf.specs.declared.fault.WireFault.{WireFault}
use Rattle.spk_protobuf.specs.declared.field.Field.{Field}
use Rattle.spk_protobuf.specs.View.{item_of, entry_of}
use Rattle.spk_payload.specs.Meaning.{bytes_in}
use Rattle.spk_payload.specs.Reading.{has_metric}
use Rattle.spk_payload.proofs.Turns.{Items}

left : (a b : Bool) → IsTrue a → IsTrue (a || b)
left a b h = rw h refl

right : (a b : Bool) → IsTrue b → IsTrue (a || b)
right true b h = refl
right false b h = h

begins_with : (items others : Items) (item : Result Field WireFault) (f : Field) → items ≡ item_of item ∷ others → item ≡ Ok f → items ≡ Ok (entry_of f) ∷ others
begins_with items others item f e i = e ∙ ap (λ (x : Result Field WireFault). item_of x ∷ others) i

pub metric_here : (items others : Items) (item : Result Field WireFault) (f : Field) → items ≡ item_of item ∷ others → item ≡ Ok f → IsTrue (is_some (bytes_in 2 (entry_of f))) → IsTrue (has_metric items)
unfolding has_metric
metric_here items others item f e i h =
    subst (λ (l : Items). IsTrue (has_metric l)) (sym (begins_with items others item f e i)) (left (is_some (bytes_in 2 (entry_of f))) (has_metric others) h)

pub metric_later : (items others : Items) (item : Result Field WireFault) (f : Field) → items ≡ item_of item ∷ others → item ≡ Ok f → IsTrue (has_metric others) → IsTrue (has_metric items)
unfolding has_metric
metric_later items others item f e i h =
    subst (λ (l : Items). IsTrue (has_metric l)) (sym (begins_with items others item f e i)) (right (is_some (bytes_in 2 (entry_of f))) (has_metric others) h)
