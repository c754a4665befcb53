-- A loop over the fields of a text: what it has so far, with the items that are left, gives what all items give.
use Rattle.std.proofs.Common.{◌≡◌, List, [], ◌∷◌, Result, Ok, Err, refl, sym, ap, ◌∙◌}
use Rattle.spk_protobuf.specs.declared.fault.WireFault.{WireFault}
use Rattle.spk_protobuf.specs.declared.field.Field.{Field}
use Rattle.spk_protobuf.specs.Grammar.{Entry}
use Rattle.spk_protobuf.specs.View.{item_of, entry_of}
use Rattle.spk_payload.specs.declared.fault.PayloadFault.{PayloadFault}
use Rattle.spk_payload.specs.declared.fault.PayloadFault.TheVariants.{NoMemory, Wire, NotText, HasOther, Mistyped}
use Rattle.spk_payload.specs.Reading.{◌>>=◌, each_item}
use Rattle.spk_payload.specs.View.{Fails}

abbrev pub Items : Type 0
Items = List (Result Entry WireFault)

module _ {S : Type 0} (step : S → Entry → Result S PayloadFault) where
  -- a field that the step took
  pub turns_ok : (s t : S) (items others : Items) (item : Result Field WireFault) (f : Field) (total : Result S PayloadFault) → items ≡ item_of item ∷ others → item ≡ Ok f → step s (entry_of f) ≡ Ok t → each_item step s items ≡ total → each_item step t others ≡ total
  unfolding each_item
  turns_ok s t items others item f total e i h so_far =
      let first : items ≡ Ok (entry_of f) ∷ others = e ∙ ap (λ (x : Result Field WireFault). item_of x ∷ others) i in
      let one : each_item step s (Ok (entry_of f) ∷ others) ≡ each_item step t others = rw h refl in
      sym one ∙ ap (each_item step s) (sym first) ∙ so_far

  -- a fault in the place of a field
  pub turns_err : (s : S) (items others : Items) (item : Result Field WireFault) (w : WireFault) (total : Result S PayloadFault) → items ≡ item_of item ∷ others → item ≡ Err w → each_item step s items ≡ total → total ≡ Err (Wire w)
  unfolding each_item
  turns_err s items others item w total e i so_far =
      let first : items ≡ Err w ∷ others = e ∙ ap (λ (x : Result Field WireFault). item_of x ∷ others) i in
      sym so_far ∙ ap (each_item step s) first

  fails_on : (f : PayloadFault) (r : Result S PayloadFault) (others : Items) → Fails f r → Fails f (r >>= λ t. each_item step t others)
  fails_on NoMemory r others h = tt
  fails_on (Wire w) r others h = rw h refl
  fails_on NotText r others h = rw h refl
  fails_on HasOther r others h = rw h refl
  fails_on Mistyped r others h = rw h refl

  same_fails : (f : PayloadFault) (a b : Result S PayloadFault) → a ≡ b → Fails f a → Fails f b
  same_fails NoMemory a b e h = tt
  same_fails (Wire w) a b e h = sym e ∙ h
  same_fails NotText a b e h = sym e ∙ h
  same_fails HasOther a b e h = sym e ∙ h
  same_fails Mistyped a b e h = sym e ∙ h

  -- a field that the step refused
  pub turns_fail : (f : PayloadFault) (s : S) (items others : Items) (item : Result Field WireFault) (x : Field) (total : Result S PayloadFault) → items ≡ item_of item ∷ others → item ≡ Ok x → Fails f (step s (entry_of x)) → each_item step s items ≡ total → Fails f total
  unfolding each_item
  turns_fail f s items others item x total e i h so_far =
      let first : items ≡ Ok (entry_of x) ∷ others = e ∙ ap (λ (y : Result Field WireFault). item_of y ∷ others) i in
      same_fails f (step s (entry_of x) >>= λ t. each_item step t others) total (ap (each_item step s) (sym first) ∙ so_far) (fails_on f (step s (entry_of x)) others h)

  -- no item is left
  pub turns_end : (s : S) (items : Items) (total : Result S PayloadFault) → items ≡ [] → each_item step s items ≡ total → total ≡ Ok s
  unfolding each_item
  turns_end s items total e so_far = sym so_far ∙ ap (each_item step s) e
