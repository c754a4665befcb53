-- A loop over items stops at the first that is a fault or holds one, whatever it has so far.
use Rattle.std.proofs.Common.{◌≡◌, ◌⊎◌, List, [], ◌∷◌, ◌++◌, All, Result, Ok, Err, refl, sym, ap, subst, ◌∙◌, inl, inr}
use Rattle.std.proofs.lemmas.List.Elements.{All-nil, All-cons, All-head, All-tail}
use Rattle.spk_protobuf.specs.declared.fault.WireFault.{WireFault}
use Rattle.spk_protobuf.specs.Grammar.{Entry}
use Rattle.spk_payload.specs.declared.fault.PayloadFault.{PayloadFault}
use Rattle.spk_payload.specs.declared.fault.PayloadFault.TheVariants.{Wire}
use Rattle.spk_payload.specs.Reading.{◌>>=◌, each_item}

abbrev Items : Type 0
Items = List (Result Entry WireFault)

-- What an entry that is sound does to any state, and what one does that holds a fault. Each is one or the other.
pub record Judges {S : Type 0} (step : S → Entry → Result S PayloadFault) (Sound : Entry → Type 0) (Holds : Entry → PayloadFault → Type 0) : Type 0 where
  pub passes : (s : S) (e : Entry) → Sound e → (t : S) × (step s e ≡ Ok t)
  pub stops : (s : S) (e : Entry) (f : PayloadFault) → Holds e f → step s e ≡ Err f
  pub either : (s : S) (e : Entry) → Sound e ⊎ ((f : PayloadFault) × Holds e f)

abbrev pub IsSoundBy : (Entry → Type 0) → Result Entry WireFault → Type 0
IsSoundBy Sound (Ok e) = Sound e
IsSoundBy Sound (Err w) = ⊥

abbrev pub IsFaultBy : (Entry → PayloadFault → Type 0) → Result Entry WireFault → PayloadFault → Type 0
IsFaultBy Holds (Ok e) f = Holds e f
IsFaultBy Holds (Err w) f = f ≡ Wire w

pub record FirstFault (Sound : Entry → Type 0) (Holds : Entry → PayloadFault → Type 0) (items : Items) (f : PayloadFault) : Type 0 where
  pub before : Items
  pub item : Result Entry WireFault
  pub after : Items
  pub are : items ≡ before ++ item ∷ after
  pub sound : All (IsSoundBy Sound) before
  pub is : IsFaultBy Holds item f

abbrev ended : {A : Type 0} → A → Result A PayloadFault
ended x = Ok x

abbrev failed : {A : Type 0} → PayloadFault → Result A PayloadFault
failed f = Err f

same_err : {S : Type 0} (f g : PayloadFault) → failed {A = S} f ≡ failed g → f ≡ g
same_err f g e = cc

no_ok : {S X : Type 0} (s : S) (f : PayloadFault) → ended s ≡ failed f → X
no_ok s f e = absurd cc

module _ {S : Type 0} (step : S → Entry → Result S PayloadFault) (Sound : Entry → Type 0) (Holds : Entry → PayloadFault → Type 0) (j : Judges step Sound Holds) where
  pub first_fault : (s : S) (items : Items) (f : PayloadFault) → each_item step s items ≡ Err f → FirstFault Sound Holds items f
  unfolding each_item
  first_fault s [] f e = no_ok s f e
  first_fault s (Err w ∷ items) f e = record { before = []; item = Err w; after = items; are = refl; sound = All-nil (IsSoundBy Sound); is = sym (same_err {S = S} (Wire w) f e) }
  first_fault s (Ok x ∷ items) f e =
      elim (j.either s x) [
        | inl h ↦
            let one = j.passes s x h in
            let rest : each_item step one.0 items ≡ Err f = ap (λ (r : Result S PayloadFault). r >>= λ t. each_item step t items) (sym one.1) ∙ e in
            let r = first_fault one.0 items f rest in
            record { before = Ok x ∷ r.before; item = r.item; after = r.after; are = ap (λ (others : Items). Ok x ∷ others) r.are; sound = All-cons (IsSoundBy Sound) (Ok x) r.before h r.sound; is = r.is }
        | inr h ↦
            let due : failed {A = S} h.0 ≡ failed f = ap (λ (r : Result S PayloadFault). r >>= λ t. each_item step t items) (sym (j.stops s x h.0 h.1)) ∙ e in
            record { before = []; item = Ok x; after = items; are = refl; sound = All-nil (IsSoundBy Sound); is = subst (λ (g : PayloadFault). Holds x g) (same_err {S = S} h.0 f due) h.1 }
      ]

  pub stops_there : (s : S) (before : Items) (item : Result Entry WireFault) (after : Items) (f : PayloadFault) → All (IsSoundBy Sound) before → IsFaultBy Holds item f → each_item step s (before ++ item ∷ after) ≡ Err f
  unfolding each_item
  stops_there s [] (Ok x) after f sound is = rw (j.stops s x f is) refl
  stops_there s [] (Err w) after f sound is = ap (λ (g : PayloadFault). failed {A = S} g) (sym is)
  stops_there s (Ok x ∷ before) item after f sound is =
      let one = j.passes s x (All-head (IsSoundBy Sound) (Ok x) before sound) in
      rw one.1 (stops_there one.0 before item after f (All-tail (IsSoundBy Sound) (Ok x) before sound) is)
  stops_there s (Err w ∷ before) item after f sound is = absurd (All-head (IsSoundBy Sound) (Err w) before sound)
