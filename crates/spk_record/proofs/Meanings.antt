-- Reading gives a record exactly where the bytes mean one.
use Rattle.std.proofs.Common.{◌≡◌, ℕ, ◌^◌, ◌<◌, Bool, true, false, ltb, ◌&&◌, List, codes, cond, refl, sym, ◌∙◌, ap, subst, Option, Some, None, option_and_then, inl, inr, ◌⊎◌, Result, Ok, Err}
use Rattle.std.specs.Prelude.{IfOk, IfErr}
use Rattle.std.specs.Option.{ok_or}
use Rattle.std.specs.Str.{IsUtf8, is_utf8}
use Rattle.std.proofs.lemmas.Bool.{cases_Bool, lt-ltb, ltb-true, false_from_ne_true}
use Rattle.std.proofs.lemmas.Str.{IsUtf8-from_is_utf8, is_utf8-from_IsUtf8}
use Rattle.std.proofs.lemmas.Option.{option_and_then_some}
use Rattle.serde_json.specs.Data.{Data, null, boolean, number, string, array, object, Num, unsigned, negative, float}
use Rattle.serde_json.specs.Read.{read}
use Rattle.serde_json.specs.Find.{get, as_number, as_u64}
use Rattle.spk_record.specs.declared.record.Record.{Record}
use Rattle.spk_record.specs.declared.fault.RecordFault.{RecordFault}
use Rattle.spk_record.specs.declared.fault.RecordFault.TheVariants.{NoMemory, BadRecord}
use Rattle.spk_record.specs.Text.{MeansRecord, Gives, of_two, whole_in, record_of, record_at}

-- what the members say
means-of : (d : Data) (s : Record) → get (codes "bd") d ≡ Some (number (unsigned s.bd)) → get (codes "stamp") d ≡ Some (number (unsigned s.stamp)) → s.bd < 256 → s.stamp < 2 ^ 63 → record_of d ≡ Some s
means-of d s bd stamp byte below =
    let one : ltb s.bd 256 ≡ true = lt-ltb s.bd 256 byte in
    let two : ltb s.stamp (2 ^ 63) ≡ true = lt-ltb s.stamp (2 ^ 63) below in
    rw (bd, stamp, one, two) refl

pub means_at : (bytes : List ℕ) (s : Record) → MeansRecord bytes s → record_at bytes ≡ Some s
means_at bytes s h =
    let text : is_utf8 bytes ≡ true = is_utf8-from_IsUtf8 bytes h.text in
    let value : read bytes ≡ Some h.value = h.is_value in
    ap (λ b. cond b (option_and_then record_of (read bytes)) None) text ∙ ap (option_and_then record_of) value ∙ means-of h.value s h.bd h.stamp h.is_byte h.is_moment

-- and the other way round

number_is : (d : Data) (n : Num) → as_number d ≡ Some n → d ≡ number n
number_is null n e = cc
number_is (boolean b) n e = cc
number_is (number m) n e = cc
number_is (string s) n e = cc
number_is (array ds) n e = cc
number_is (object ms) n e = cc

whole_is : (m : Num) (n : ℕ) → as_u64 m ≡ Some n → m ≡ unsigned n
whole_is (unsigned m) n e = cc
whole_is (negative z) n e = cc
whole_is (float x) n e = cc

-- a record of these parts
record Parts (d : Data) (s : Record) : Type 0 where
  bd : get (codes "bd") d ≡ Some (number (unsigned s.bd))
  stamp : get (codes "stamp") d ≡ Some (number (unsigned s.stamp))
  byte : s.bd < 256
  below : s.stamp < 2 ^ 63

chosen : {A : Type 0} (b : Bool) (x y : A) → cond b (Some x) None ≡ Some y → (b ≡ true) × (x ≡ y)
chosen true x y e = (refl, cc)
chosen false x y e = absurd cc

both : (a b : Bool) → (a && b) ≡ true → (a ≡ true) × (b ≡ true)
both true true e = (refl, refl)
both true false e = absurd cc
both false b e = absurd cc

parts-at : (d : Data) (s : Record) (bd stamp : ℕ) → get (codes "bd") d ≡ Some (number (unsigned bd)) → get (codes "stamp") d ≡ Some (number (unsigned stamp)) → of_two bd stamp ≡ Some s → Parts d s
parts-at d s bd stamp one two e =
    let c : ((ltb bd 256 && ltb stamp (2 ^ 63)) ≡ true) × (record { bd = bd; stamp = stamp } ≡ s) = chosen (ltb bd 256 && ltb stamp (2 ^ 63)) (let t : Record = record { bd = bd; stamp = stamp } in t) s e in
    let small = both (ltb bd 256) (ltb stamp (2 ^ 63)) c.0 in
    subst (Parts d) c.1 (record { bd = one; stamp = two; byte = ltb-true bd 256 small.0; below = ltb-true stamp (2 ^ 63) small.1 })

-- a whole number under a name
whole_at : (name : List ℕ) (d : Data) (n : ℕ) → whole_in name d ≡ Some n → get name d ≡ Some (number (unsigned n))
whole_at name d n e =
    option_and_then_some _ _ n e (λ num is_num num_says.
    option_and_then_some _ _ num is_num (λ found is_found found_says.
    is_found ∙ ap Some (number_is found num found_says ∙ ap number (whole_is num n num_says))))

parts : (d : Data) (s : Record) → record_of d ≡ Some s → Parts d s
parts d s e =
    option_and_then_some _ _ s e (λ bd is_bd e'.
    option_and_then_some _ _ s e' (λ stamp is_stamp e''.
    parts-at d s bd stamp (whole_at (codes "bd") d bd is_bd) (whole_at (codes "stamp") d stamp is_stamp) e''))

pub at_means : (bytes : List ℕ) (s : Record) → record_at bytes ≡ Some s → MeansRecord bytes s
at_means bytes s e = elim (cases_Bool (is_utf8 bytes)) [
  | inl text ↦
      option_and_then_some record_of (read bytes) s (ap (λ b. cond b (option_and_then record_of (read bytes)) None) (sym text) ∙ e) (λ d is_d e'.
      let p : Parts d s = parts d s e' in
      record { text = IsUtf8-from_is_utf8 bytes text; value = d; is_value = is_d; bd = p.bd; stamp = p.stamp; is_byte = p.byte; is_moment = p.below })
  | inr none ↦ absurd (let f : None ≡ Some s = ap (λ b. cond b (option_and_then record_of (read bytes)) None) (sym none) ∙ e in cc)
]

-- what `read` answers is what `decode` is to answer

pub read_found : (bytes : List ℕ) (r : Result Record RecordFault) → IfOk r (λ s. record_at bytes ≡ Some s) → IfOk r (MeansRecord bytes)
read_found bytes (Ok s) h = at_means bytes s h
read_found bytes (Err e) h = tt

pub read_only : (bytes : List ℕ) (r : Result Record RecordFault) → IfOk r (λ s. record_at bytes ≡ Some s) → IfErr r (λ e. (e ≡ NoMemory) ⊎ ((e ≡ BadRecord) × (record_at bytes ≡ None)))
    → (s : Record) → MeansRecord bytes s → Gives r s
read_only bytes (Ok t) ok bad s h = let e : Some t ≡ Some s = sym ok ∙ means_at bytes s h in cc
read_only bytes (Err NoMemory) ok bad s h = tt
read_only bytes (Err BadRecord) ok bad s h = elim bad [
  | inl memory ↦ absurd cc
  | inr none ↦ absurd (let e : None ≡ Some s = sym none.1 ∙ means_at bytes s h in cc)
]

abbrev no_meaning : List ℕ → Type 0
no_meaning bytes = (s : Record) → MeansRecord bytes s → ⊥

pub read_bad : (bytes : List ℕ) (r : Result Record RecordFault) → IfErr r (λ e. (e ≡ NoMemory) ⊎ ((e ≡ BadRecord) × (record_at bytes ≡ None)))
    → IfErr r (λ e. (e ≡ NoMemory) ⊎ ((e ≡ BadRecord) × no_meaning bytes))
read_bad bytes (Ok s) bad = tt
read_bad bytes (Err e) bad = elim bad [
  | inl memory ↦ inl memory
  | inr none ↦ inr (none.0, λ s h. absurd (let f : None ≡ Some s = sym none.1 ∙ means_at bytes s h in cc))
]

pub not_text : (bytes : List ℕ) → (IsUtf8 bytes → ⊥) → record_at bytes ≡ None
not_text bytes h =
    let e : is_utf8 bytes ≡ false = false_from_ne_true (is_utf8 bytes) (λ t. h (IsUtf8-from_is_utf8 bytes t)) in
    ap (λ b. cond b (option_and_then record_of (read bytes)) None) e

pub text_at : (bytes : List ℕ) (d : Data) → IsUtf8 bytes → read bytes ≡ Some d → record_at bytes ≡ record_of d
text_at bytes d text is =
    let e : is_utf8 bytes ≡ true = is_utf8-from_IsUtf8 bytes text in
    ap (λ b. cond b (option_and_then record_of (read bytes)) None) e ∙ ap (option_and_then record_of) is

pub judged : (read : Option Record) (o : Option Record) (r : Result Record RecordFault) → read ≡ o → r ≡ ok_or o BadRecord → IfOk r (λ s. read ≡ Some s)
judged read None r is e = rw e tt
judged read (Some s) r is e = rw e is

pub one_meaning : (bytes : List ℕ) (s t : Record) → MeansRecord bytes s → MeansRecord bytes t → s ≡ t
one_meaning bytes s t a b = let e : Some s ≡ Some t = sym (means_at bytes s a) ∙ means_at bytes t b in cc
