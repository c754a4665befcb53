-- Reading gives a STATE exactly where the bytes mean one.
use Rattle.std.proofs.Common.{◌≡◌, ℕ, ◌^◌, ◌<◌, Bool, true, false, ltb, List, codes, cond, refl, sym, ◌∙◌, ap, subst, Option, Some, None, option_and_then, inl, inr, ◌⊎◌, Result, Ok, Err}
use Rattle.std.specs.Prelude.{IfOk, IfErr}
use Rattle.std.specs.Option.{ok_or}
use Rattle.std.specs.Str.{IsUtf8, is_utf8}
use Rattle.std.proofs.lemmas.Bool.{cases_Bool, lt-ltb, ltb-true, false_from_ne_true}
use Rattle.std.proofs.lemmas.Str.{IsUtf8-from_is_utf8, is_utf8-from_IsUtf8}
use Rattle.std.proofs.lemmas.Option.{option_and_then_some}
use Rattle.serde_json.specs.Data.{Data, null, boolean, number, string, array, object, Num, unsigned, negative, float}
use Rattle.serde_json.specs.Read.{read}
use Rattle.serde_json.specs.Find.{get, as_bool, as_number, as_u64}
use Rattle.spk_state.specs.declared.state.State.{State}
use Rattle.spk_state.specs.declared.fault.StateFault.{StateFault}
use Rattle.spk_state.specs.declared.fault.StateFault.TheVariants.{NoMemory, BadState}
use Rattle.spk_state.specs.Text.{MeansState, Gives, with_timestamp, state_of, state_at}

-- what the members say
means-of : (d : Data) (s : State) → get (codes "online") d ≡ Some (boolean s.online) → get (codes "timestamp") d ≡ Some (number (unsigned s.timestamp)) → s.timestamp < 2 ^ 63 → state_of d ≡ Some s
means-of d s online timestamp below =
    let small : ltb s.timestamp (2 ^ 63) ≡ true = lt-ltb s.timestamp (2 ^ 63) below in
    rw (online, timestamp, small) refl

pub means_at : (bytes : List ℕ) (s : State) → MeansState bytes s → state_at bytes ≡ Some s
means_at bytes s h =
    let text : is_utf8 bytes ≡ true = is_utf8-from_IsUtf8 bytes h.text in
    let value : read bytes ≡ Some h.value = h.is_value in
    ap (λ b. cond b (option_and_then state_of (read bytes)) None) text ∙ ap (option_and_then state_of) value ∙ means-of h.value s h.online h.timestamp h.below

-- and the other way round

flag_is : (d : Data) (b : Bool) → as_bool d ≡ Some b → d ≡ boolean b
flag_is null b e = cc
flag_is (boolean x) b e = cc
flag_is (number n) b e = cc
flag_is (string s) b e = cc
flag_is (array ds) b e = cc
flag_is (object ms) b e = cc

number_is : (d : Data) (n : Num) → as_number d ≡ Some n → d ≡ number n
number_is null n e = cc
number_is (boolean b) n e = cc
number_is (number m) n e = cc
number_is (string s) n e = cc
number_is (array ds) n e = cc
number_is (object ms) n e = cc

whole_is : (m : Num) (n : ℕ) → as_u64 m ≡ Some n → m ≡ unsigned n
whole_is (unsigned m) n e = cc
whole_is (negative z) n e = cc
whole_is (float x) n e = cc

-- a STATE of these parts
record Parts (d : Data) (s : State) : Type 0 where
  flag : get (codes "online") d ≡ Some (boolean s.online)
  stamp : get (codes "timestamp") d ≡ Some (number (unsigned s.timestamp))
  below : s.timestamp < 2 ^ 63

chosen : {A : Type 0} (b : Bool) (x y : A) → cond b (Some x) None ≡ Some y → (b ≡ true) × (x ≡ y)
chosen true x y e = (refl, cc)
chosen false x y e = absurd cc

parts-at : (d : Data) (s : State) (online : Bool) (timestamp : ℕ) → get (codes "online") d ≡ Some (boolean online) → get (codes "timestamp") d ≡ Some (number (unsigned timestamp)) → with_timestamp online timestamp ≡ Some s → Parts d s
parts-at d s online timestamp flag stamp e =
    let c : (ltb timestamp (2 ^ 63) ≡ true) × (record { online = online; timestamp = timestamp } ≡ s) = chosen (ltb timestamp (2 ^ 63)) (let t : State = record { online = online; timestamp = timestamp } in t) s e in
    subst (Parts d) c.1 (record { flag = flag; stamp = stamp; below = ltb-true timestamp (2 ^ 63) c.0 })

parts : (d : Data) (s : State) → state_of d ≡ Some s → Parts d s
parts d s e =
    option_and_then_some _ _ s e (λ online is_online e'.
    option_and_then_some _ _ s e' (λ timestamp is_timestamp e''.
    option_and_then_some _ _ online is_online (λ flag is_flag flag_says.
    option_and_then_some _ _ timestamp is_timestamp (λ num is_num num_says.
    option_and_then_some _ _ num is_num (λ stamp is_stamp stamp_says.
    parts-at d s online timestamp (is_flag ∙ ap Some (flag_is flag online flag_says)) (is_stamp ∙ ap Some (number_is stamp num stamp_says ∙ ap number (whole_is num timestamp num_says))) e'')))))

pub at_means : (bytes : List ℕ) (s : State) → state_at bytes ≡ Some s → MeansState bytes s
at_means bytes s e = elim (cases_Bool (is_utf8 bytes)) [
  | inl text ↦
      option_and_then_some state_of (read bytes) s (ap (λ b. cond b (option_and_then state_of (read bytes)) None) (sym text) ∙ e) (λ d is_d e'.
      let p : Parts d s = parts d s e' in
      record { text = IsUtf8-from_is_utf8 bytes text; value = d; is_value = is_d; online = p.flag; timestamp = p.stamp; below = p.below })
  | inr none ↦ absurd (let f : None ≡ Some s = ap (λ b. cond b (option_and_then state_of (read bytes)) None) (sym none) ∙ e in cc)
]

-- what `read` answers is what `decode` is to answer

pub read_found : (bytes : List ℕ) (r : Result State StateFault) → IfOk r (λ s. state_at bytes ≡ Some s) → IfOk r (MeansState bytes)
read_found bytes (Ok s) h = at_means bytes s h
read_found bytes (Err e) h = tt

pub read_only : (bytes : List ℕ) (r : Result State StateFault) → IfOk r (λ s. state_at bytes ≡ Some s) → IfErr r (λ e. (e ≡ NoMemory) ⊎ ((e ≡ BadState) × (state_at bytes ≡ None)))
    → (s : State) → MeansState bytes s → Gives r s
read_only bytes (Ok t) ok bad s h = let e : Some t ≡ Some s = sym ok ∙ means_at bytes s h in cc
read_only bytes (Err NoMemory) ok bad s h = tt
read_only bytes (Err BadState) ok bad s h = elim bad [
  | inl memory ↦ absurd cc
  | inr none ↦ absurd (let e : None ≡ Some s = sym none.1 ∙ means_at bytes s h in cc)
]

abbrev no_meaning : List ℕ → Type 0
no_meaning bytes = (s : State) → MeansState bytes s → ⊥

pub read_bad : (bytes : List ℕ) (r : Result State StateFault) → IfErr r (λ e. (e ≡ NoMemory) ⊎ ((e ≡ BadState) × (state_at bytes ≡ None)))
    → IfErr r (λ e. (e ≡ NoMemory) ⊎ ((e ≡ BadState) × no_meaning bytes))
read_bad bytes (Ok s) bad = tt
read_bad bytes (Err e) bad = elim bad [
  | inl memory ↦ inl memory
  | inr none ↦ inr (none.0, λ s h. absurd (let f : None ≡ Some s = sym none.1 ∙ means_at bytes s h in cc))
]

pub not_text : (bytes : List ℕ) → (IsUtf8 bytes → ⊥) → state_at bytes ≡ None
not_text bytes h =
    let e : is_utf8 bytes ≡ false = false_from_ne_true (is_utf8 bytes) (λ t. h (IsUtf8-from_is_utf8 bytes t)) in
    ap (λ b. cond b (option_and_then state_of (read bytes)) None) e

pub text_at : (bytes : List ℕ) (d : Data) → IsUtf8 bytes → read bytes ≡ Some d → state_at bytes ≡ state_of d
text_at bytes d text is =
    let e : is_utf8 bytes ≡ true = is_utf8-from_IsUtf8 bytes text in
    ap (λ b. cond b (option_and_then state_of (read bytes)) None) e ∙ ap (option_and_then state_of) is

pub judged : (read : Option State) (o : Option State) (r : Result State StateFault) → read ≡ o → r ≡ ok_or o BadState → IfOk r (λ s. read ≡ Some s)
judged read None r is e = rw e tt
judged read (Some s) r is e = rw e is

pub one_meaning : (bytes : List ℕ) (s t : State) → MeansState bytes s → MeansState bytes t → s ≡ t
one_meaning bytes s t a b = let e : Some s ≡ Some t = sym (means_at bytes s a) ∙ means_at bytes t b in cc
