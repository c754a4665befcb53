-- What the reader takes as a varint is one, and each varint is taken, whatever follows it. It faults where none stands.
use Rattle.std.proofs.Common.{◌≡◌, ℕ, zero, suc, ◌+◌, ◌*◌, ◌%◌, ◌^◌, ◌<◌, ◌≤◌, ◌⊎◌, Bool, true, false, cond, ltb, List, [], ◌∷◌, ◌++◌, length, take, All, Result, Ok, Err, refl, sym, ap, subst, arith, inl, inr}
use Rattle.std.proofs.lemmas.Bool.{ltb-true, ltb-false, lt-ltb, le-ltb}
use Rattle.std.proofs.lemmas.List.Elements.{All-nil, All-cons, All-head, All-tail}
use Rattle.spk_protobuf.specs.declared.fault.WireFault.{WireFault}
use Rattle.spk_protobuf.specs.declared.fault.WireFault.TheVariants.{Truncated, VarintTooLong, Group, FieldZero, WireType}
use Rattle.spk_protobuf.specs.Grammar.{AreGroups, IsVarint}
use Rattle.spk_protobuf.specs.Faults.{IsVarintFault}
use Rattle.spk_protobuf.specs.Reading.{◌>>=◌, groups_at, varint_at}

-- ---- steps

-- the value of a step that did not fail
pub bind_ok : {A B : Type 0} (r : Result A WireFault) (f : A → Result B WireFault) (y : B) → (r >>= f) ≡ Ok y → (x : A) × (r ≡ Ok x) × (f x ≡ Ok y)
bind_ok (Ok x) f y e = (x, refl, e)
bind_ok (Err d) f y e = absurd cc

-- the step that failed
pub bind_err : {A B : Type 0} (r : Result A WireFault) (f : A → Result B WireFault) (w : WireFault) → (r >>= f) ≡ Err w → (r ≡ Err w) ⊎ ((x : A) × (r ≡ Ok x) × (f x ≡ Err w))
bind_err (Ok x) f w e = inr (x, refl, e)
bind_err (Err d) f w e = inl cc

-- which way a test went
pub chosen : {X : Type 0} (b : Bool) (x y z : X) → cond b x y ≡ z → ((b ≡ true) × (x ≡ z)) ⊎ ((b ≡ false) × (y ≡ z))
chosen true x y z e = inl (refl, e)
chosen false x y z e = inr (refl, e)

abbrev pub done : {A : Type 0} → A → Result A WireFault
done x = Ok x

abbrev pub failed : {A : Type 0} → WireFault → Result A WireFault
failed w = Err w

pub ok_is : {A : Type 0} (x y : A) → done x ≡ done y → x ≡ y
ok_is x y e = cc

pub err_is : {A : Type 0} (v w : WireFault) → failed {A = A} v ≡ failed w → v ≡ w
err_is v w e = cc

pub ok_no_err : {A X : Type 0} (x : A) (w : WireFault) → done x ≡ failed w → X
ok_no_err x w e = absurd cc

pub err_no_ok : {A X : Type 0} (w : WireFault) (x : A) → failed w ≡ done x → X
err_no_ok w x e = absurd cc

-- ---- groups

pub AreGroups-more : (b : ℕ) (text : List ℕ) (high n : ℕ) → 128 ≤ b → n ≡ b % 128 + 128 * high → AreGroups text high → AreGroups (b ∷ text) n
AreGroups-more b [] high n le e h = absurd h
AreGroups-more b (c ∷ bs) high n le e h = (le, high, e, h)

pub AreGroups-length : (text : List ℕ) (n : ℕ) → AreGroups text n → 0 < length text
AreGroups-length [] n h = absurd h
AreGroups-length (b ∷ bs) n h = omega arith

-- groups were taken from the front
record TakesGroups (k : ℕ) (bytes : List ℕ) (n : ℕ) (rest : List ℕ) : Type 0 where
  pub text : List ℕ
  pub groups : AreGroups text n
  pub parts : bytes ≡ text ++ rest
  pub short : length text ≤ k

groups_take : (k : ℕ) (bytes : List ℕ) (n : ℕ) (rest : List ℕ) → groups_at k bytes ≡ Ok (n, rest) → TakesGroups k bytes n rest
unfolding groups_at
groups_take zero bytes n rest e = absurd cc
groups_take (suc k) [] n rest e = absurd cc
groups_take (suc k) (b ∷ bs) n rest e =
    elim (chosen (ltb b 128) (Ok (b, bs)) (groups_at k bs >>= λ high. Ok (b % 128 + 128 * high.0, high.1)) (Ok (n, rest)) e) [
      | inl h ↦ subst (λ (p : ℕ × List ℕ). TakesGroups (suc k) (b ∷ bs) p.0 p.1) (ok_is (b, bs) (n, rest) h.1) (record { text = b ∷ []; groups = (ltb-true _ _ h.0, refl); parts = refl; short = omega arith })
      | inr h ↦
          let r = bind_ok (groups_at k bs) (λ high. Ok (b % 128 + 128 * high.0, high.1)) (n, rest) h.1 in
          let t = groups_take k bs r.0.0 r.0.1 r.1 in
          subst (λ (p : ℕ × List ℕ). TakesGroups (suc k) (b ∷ bs) p.0 p.1) (ok_is (b % 128 + 128 * r.0.0, r.0.1) (n, rest) r.2) (record {
            text = b ∷ t.text;
            groups = AreGroups-more b t.text r.0.0 (b % 128 + 128 * r.0.0) (ltb-false _ _ h.0) refl t.groups;
            parts = ap (λ (x : List ℕ). b ∷ x) t.parts;
            short = omega (arith, t.short);
          })
    ]

groups_again : (k : ℕ) (text rest : List ℕ) (n : ℕ) → AreGroups text n → length text ≤ k → groups_at k (text ++ rest) ≡ Ok (n, rest)
unfolding groups_at
groups_again k [] rest n h le = absurd h
groups_again zero (b ∷ bs) rest n h le = absurd (omega arith)
groups_again (suc k) (b ∷ []) rest n h le =
    let t : ltb b 128 ≡ true = lt-ltb _ _ h.0 in
    rw t (ap (λ (m : ℕ). done (m, rest)) (sym h.1))
groups_again (suc k) (b ∷ c ∷ bs) rest n h le =
    let t : ltb b 128 ≡ false = le-ltb _ _ h.0 in
    rw (t, groups_again k (c ∷ bs) rest h.1 h.3 (omega arith)) (ap (λ (m : ℕ). done (m, rest)) (sym h.2))

abbrev Follows : ℕ → Type 0
Follows b = 128 ≤ b

-- the faults of a varint, with k in place of ten
abbrev IsGroupsFault : ℕ → List ℕ → WireFault → Type 0
IsGroupsFault k text Truncated = (length text < k) × All (λ b. 128 ≤ b) text
IsGroupsFault k text VarintTooLong = (k ≤ length text) × All (λ b. 128 ≤ b) (take k text)
IsGroupsFault k text Group = ⊥
IsGroupsFault k text FieldZero = ⊥
IsGroupsFault k text WireType = ⊥

IsGroupsFault-more : (k b : ℕ) (bs : List ℕ) (w : WireFault) → 128 ≤ b → IsGroupsFault k bs w → IsGroupsFault (suc k) (b ∷ bs) w
IsGroupsFault-more k b bs Truncated le h = (omega (arith, h.0), All-cons Follows b bs le h.1)
IsGroupsFault-more k b bs VarintTooLong le h = (omega (arith, h.0), All-cons Follows b (take k bs) le h.1)
IsGroupsFault-more k b bs Group le h = h
IsGroupsFault-more k b bs FieldZero le h = h
IsGroupsFault-more k b bs WireType le h = h

groups_fault : (k : ℕ) (bytes : List ℕ) (w : WireFault) → groups_at k bytes ≡ Err w → IsGroupsFault k bytes w
unfolding groups_at
groups_fault zero bytes w e = subst (λ (v : WireFault). IsGroupsFault 0 bytes v) (err_is {A = ℕ × List ℕ} VarintTooLong w e) (omega arith, All-nil Follows)
groups_fault (suc k) [] w e = subst (λ (v : WireFault). IsGroupsFault (suc k) [] v) (err_is {A = ℕ × List ℕ} Truncated w e) (omega arith, All-nil Follows)
groups_fault (suc k) (b ∷ bs) w e =
    elim (chosen (ltb b 128) (Ok (b, bs)) (groups_at k bs >>= λ high. Ok (b % 128 + 128 * high.0, high.1)) (Err w) e) [
      | inl h ↦ ok_no_err (b, bs) w h.1
      | inr h ↦
          elim (bind_err (groups_at k bs) (λ high. Ok (b % 128 + 128 * high.0, high.1)) w h.1) [
            | inl r ↦ IsGroupsFault-more k b bs w (ltb-false _ _ h.0) (groups_fault k bs w r)
            | inr r ↦ ok_no_err (b % 128 + 128 * r.0.0, r.0.1) w r.2
          ]
    ]

groups_fault_again : (k : ℕ) (bytes : List ℕ) (w : WireFault) → IsGroupsFault k bytes w → groups_at k bytes ≡ Err w
unfolding groups_at
groups_fault_again zero bytes Truncated h = absurd (omega (arith, h.0))
groups_fault_again zero bytes VarintTooLong h = refl
groups_fault_again zero bytes Group h = absurd h
groups_fault_again zero bytes FieldZero h = absurd h
groups_fault_again zero bytes WireType h = absurd h
groups_fault_again (suc k) [] Truncated h = refl
groups_fault_again (suc k) [] VarintTooLong h = absurd (omega (arith, h.0))
groups_fault_again (suc k) [] Group h = absurd h
groups_fault_again (suc k) [] FieldZero h = absurd h
groups_fault_again (suc k) [] WireType h = absurd h
groups_fault_again (suc k) (b ∷ bs) Truncated h =
    let t : ltb b 128 ≡ false = le-ltb _ _ (All-head Follows b bs h.1) in
    rw (t, groups_fault_again k bs Truncated (omega (arith, h.0), All-tail Follows b bs h.1)) refl
groups_fault_again (suc k) (b ∷ bs) VarintTooLong h =
    let t : ltb b 128 ≡ false = le-ltb _ _ (All-head Follows b (take k bs) h.1) in
    rw (t, groups_fault_again k bs VarintTooLong (omega (arith, h.0), All-tail Follows b (take k bs) h.1)) refl
groups_fault_again (suc k) (b ∷ bs) Group h = absurd h
groups_fault_again (suc k) (b ∷ bs) FieldZero h = absurd h
groups_fault_again (suc k) (b ∷ bs) WireType h = absurd h

-- ---- varints

pub record TakesVarint (bytes : List ℕ) (n : ℕ) (rest : List ℕ) : Type 0 where
  pub text : List ℕ
  pub is : IsVarint text n
  pub parts : bytes ≡ text ++ rest

abbrev cut_off : ℕ × List ℕ → Result (ℕ × List ℕ) WireFault
cut_off whole = Ok (whole.0 % 2 ^ 64, whole.1)

pub varint_take : (bytes : List ℕ) (n : ℕ) (rest : List ℕ) → varint_at bytes ≡ Ok (n, rest) → TakesVarint bytes n rest
unfolding varint_at
varint_take bytes n rest e =
    let r = bind_ok (groups_at 10 bytes) cut_off (n, rest) e in
    let t = groups_take 10 bytes r.0.0 r.0.1 r.1 in
    subst (λ (p : ℕ × List ℕ). TakesVarint bytes p.0 p.1) (ok_is (r.0.0 % 2 ^ 64, r.0.1) (n, rest) r.2) (record { text = t.text; is = (t.short, r.0.0, t.groups, refl); parts = t.parts })

pub varint_again : (text rest : List ℕ) (n : ℕ) → IsVarint text n → varint_at (text ++ rest) ≡ Ok (n, rest)
unfolding varint_at
varint_again text rest n h = rw (groups_again 10 text rest h.1 h.2 h.0) (ap (λ (m : ℕ). done (m, rest)) (sym h.3))

pub IsVarint-length : (text : List ℕ) (n : ℕ) → IsVarint text n → 0 < length text
IsVarint-length text n h = AreGroups-length text h.1 h.2

to_varint_fault : (text : List ℕ) (w : WireFault) → IsGroupsFault 10 text w → IsVarintFault text w
to_varint_fault text Truncated h = h
to_varint_fault text VarintTooLong h = h
to_varint_fault text Group h = h
to_varint_fault text FieldZero h = h
to_varint_fault text WireType h = h

to_groups_fault : (text : List ℕ) (w : WireFault) → IsVarintFault text w → IsGroupsFault 10 text w
to_groups_fault text Truncated h = h
to_groups_fault text VarintTooLong h = h
to_groups_fault text Group h = h
to_groups_fault text FieldZero h = h
to_groups_fault text WireType h = h

pub varint_fault : (bytes : List ℕ) (w : WireFault) → varint_at bytes ≡ Err w → IsVarintFault bytes w
unfolding varint_at
varint_fault bytes w e =
    elim (bind_err (groups_at 10 bytes) cut_off w e) [
      | inl r ↦ to_varint_fault bytes w (groups_fault 10 bytes w r)
      | inr r ↦ ok_no_err (r.0.0 % 2 ^ 64, r.0.1) w r.2
    ]

pub varint_fault_again : (bytes : List ℕ) (w : WireFault) → IsVarintFault bytes w → varint_at bytes ≡ Err w
unfolding varint_at
varint_fault_again bytes w h = rw (groups_fault_again 10 bytes w (to_groups_fault bytes w h)) refl

-- a byte below 128 is a whole varint
pub varint_at_small : (b : ℕ) (rest : List ℕ) → b < 128 → varint_at (b ∷ rest) ≡ Ok (b, rest)
unfolding varint_at groups_at
varint_at_small b rest below =
    let t : ltb b 128 ≡ true = lt-ltb _ _ below in
    let m : b % 2 ^ 64 ≡ b = omega (arith, below) in
    rw t (ap (λ (n : ℕ). done (n, rest)) m)
