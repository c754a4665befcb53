-- What the reader takes as a value or a field is one, and each is taken, whatever follows it. It faults where none stands.
use Rattle.std.proofs.Common.{◌≡◌, ◌≢◌, ℕ, ◌+◌, ◌*◌, ◌/◌, ◌%◌, ◌<◌, ◌≤◌, ◌⊎◌, true, false, cond, eqb, ltb, List, ◌++◌, length, take, drop, Result, Ok, Err, refl, sym, ap, subst, ◌∙◌, append_assoc, length-append, length-take, arith, inl, inr}
use Rattle.std.proofs.lemmas.Bool.{ltb-true, ltb-false, lt-ltb, le-ltb, eqb-true, eqb-false, eq-eqb, ne_eqb, cases_lt}
use Rattle.std.proofs.lemmas.List.{take_at, drop_at, take-append-drop}
use Rattle.spk_protobuf.specs.declared.fault.WireFault.{WireFault}
use Rattle.spk_protobuf.specs.declared.fault.WireFault.TheVariants.{Truncated, VarintTooLong, Group, FieldZero, WireType}
use Rattle.spk_protobuf.specs.Grammar.{Shape, Varint, Eight, Bytes, Four, Entry, IsVarint, IsValue, IsField, wire_type}
use Rattle.spk_protobuf.specs.Faults.{IsVarintFault, IsValueCut, IsTagFault, IsFieldFault}
use Rattle.spk_protobuf.specs.Reading.{◌>>=◌, varint_at, some_at, value_at, field_at}
use Rattle.spk_protobuf.proofs.Groups.{bind_ok, bind_err, chosen, done, ok_is, err_is, ok_no_err, err_no_ok, varint_take, varint_again, IsVarint-length, varint_fault, varint_fault_again}

-- ---- so many bytes

pub record TakesSome (n : ℕ) (bytes text rest : List ℕ) : Type 0 where
  pub len : length text ≡ n
  pub parts : bytes ≡ text ++ rest

some_take : (n : ℕ) (bytes text rest : List ℕ) → some_at n bytes ≡ Ok (text, rest) → TakesSome n bytes text rest
unfolding some_at
some_take n bytes text rest e =
    elim (chosen (ltb (length bytes) n) (Err Truncated) (Ok (take n bytes, drop n bytes)) (Ok (text, rest)) e) [
      | inl h ↦ err_no_ok Truncated (text, rest) h.1
      | inr h ↦
          let long : n ≤ length bytes = ltb-false _ _ h.0 in
          subst (λ (p : List ℕ × List ℕ). TakesSome n bytes p.0 p.1) (ok_is (take n bytes, drop n bytes) (text, rest) h.1) (record { len = omega (arith, length-take n bytes); parts = sym (take-append-drop n bytes) })
    ]

some_again : (n : ℕ) (text rest : List ℕ) → length text ≡ n → some_at n (text ++ rest) ≡ Ok (text, rest)
unfolding some_at
some_again n text rest len =
    let long : ltb (length (text ++ rest)) n ≡ false = le-ltb _ _ (omega (arith, length-append text rest)) in
    rw (long, take_at text rest n len, drop_at text rest n len) refl

some_fault : (n : ℕ) (bytes : List ℕ) (w : WireFault) → some_at n bytes ≡ Err w → (Truncated ≡ w) × (length bytes < n)
unfolding some_at
some_fault n bytes w e =
    elim (chosen (ltb (length bytes) n) (Err Truncated) (Ok (take n bytes, drop n bytes)) (Err w) e) [
      | inl h ↦ (err_is {A = List ℕ × List ℕ} Truncated w h.1, ltb-true _ _ h.0)
      | inr h ↦ ok_no_err (take n bytes, drop n bytes) w h.1
    ]

some_fault_again : (n : ℕ) (bytes : List ℕ) → length bytes < n → some_at n bytes ≡ Err Truncated
unfolding some_at
some_fault_again n bytes lt = let short : ltb (length bytes) n ≡ true = lt-ltb _ _ lt in rw short refl

-- ---- values

pub record TakesValue (kind : ℕ) (bytes : List ℕ) (shape : Shape) (rest : List ℕ) : Type 0 where
  pub text : List ℕ
  pub is : IsValue text shape
  pub kind_is : wire_type shape ≡ kind
  pub parts : bytes ≡ text ++ rest

abbrev as_varint : ℕ × List ℕ → Result (Shape × List ℕ) WireFault
as_varint n = Ok (Varint n.0, n.1)

abbrev as_eight : List ℕ × List ℕ → Result (Shape × List ℕ) WireFault
as_eight x = Ok (Eight x.0, x.1)

abbrev as_bytes : List ℕ × List ℕ → Result (Shape × List ℕ) WireFault
as_bytes x = Ok (Bytes x.0, x.1)

abbrev as_four : List ℕ × List ℕ → Result (Shape × List ℕ) WireFault
as_four x = Ok (Four x.0, x.1)

abbrev said_bytes : ℕ × List ℕ → Result (Shape × List ℕ) WireFault
said_bytes n = some_at n.0 n.1 >>= as_bytes

-- the value of a wire type, one name for each
abbrev value_0 : List ℕ → Result (Shape × List ℕ) WireFault
value_0 bytes = varint_at bytes >>= as_varint

abbrev value_1 : List ℕ → Result (Shape × List ℕ) WireFault
value_1 bytes = some_at 8 bytes >>= as_eight

abbrev value_2 : List ℕ → Result (Shape × List ℕ) WireFault
value_2 bytes = varint_at bytes >>= said_bytes

abbrev value_5 : List ℕ → Result (Shape × List ℕ) WireFault
value_5 bytes = some_at 4 bytes >>= as_four

-- a fact of a table with an answer for each wire type
abbrev kind_table : {X : Type 0} → ℕ → X → X → X → X → X → X → X
kind_table kind a b c d e f = cond (eqb kind 0) a (cond (eqb kind 1) b (cond (eqb kind 2) c (cond (eqb kind 3) d (cond (eqb kind 4) d (cond (eqb kind 5) e f)))))

by_kind : {X : Type 0} (kind : ℕ) (a b c d e f z : X) (P : Type 0) → kind_table kind a b c d e f ≡ z → (kind ≡ 0 → a ≡ z → P) → (kind ≡ 1 → b ≡ z → P) → (kind ≡ 2 → c ≡ z → P) → ((kind ≡ 3) ⊎ (kind ≡ 4) → d ≡ z → P) → (kind ≡ 5 → e ≡ z → P) → (5 < kind → f ≡ z → P) → P
by_kind kind a b c d e f z P h p0 p1 p2 p3 p5 p6 =
    elim (chosen (eqb kind 0) a (cond (eqb kind 1) b (cond (eqb kind 2) c (cond (eqb kind 3) d (cond (eqb kind 4) d (cond (eqb kind 5) e f))))) z h) [
      | inl k ↦ p0 (eqb-true _ _ k.0) k.1
      | inr k ↦ elim (chosen (eqb kind 1) b (cond (eqb kind 2) c (cond (eqb kind 3) d (cond (eqb kind 4) d (cond (eqb kind 5) e f)))) z k.1) [
        | inl l ↦ p1 (eqb-true _ _ l.0) l.1
        | inr l ↦ elim (chosen (eqb kind 2) c (cond (eqb kind 3) d (cond (eqb kind 4) d (cond (eqb kind 5) e f))) z l.1) [
          | inl m ↦ p2 (eqb-true _ _ m.0) m.1
          | inr m ↦ elim (chosen (eqb kind 3) d (cond (eqb kind 4) d (cond (eqb kind 5) e f)) z m.1) [
            | inl n ↦ p3 (inl (eqb-true _ _ n.0)) n.1
            | inr n ↦ elim (chosen (eqb kind 4) d (cond (eqb kind 5) e f) z n.1) [
              | inl o ↦ p3 (inr (eqb-true _ _ o.0)) o.1
              | inr o ↦ elim (chosen (eqb kind 5) e f z o.1) [
                | inl q ↦ p5 (eqb-true _ _ q.0) q.1
                | inr q ↦
                    let n0 : kind ≢ 0 = eqb-false _ _ k.0 in
                    let n1 : kind ≢ 1 = eqb-false _ _ l.0 in
                    let n2 : kind ≢ 2 = eqb-false _ _ m.0 in
                    let n3 : kind ≢ 3 = eqb-false _ _ n.0 in
                    let n4 : kind ≢ 4 = eqb-false _ _ o.0 in
                    let n5 : kind ≢ 5 = eqb-false _ _ q.0 in
                    p6 (omega arith) q.1
              ]
            ]
          ]
        ]
      ]
    ]

abbrev value_table : ℕ → List ℕ → Result (Shape × List ℕ) WireFault
value_table kind bytes = kind_table kind (value_0 bytes) (value_1 bytes) (value_2 bytes) (Err Group) (value_5 bytes) (Err WireType)

value_at-table : (kind : ℕ) (bytes : List ℕ) → value_at kind bytes ≡ value_table kind bytes
unfolding value_at
value_at-table kind bytes = refl

value_take : (kind : ℕ) (bytes : List ℕ) (shape : Shape) (rest : List ℕ) → value_at kind bytes ≡ Ok (shape, rest) → TakesValue kind bytes shape rest
value_take kind bytes shape rest e =
    let P : Shape × List ℕ → Type 0 = λ p. TakesValue kind bytes p.0 p.1 in
    by_kind kind (value_0 bytes) (value_1 bytes) (value_2 bytes) (Err Group) (value_5 bytes) (Err WireType) (Ok (shape, rest)) (TakesValue kind bytes shape rest) (sym (value_at-table kind bytes) ∙ e)
    (λ k h.
    let r = bind_ok (varint_at bytes) as_varint (shape, rest) h in
    let t = varint_take bytes r.0.0 r.0.1 r.1 in
    subst P (ok_is (Varint r.0.0, r.0.1) (shape, rest) r.2) (record { text = t.text; is = t.is; kind_is = sym k; parts = t.parts }))
    (λ k h.
    let r = bind_ok (some_at 8 bytes) as_eight (shape, rest) h in
    let t = some_take 8 bytes r.0.0 r.0.1 r.1 in
    subst P (ok_is (Eight r.0.0, r.0.1) (shape, rest) r.2) (record { text = r.0.0; is = (t.len, refl); kind_is = sym k; parts = t.parts }))
    (λ k h.
    let r = bind_ok (varint_at bytes) said_bytes (shape, rest) h in
    let s = bind_ok (some_at r.0.0 r.0.1) as_bytes (shape, rest) r.2 in
    let t = varint_take bytes r.0.0 r.0.1 r.1 in
    let u = some_take r.0.0 r.0.1 s.0.0 s.0.1 s.1 in
    let size : IsVarint t.text (length s.0.0) = subst (λ (n : ℕ). IsVarint t.text n) (sym u.len) t.is in
    subst P (ok_is (Bytes s.0.0, s.0.1) (shape, rest) s.2) (record {
      text = t.text ++ s.0.0;
      is = (t.text, size, refl);
      kind_is = sym k;
      parts = t.parts ∙ ap (λ (x : List ℕ). t.text ++ x) u.parts ∙ sym (append_assoc t.text s.0.0 s.0.1);
    }))
    (λ k h. err_no_ok Group (shape, rest) h)
    (λ k h.
    let r = bind_ok (some_at 4 bytes) as_four (shape, rest) h in
    let t = some_take 4 bytes r.0.0 r.0.1 r.1 in
    subst P (ok_is (Four r.0.0, r.0.1) (shape, rest) r.2) (record { text = r.0.0; is = (t.len, refl); kind_is = sym k; parts = t.parts }))
    (λ k h. err_no_ok WireType (shape, rest) h)

value_again : (text rest : List ℕ) (shape : Shape) → IsValue text shape → value_at (wire_type shape) (text ++ rest) ≡ Ok (shape, rest)
value_again text rest (Varint n) h = value_at-table 0 (text ++ rest) ∙ rw (varint_again text rest n h) refl
value_again text rest (Eight bytes) h = value_at-table 1 (text ++ rest) ∙ rw (h.1, some_again 8 bytes rest h.0) refl
value_again text rest (Bytes bytes) h =
    let regrouped : text ++ rest ≡ h.0 ++ (bytes ++ rest) = ap (λ (x : List ℕ). x ++ rest) h.2 ∙ append_assoc h.0 bytes rest in
    value_at-table 2 (text ++ rest) ∙ rw (regrouped, varint_again h.0 (bytes ++ rest) (length bytes) h.1, some_again (length bytes) bytes rest refl) refl
value_again text rest (Four bytes) h = value_at-table 5 (text ++ rest) ∙ rw (h.1, some_again 4 bytes rest h.0) refl

-- what is wrong where a value of this wire type is to stand
abbrev IsValueFault : ℕ → List ℕ → WireFault → Type 0
IsValueFault kind rest FieldZero = ⊥
IsValueFault kind rest Group = (kind ≡ 3) ⊎ (kind ≡ 4)
IsValueFault kind rest WireType = (kind ≡ 6) ⊎ (kind ≡ 7)
IsValueFault kind rest Truncated = IsValueCut kind rest
IsValueFault kind rest VarintTooLong = ((kind ≡ 0) ⊎ (kind ≡ 2)) × IsVarintFault rest VarintTooLong

IsValueFault-varint : (kind : ℕ) (rest : List ℕ) (w : WireFault) → kind ≡ 0 → IsVarintFault rest w → IsValueFault kind rest w
IsValueFault-varint kind rest Truncated k h = inl (k, h)
IsValueFault-varint kind rest VarintTooLong k h = (inl k, h)
IsValueFault-varint kind rest Group k h = absurd h
IsValueFault-varint kind rest FieldZero k h = absurd h
IsValueFault-varint kind rest WireType k h = absurd h

IsValueFault-size : (kind : ℕ) (rest : List ℕ) (w : WireFault) → kind ≡ 2 → IsVarintFault rest w → IsValueFault kind rest w
IsValueFault-size kind rest Truncated k h = inr (inr (inl (k, inl h)))
IsValueFault-size kind rest VarintTooLong k h = (inr k, h)
IsValueFault-size kind rest Group k h = absurd h
IsValueFault-size kind rest FieldZero k h = absurd h
IsValueFault-size kind rest WireType k h = absurd h

value_fault : (kind : ℕ) (bytes : List ℕ) (w : WireFault) → kind < 8 → value_at kind bytes ≡ Err w → IsValueFault kind bytes w
value_fault kind bytes w lt e =
    let P : WireFault → Type 0 = λ v. IsValueFault kind bytes v in
    by_kind kind (value_0 bytes) (value_1 bytes) (value_2 bytes) (Err Group) (value_5 bytes) (Err WireType) (Err w) (IsValueFault kind bytes w) (sym (value_at-table kind bytes) ∙ e)
    (λ k h.
    elim (bind_err (varint_at bytes) as_varint w h) [
      | inl r ↦ IsValueFault-varint kind bytes w k (varint_fault bytes w r)
      | inr r ↦ ok_no_err (Varint r.0.0, r.0.1) w r.2
    ])
    (λ k h.
    elim (bind_err (some_at 8 bytes) as_eight w h) [
      | inl r ↦ let f = some_fault 8 bytes w r in subst P f.0 (inr (inl (k, f.1)))
      | inr r ↦ ok_no_err (Eight r.0.0, r.0.1) w r.2
    ])
    (λ k h.
    elim (bind_err (varint_at bytes) said_bytes w h) [
      | inl r ↦ IsValueFault-size kind bytes w k (varint_fault bytes w r)
      | inr r ↦
          elim (bind_err (some_at r.0.0 r.0.1) as_bytes w r.2) [
            | inl s ↦
                let f = some_fault r.0.0 r.0.1 w s in
                let t = varint_take bytes r.0.0 r.0.1 r.1 in
                subst P f.0 (inr (inr (inl (k, inr (t.text, r.0.1, r.0.0, t.is, t.parts, f.1)))))
            | inr s ↦ ok_no_err (Bytes s.0.0, s.0.1) w s.2
          ]
    ])
    (λ k h. subst P (err_is {A = Shape × List ℕ} Group w h) k)
    (λ k h.
    elim (bind_err (some_at 4 bytes) as_four w h) [
      | inl r ↦ let f = some_fault 4 bytes w r in subst P f.0 (inr (inr (inr (k, f.1))))
      | inr r ↦ ok_no_err (Four r.0.0, r.0.1) w r.2
    ])
    (λ k h. subst P (err_is {A = Shape × List ℕ} WireType w h) (six_or_seven kind lt k))
  where
    six_or_seven : (kind : ℕ) → kind < 8 → 5 < kind → (kind ≡ 6) ⊎ (kind ≡ 7)
    six_or_seven kind lt gt =
        elim (cases_lt kind 7) [
          | inl l ↦ inl (omega arith)
          | inr l ↦ inr (omega arith)
        ]

-- the answer at a wire type that is known
at_kind : (kind k : ℕ) (bytes : List ℕ) (r : Result (Shape × List ℕ) WireFault) → kind ≡ k → value_table k bytes ≡ r → value_at kind bytes ≡ r
at_kind kind k bytes r e h = ap (λ (n : ℕ). value_at n bytes) e ∙ value_at-table k bytes ∙ h

value_fault_again : (kind : ℕ) (bytes : List ℕ) (w : WireFault) → IsValueFault kind bytes w → value_at kind bytes ≡ Err w
value_fault_again kind bytes FieldZero h = absurd h
value_fault_again kind bytes Group h =
    elim h [
      | inl k ↦ at_kind kind 3 bytes (Err Group) k refl
      | inr k ↦ at_kind kind 4 bytes (Err Group) k refl
    ]
value_fault_again kind bytes WireType h =
    elim h [
      | inl k ↦ at_kind kind 6 bytes (Err WireType) k refl
      | inr k ↦ at_kind kind 7 bytes (Err WireType) k refl
    ]
value_fault_again kind bytes Truncated h =
    elim h [
      | inl p ↦ at_kind kind 0 bytes (Err Truncated) p.0 (rw (varint_fault_again bytes Truncated p.1) refl)
      | inr q ↦ elim q [
        | inl p ↦ at_kind kind 1 bytes (Err Truncated) p.0 (rw (some_fault_again 8 bytes p.1) refl)
        | inr r ↦ elim r [
          | inl p ↦ at_kind kind 2 bytes (Err Truncated) p.0 (elim p.1 [
            | inl v ↦ rw (varint_fault_again bytes Truncated v) refl
            | inr s ↦ rw (s.4, varint_again s.0 s.1 s.2 s.3, some_fault_again s.2 s.1 s.5) refl
          ])
          | inr p ↦ at_kind kind 5 bytes (Err Truncated) p.0 (rw (some_fault_again 4 bytes p.1) refl)
        ]
      ]
    ]
value_fault_again kind bytes VarintTooLong h =
    elim h.0 [
      | inl k ↦ at_kind kind 0 bytes (Err VarintTooLong) k (rw (varint_fault_again bytes VarintTooLong h.1) refl)
      | inr k ↦ at_kind kind 2 bytes (Err VarintTooLong) k (rw (varint_fault_again bytes VarintTooLong h.1) refl)
    ]

-- ---- fields

pub record TakesField (bytes : List ℕ) (f : Entry) (rest : List ℕ) : Type 0 where
  pub text : List ℕ
  pub is : IsField text f
  pub parts : bytes ≡ text ++ rest

abbrev as_field : ℕ → Shape × List ℕ → Result (Entry × List ℕ) WireFault
as_field tag value = Ok (record { number = tag / 8; shape = value.0 }, value.1)

abbrev behind_tag : ℕ × List ℕ → Result (Entry × List ℕ) WireFault
behind_tag tag = cond (eqb (tag.0 / 8) 0) (Err FieldZero) (value_at (tag.0 % 8) tag.1 >>= as_field tag.0)

field_at-steps : (bytes : List ℕ) → field_at bytes ≡ (varint_at bytes >>= behind_tag)
unfolding field_at
field_at-steps bytes = refl

pub field_take : (bytes : List ℕ) (x : Entry × List ℕ) → field_at bytes ≡ Ok x → TakesField bytes x.0 x.1
field_take bytes x e =
    let r = bind_ok (varint_at bytes) behind_tag x (sym (field_at-steps bytes) ∙ e) in
    let t = varint_take bytes r.0.0 r.0.1 r.1 in
    elim (chosen (eqb (r.0.0 / 8) 0) (Err FieldZero) (value_at (r.0.0 % 8) r.0.1 >>= as_field r.0.0) (Ok x) r.2) [
      | inl h ↦ err_no_ok FieldZero x h.1
      | inr h ↦
          let s = bind_ok (value_at (r.0.0 % 8) r.0.1) (as_field r.0.0) x h.1 in
          let v = value_take (r.0.0 % 8) r.0.1 s.0.0 s.0.1 s.1 in
          let ne : r.0.0 / 8 ≢ 0 = eqb-false _ _ h.0 in
          let tag_is : r.0.0 ≡ r.0.0 / 8 * 8 + wire_type s.0.0 = omega (arith, v.kind_is) in
          let tag : IsVarint t.text (r.0.0 / 8 * 8 + wire_type s.0.0) = subst (λ (n : ℕ). IsVarint t.text n) tag_is t.is in
          subst (λ (p : Entry × List ℕ). TakesField bytes p.0 p.1) (ok_is (record { number = r.0.0 / 8; shape = s.0.0 }, s.0.1) x s.2) (record {
            text = t.text ++ v.text;
            is = (omega (arith, ne), t.text, v.text, tag, v.is, refl);
            parts = t.parts ∙ ap (λ (y : List ℕ). t.text ++ y) v.parts ∙ sym (append_assoc t.text v.text s.0.1);
          })
    ]

wire_type-below : (shape : Shape) → wire_type shape < 8
wire_type-below (Varint n) = omega arith
wire_type-below (Eight bytes) = omega arith
wire_type-below (Bytes bytes) = omega arith
wire_type-below (Four bytes) = omega arith

behind_again : (tag number : ℕ) (bytes rest : List ℕ) (shape : Shape) → tag / 8 ≡ number → tag % 8 ≡ wire_type shape → 0 < number → value_at (wire_type shape) bytes ≡ Ok (shape, rest) → behind_tag (tag, bytes) ≡ Ok (record { number = number; shape = shape }, rest)
behind_again tag number bytes rest shape number_is kind_is positive v =
    let ne : tag / 8 ≢ 0 = omega (arith, number_is, positive) in
    let some_number : eqb (tag / 8) 0 ≡ false = ne_eqb _ _ ne in
    rw (some_number, kind_is, v) (ap (λ (m : ℕ). done (record { number = m; shape = shape }, rest)) number_is)

pub field_again : (text rest : List ℕ) (f : Entry) → IsField text f → field_at (text ++ rest) ≡ Ok (f, rest)
field_again text rest f h =
    let below = wire_type-below f.shape in
    let regrouped : text ++ rest ≡ h.1 ++ (h.2 ++ rest) = ap (λ (x : List ℕ). x ++ rest) h.5 ∙ append_assoc h.1 h.2 rest in
    let number_is : (f.number * 8 + wire_type f.shape) / 8 ≡ f.number = omega arith in
    let kind_is : (f.number * 8 + wire_type f.shape) % 8 ≡ wire_type f.shape = omega arith in
    ap field_at regrouped ∙ field_at-steps (h.1 ++ (h.2 ++ rest)) ∙ rw (varint_again h.1 (h.2 ++ rest) (f.number * 8 + wire_type f.shape) h.3) (behind_again (f.number * 8 + wire_type f.shape) f.number (h.2 ++ rest) rest f.shape number_is kind_is h.0 (value_again h.2 rest f.shape h.4))

pub IsField-length : (text : List ℕ) (f : Entry) → IsField text f → 0 < length text
IsField-length text f h = rw h.5 (omega (arith, length-append h.1 h.2, IsVarint-length h.1 _ h.3))

to_tag_fault : (tag : ℕ) (rest : List ℕ) (w : WireFault) → 0 < tag / 8 → IsValueFault (tag % 8) rest w → IsTagFault tag rest w
to_tag_fault tag rest FieldZero p h = absurd h
to_tag_fault tag rest Group p h = (p, h)
to_tag_fault tag rest WireType p h = (p, h)
to_tag_fault tag rest Truncated p h = (p, h)
to_tag_fault tag rest VarintTooLong p h = (p, h.0, h.1)

pub field_fault : (bytes : List ℕ) (w : WireFault) → field_at bytes ≡ Err w → IsFieldFault bytes w
field_fault bytes w e =
    elim (bind_err (varint_at bytes) behind_tag w (sym (field_at-steps bytes) ∙ e)) [
      | inl r ↦ inl (varint_fault bytes w r)
      | inr r ↦
          let t = varint_take bytes r.0.0 r.0.1 r.1 in
          elim (chosen (eqb (r.0.0 / 8) 0) (Err FieldZero) (value_at (r.0.0 % 8) r.0.1 >>= as_field r.0.0) (Err w) r.2) [
            | inl h ↦ inr (t.text, r.0.1, r.0.0, t.is, t.parts, subst (λ (v : WireFault). IsTagFault r.0.0 r.0.1 v) (err_is {A = Entry × List ℕ} FieldZero w h.1) (eqb-true _ _ h.0))
            | inr h ↦
                let ne : r.0.0 / 8 ≢ 0 = eqb-false _ _ h.0 in
                elim (bind_err (value_at (r.0.0 % 8) r.0.1) (as_field r.0.0) w h.1) [
                  | inl s ↦ inr (t.text, r.0.1, r.0.0, t.is, t.parts, to_tag_fault r.0.0 r.0.1 w (omega (arith, ne)) (value_fault (r.0.0 % 8) r.0.1 w (omega arith) s))
                  | inr s ↦ ok_no_err (record { number = r.0.0 / 8; shape = s.0.0 }, s.0.1) w s.2
                ]
          ]
    ]

behind_fault : (tag : ℕ) (rest : List ℕ) (w : WireFault) → 0 < tag / 8 → IsValueFault (tag % 8) rest w → behind_tag (tag, rest) ≡ Err w
behind_fault tag rest w p h =
    let some_number : eqb (tag / 8) 0 ≡ false = ne_eqb _ _ (omega (arith, p)) in
    rw (some_number, value_fault_again (tag % 8) rest w h) refl

tag_fault_again : (tag : ℕ) (rest : List ℕ) (w : WireFault) → IsTagFault tag rest w → behind_tag (tag, rest) ≡ Err w
tag_fault_again tag rest FieldZero h = let zero_number : eqb (tag / 8) 0 ≡ true = eq-eqb _ _ h in rw zero_number refl
tag_fault_again tag rest Group h = behind_fault tag rest Group h.0 h.1
tag_fault_again tag rest WireType h = behind_fault tag rest WireType h.0 h.1
tag_fault_again tag rest Truncated h = behind_fault tag rest Truncated h.0 h.1
tag_fault_again tag rest VarintTooLong h = behind_fault tag rest VarintTooLong h.0 (h.1, h.2)

pub field_fault_again : (bytes : List ℕ) (w : WireFault) → IsFieldFault bytes w → field_at bytes ≡ Err w
field_fault_again bytes w h =
    elim h [
      | inl v ↦ field_at-steps bytes ∙ rw (varint_fault_again bytes w v) refl
      | inr s ↦ ap field_at s.4 ∙ field_at-steps (s.0 ++ s.1) ∙ rw (varint_again s.0 s.1 s.2 s.3) (tag_fault_again s.2 s.1 w s.5)
    ]
