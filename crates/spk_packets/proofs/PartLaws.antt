-- What a reader of a part took spells what it gave, and what spells a value is read as it, whatever follows.
use Rattle.std.proofs.Common.{◌≡◌, ℕ, zero, suc, ◌+◌, ◌*◌, ◌<◌, ◌≤◌, eqb, ltb, Bool, true, false, not, cond, List, [], ◌∷◌, ◌++◌, length, take, drop, Result, Ok, Err, refl, sym, ap, subst, ◌∙◌, append_assoc, arith}
use Rattle.std.specs.Str.{is_utf8}
use Rattle.std.proofs.lemmas.Bool.{ltb-false, le-ltb}
use Rattle.std.proofs.lemmas.List.{take_at, drop_at, take-append-drop, length-append, length-take}
use Rattle.std.proofs.lemmas.Str.{IsUtf8-from_is_utf8, is_utf8-from_IsUtf8}
use Rattle.spk_packets.specs.declared.fault.PacketFault.{PacketFault}
use Rattle.spk_packets.specs.declared.fault.PacketFault.TheVariants.{BadText, BadBody}
use Rattle.spk_packets.specs.Grammar.{IsNumber, IsId, IsCounted, IsText, IsRequest, AreEach, has_zero}
use Rattle.spk_packets.specs.Reading.{◌>>=◌, number_at, id_at, counted_at, text_at, qos_at, request_at, each_at, each_within}
use Rattle.spk_packets.proofs.Faults.{bind_ok, guard_ok, ok_is}
use Rattle.spk_packets.proofs.Each.{Shortens, each_at-cons, each_at-nil}

pub number_takes : (bytes : List ℕ) (x : ℕ × List ℕ) → number_at bytes ≡ Ok x → (text : List ℕ) × IsNumber text x.0 × (bytes ≡ text ++ x.1)
unfolding number_at
number_takes [] x e = absurd cc
number_takes (b ∷ []) x e = absurd cc
number_takes (high ∷ low ∷ rest) x e =
    subst (λ (y : ℕ × List ℕ). (text : List ℕ) × IsNumber text y.0 × (high ∷ low ∷ rest ≡ text ++ y.1)) (ok_is (256 * high + low, rest) x e)
    (high ∷ low ∷ [], (high, low, refl, refl), refl)

pub number_again : (text : List ℕ) (n : ℕ) (rest : List ℕ) → IsNumber text n → number_at (text ++ rest) ≡ Ok (n, rest)
unfolding number_at
number_again text n rest is = rw (is.2, is.3) refl

not_false : (b : Bool) → not b ≡ false → b ≡ true
not_false true e = refl
not_false false e = absurd cc

-- what `counted_at` does behind the number
abbrev counted_at-after : ℕ → List ℕ → Result (List ℕ × List ℕ) PacketFault
counted_at-after n rest = cond (ltb (length rest) n) (Err BadBody) (Ok (take n rest, drop n rest))

above_zero : (n : ℕ) → eqb n 0 ≡ false → 0 < n
above_zero zero e = absurd cc
above_zero (suc n) e = omega arith

pub not_zero : (n : ℕ) → 0 < n → eqb n 0 ≡ false
not_zero zero h = absurd (omega arith)
not_zero (suc n) h = grind arith

pub id_takes : (bytes : List ℕ) (x : ℕ × List ℕ) → id_at bytes ≡ Ok x → (text : List ℕ) × IsId text x.0 × (bytes ≡ text ++ x.1)
unfolding id_at
id_takes bytes x e =
    let a = bind_ok (number_at bytes) (λ id. cond (eqb id.0 0) (Err BadBody) (Ok id)) x e in
    let g = guard_ok (eqb a.0.0 0) BadBody (Ok a.0) x a.2 in
    let t = number_takes bytes a.0 a.1 in
    subst (λ (y : ℕ × List ℕ). (text : List ℕ) × IsId text y.0 × (bytes ≡ text ++ y.1)) (ok_is a.0 x g.1) (t.0, (t.1, above_zero a.0.0 g.0), t.2)

pub id_again : (text : List ℕ) (n : ℕ) (rest : List ℕ) → IsId text n → id_at (text ++ rest) ≡ Ok (n, rest)
unfolding id_at
id_again text n rest is = rw (number_again text n rest is.0, not_zero n is.1) refl

pub counted_takes : (bytes : List ℕ) (x : List ℕ × List ℕ) → counted_at bytes ≡ Ok x → (text : List ℕ) × IsCounted text x.0 × (bytes ≡ text ++ x.1)
unfolding counted_at
counted_takes bytes x e =
    let a = bind_ok (number_at bytes) (λ n. cond (ltb (length n.1) n.0) (Err BadBody) (Ok (take n.0 n.1, drop n.0 n.1))) x e in
    let n = a.0.0 in
    let rest = a.0.1 in
    let g = guard_ok (ltb (length rest) n) BadBody (Ok (take n rest, drop n rest)) x a.2 in
    let t = number_takes bytes a.0 a.1 in
    let long : n ≤ length rest = ltb-false _ _ g.0 in
    let len : n ≡ length (take n rest) = omega (arith, length-take n rest) in
    let number : IsNumber t.0 (length (take n rest)) = subst (λ (k : ℕ). IsNumber t.0 k) len t.1 in
    let parts : bytes ≡ (t.0 ++ take n rest) ++ drop n rest = t.2 ∙ ap (λ (r : List ℕ). t.0 ++ r) (sym (take-append-drop n rest)) ∙ sym (append_assoc t.0 (take n rest) (drop n rest)) in
    subst (λ (y : List ℕ × List ℕ). (text : List ℕ) × IsCounted text y.0 × (bytes ≡ text ++ y.1)) (ok_is (take n rest, drop n rest) x g.1)
    (t.0 ++ take n rest, (t.0, number, refl), parts)

counted_body : (bytes rest : List ℕ) → counted_at-after (length bytes) (bytes ++ rest) ≡ Ok (bytes, rest)
counted_body bytes rest =
    let long : ltb (length (bytes ++ rest)) (length bytes) ≡ false = le-ltb _ _ (omega (arith, length-append bytes rest)) in
    rw (long, take_at bytes rest (length bytes) refl, drop_at bytes rest (length bytes) refl) refl

pub counted_again : (text bytes rest : List ℕ) → IsCounted text bytes → counted_at (text ++ rest) ≡ Ok (bytes, rest)
unfolding counted_at
counted_again text bytes rest is =
    let regrouped : text ++ rest ≡ is.0 ++ (bytes ++ rest) = ap (λ (t : List ℕ). t ++ rest) is.2 ∙ append_assoc is.0 bytes rest in
    ap counted_at regrouped ∙ ap (λ (r : Result (ℕ × List ℕ) PacketFault). r >>= λ n. counted_at-after n.0 n.1) (number_again is.0 (length bytes) (bytes ++ rest) is.1) ∙ counted_body bytes rest

pub text_takes : (bytes : List ℕ) (x : List ℕ × List ℕ) → text_at bytes ≡ Ok x → (text : List ℕ) × IsText text x.0 × (bytes ≡ text ++ x.1)
unfolding text_at
text_takes bytes x e =
    let a = bind_ok (counted_at bytes) (λ text. cond (not (is_utf8 text.0)) (Err BadText) (cond (has_zero text.0) (Err BadText) (Ok text))) x e in
    let g = guard_ok (not (is_utf8 a.0.0)) BadText (cond (has_zero a.0.0) (Err BadText) (Ok a.0)) x a.2 in
    let h = guard_ok (has_zero a.0.0) BadText (Ok a.0) x g.1 in
    let t = counted_takes bytes a.0 a.1 in
    subst (λ (y : List ℕ × List ℕ). (text : List ℕ) × IsText text y.0 × (bytes ≡ text ++ y.1)) (ok_is a.0 x h.1)
    (t.0, (t.1, IsUtf8-from_is_utf8 a.0.0 (not_false (is_utf8 a.0.0) g.0), h.0), t.2)

pub text_again : (text bytes rest : List ℕ) → IsText text bytes → text_at (text ++ rest) ≡ Ok (bytes, rest)
unfolding text_at
text_again text bytes rest is = rw (counted_again text bytes rest is.0, is_utf8-from_IsUtf8 bytes is.1, is.2) refl

qos_takes : (filter bytes : List ℕ) (x : (List ℕ × ℕ) × List ℕ) → qos_at filter bytes ≡ Ok x → (x.0.0 ≡ filter) × (x.0.1 ≤ 2) × (bytes ≡ x.0.1 ∷ x.1)
unfolding qos_at
qos_takes filter [] x e = absurd cc
qos_takes filter (qos ∷ rest) x e =
    let g = guard_ok (ltb 2 qos) BadBody (Ok ((filter, qos), rest)) x e in
    subst (λ (y : (List ℕ × ℕ) × List ℕ). (y.0.0 ≡ filter) × (y.0.1 ≤ 2) × (qos ∷ rest ≡ y.0.1 ∷ y.1)) (ok_is ((filter, qos), rest) x g.1) (refl, ltb-false _ _ g.0, refl)

pub request_takes : (bytes : List ℕ) (x : (List ℕ × ℕ) × List ℕ) → request_at bytes ≡ Ok x → (text : List ℕ) × IsRequest text x.0 × (bytes ≡ text ++ x.1)
unfolding request_at
request_takes bytes x e =
    let a = bind_ok (text_at bytes) (λ filter. qos_at filter.0 filter.1) x e in
    let t = text_takes bytes a.0 a.1 in
    let q = qos_takes a.0.0 a.0.1 x a.2 in
    let parts : bytes ≡ (t.0 ++ x.0.1 ∷ []) ++ x.1 = t.2 ∙ ap (λ (r : List ℕ). t.0 ++ r) q.2 ∙ sym (append_assoc t.0 (x.0.1 ∷ []) x.1) in
    (t.0 ++ x.0.1 ∷ [], (t.0, subst (λ (f : List ℕ). IsText t.0 f) (sym q.0) t.1, q.1, refl), parts)

pub request_again : (text : List ℕ) (v : List ℕ × ℕ) (rest : List ℕ) → IsRequest text v → request_at (text ++ rest) ≡ Ok (v, rest)
unfolding request_at qos_at
request_again text v rest is =
    let regrouped : text ++ rest ≡ is.0 ++ (v.1 ∷ rest) = ap (λ (t : List ℕ). t ++ rest) is.3 ∙ append_assoc is.0 (v.1 ∷ []) rest in
    let low : ltb 2 v.1 ≡ false = le-ltb _ _ is.2 in
    ap request_at regrouped ∙ rw (text_again is.0 v.0 (v.1 ∷ rest) is.1, low) refl

module _ {X : Type 0} (at : List ℕ → Result (X × List ℕ) PacketFault) (shortens : Shortens at) (Is : List ℕ → X → Type 0) where
  each_within_takes : ((bytes : List ℕ) (x : X × List ℕ) → at bytes ≡ Ok x → (text : List ℕ) × Is text x.0 × (bytes ≡ text ++ x.1))
      → (n : ℕ) (bytes : List ℕ) (xs : List X) → length bytes ≤ n → each_within at n bytes ≡ Ok xs → AreEach Is bytes xs
  unfolding each_within
  each_within_takes takes zero [] xs le e = subst (λ (ys : List X). AreEach Is [] ys) (ok_is [] xs e) refl
  each_within_takes takes zero (b ∷ bs) xs le e = absurd (omega arith)
  each_within_takes takes (suc n) [] xs le e = subst (λ (ys : List X). AreEach Is [] ys) (ok_is [] xs e) refl
  each_within_takes takes (suc n) (b ∷ bs) xs le e =
      let a = bind_ok (at (b ∷ bs)) (λ first. each_within at n first.1 >>= λ others. Ok (first.0 ∷ others)) xs e in
      let o = bind_ok (each_within at n a.0.1) (λ others. Ok (a.0.0 ∷ others)) xs a.2 in
      let t = takes (b ∷ bs) a.0 a.1 in
      let less : length a.0.1 < length (b ∷ bs) = shortens (b ∷ bs) a.0 a.1 in
      let rest = each_within_takes takes n a.0.1 o.0 (omega arith) o.1 in
      subst (λ (ys : List X). AreEach Is (b ∷ bs) ys) (ok_is (a.0.0 ∷ o.0) xs o.2) (t.0, a.0.1, t.1, rest, t.2)

  pub each_takes : ((bytes : List ℕ) (x : X × List ℕ) → at bytes ≡ Ok x → (text : List ℕ) × Is text x.0 × (bytes ≡ text ++ x.1))
      → (bytes : List ℕ) (xs : List X) → each_at at bytes ≡ Ok xs → AreEach Is bytes xs
  each_takes takes bytes xs e = each_within_takes takes (length bytes) bytes xs (omega arith) e

  some_each : (bytes : List ℕ) (x : X) (rest : List ℕ) → at bytes ≡ Ok (x, rest) → each_at at bytes ≡ (each_at at rest >>= λ others. Ok (x ∷ others))
  some_each [] x rest e = let less : length rest < 0 = shortens [] (x, rest) e in absurd (omega arith)
  some_each (b ∷ bs) x rest e = each_at-cons at shortens b bs ∙ ap (λ (r : Result (X × List ℕ) PacketFault). r >>= λ first. each_at at first.1 >>= λ others. Ok (first.0 ∷ others)) e

  pub each_again : ((text : List ℕ) (x : X) (rest : List ℕ) → Is text x → at (text ++ rest) ≡ Ok (x, rest))
      → (text : List ℕ) (xs : List X) → AreEach Is text xs → each_at at text ≡ Ok xs
  each_again again text [] is = ap (each_at at) is ∙ each_at-nil at shortens
  each_again again text (x ∷ xs) is =
      ap (each_at at) is.4 ∙ some_each (is.0 ++ is.1) x is.1 (again is.0 x is.1 is.2)
      ∙ ap (λ (r : Result (List X) PacketFault). r >>= λ others. Ok (x ∷ others)) (each_again again is.1 xs is.3)
