-- The remaining length, and what stands behind it.
use Rattle.std.proofs.Common.{◌≡◌, ◌∙◌, sym, ap, refl, ℕ, ◌+◌, ◌-◌, ◌*◌, ◌/◌, ◌%◌, ◌<◌, ◌≤◌, Bool, true, false, cond, nat_lt, List, [], ◌∷◌, ◌++◌, length, arith}
use Rattle.std.proofs.lemmas.Bool.{lt-ltb, ltb-false}
use Rattle.spk_packets.specs.Grammar.{AreSevens, IsLength}
use Rattle.spk_packets.specs.Spelling.{shortest}
use Rattle.spk_login.specs.Bytes.{after_length}

pub not_less : (a b : ℕ) → b ≤ a → nat_lt a b ≡ false
not_less a b le = go (nat_lt a b) refl
  where
    go : (x : Bool) → nat_lt a b ≡ x → nat_lt a b ≡ false
    go false e = e
    go true e = let lt = Rattle.std.proofs.lemmas.Bool.ltb-true a b e in absurd (omega (arith, lt, le))

pub one : (n : ℕ) → n < 128 → shortest n ≡ n ∷ []
unfolding shortest
one n small = rw (lt-ltb n 128 small) refl

pub two : (n : ℕ) → 128 ≤ n → n < 16384 → shortest n ≡ (n % 128 + 128) ∷ n / 128 ∷ []
unfolding shortest
two n more small = rw (not_less n 128 more, lt-ltb n 16384 small) refl

pub three : (n : ℕ) → 16384 ≤ n → n < 2097152 → shortest n ≡ (n % 128 + 128) ∷ (n / 128 % 128 + 128) ∷ n / 16384 ∷ []
unfolding shortest
three n more small = rw (not_less n 128 (omega (arith, more)), not_less n 16384 more, lt-ltb n 2097152 small) refl

pub four : (n : ℕ) → 2097152 ≤ n → shortest n ≡ (n % 128 + 128) ∷ (n / 128 % 128 + 128) ∷ (n / 16384 % 128 + 128) ∷ n / 2097152 ∷ []
unfolding shortest
four n more = rw (not_less n 128 (omega (arith, more)), not_less n 16384 (omega (arith, more)), not_less n 2097152 more) refl

-- it is one
pub is_length : (n : ℕ) → n < 2097152 → IsLength (shortest n) n
is_length n small = go (nat_lt n 128) (nat_lt n 16384) refl refl
  where
    go : (a b : Bool) → nat_lt n 128 ≡ a → nat_lt n 16384 ≡ b → IsLength (shortest n) n
    go true b ea eb = let lt = Rattle.std.proofs.lemmas.Bool.ltb-true n 128 ea in Rattle.std.proofs.Common.subst (λ t. IsLength t n) (sym (one n lt)) (omega arith, (lt, refl))
    go false true ea eb =
        let ge = ltb-false n 128 ea in let lt = Rattle.std.proofs.lemmas.Bool.ltb-true n 16384 eb in
        Rattle.std.proofs.Common.subst (λ t. IsLength t n) (sym (two n ge lt)) (omega arith, (omega arith, (n / 128, omega arith, (omega (arith, lt), refl))))
    go false false ea eb =
        let ge = ltb-false n 16384 eb in
        Rattle.std.proofs.Common.subst (λ t. IsLength t n) (sym (three n ge small)) (omega arith, (omega arith, (n / 128, omega arith, (omega arith, (n / 16384, omega arith, (omega (arith, small), refl))))))

-- what stands behind a remaining length is the body
pub behind : (size body : List ℕ) (n : ℕ) → AreSevens size n → after_length (size ++ body) ≡ body
behind [] body n h = absurd h
behind (b ∷ []) body n h = rw (lt-ltb b 128 h.0) refl
behind (b ∷ c ∷ bs) body n h = rw (not_less b 128 h.0) (behind (c ∷ bs) body h.1.0 h.1.2)
