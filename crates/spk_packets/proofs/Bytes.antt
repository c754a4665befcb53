-- A test that passes at each number below a bound, by trying them all.
use Rattle.std.proofs.Common.{◌≡◌, ℕ, zero, suc, ◌<◌, Bool, true, false, List, [], ◌∷◌, ◌++◌, get_or, refl, subst, inl, inr, arith}
use Rattle.std.specs.Prelude.{◌&&◌}
use Rattle.std.proofs.lemmas.Bool.{cases_lt}

abbrev pub all_below : ℕ → (ℕ → Bool) → Bool
all_below zero test = true
all_below (suc n) test = test n && all_below n test

pub left_of : (a b : Bool) → (a && b) ≡ true → a ≡ true
left_of true b e = refl
left_of false b e = absurd cc

pub right_of : (a b : Bool) → (a && b) ≡ true → b ≡ true
right_of true b e = e
right_of false b e = absurd cc

pub at_each_below : (n : ℕ) (test : ℕ → Bool) → all_below n test ≡ true → (b : ℕ) → b < n → test b ≡ true
at_each_below zero test e b lt = absurd (omega arith)
at_each_below (suc n) test e b lt =
    elim (cases_lt b n) [
      | inl less ↦ at_each_below n test (right_of (test n) (all_below n test) e) b less
      | inr more ↦ let same : n ≡ b = omega arith in subst (λ (k : ℕ). test k ≡ true) same (left_of (test n) (all_below n test) e)
    ]

-- each number of the list is below 256
abbrev pub IsBytes : List ℕ → Type 0
IsBytes bytes = (i : ℕ) → get_or bytes i 0 < 256

pub IsBytes-rest : (b : ℕ) (bytes : List ℕ) → IsBytes (b ∷ bytes) → IsBytes bytes
IsBytes-rest b bytes fits i = fits (suc i)

pub IsBytes-after : (front rest : List ℕ) → IsBytes (front ++ rest) → IsBytes rest
IsBytes-after [] rest fits = fits
IsBytes-after (b ∷ front) rest fits = IsBytes-after front rest (IsBytes-rest b (front ++ rest) fits)

pub IsBytes-before : (front rest : List ℕ) → IsBytes (front ++ rest) → IsBytes front
IsBytes-before [] rest fits i = omega arith
IsBytes-before (b ∷ front) rest fits zero = fits zero
IsBytes-before (b ∷ front) rest fits (suc i) = IsBytes-before front rest (IsBytes-rest b (front ++ rest) fits) i
