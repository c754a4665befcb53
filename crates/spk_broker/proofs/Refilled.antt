-- A vector whose elements were lent as a slice.
use Rattle.std.proofs.Common.{◌≡◌, ℕ, zero, suc, ◌≤◌, List, [], ◌∷◌, ◌++◌, length, take, drop, refl, ap, ◌∙◌, arith}

dropped : {X : Type 0} (k : ℕ) (xs : List X) → length xs ≤ k → drop k xs ≡ []
dropped zero [] le = refl
dropped (suc k) [] le = refl
dropped zero (x ∷ xs) le = absurd (omega (arith, le))
dropped (suc k) (x ∷ xs) le = dropped k xs (omega (arith, le))

taken : {X : Type 0} (n : ℕ) (ws : List X) → length ws ≤ n → take n (ws ++ []) ≡ ws
taken zero [] le = refl
taken (suc n) [] le = refl
taken zero (w ∷ ws) le = absurd (omega (arith, le))
taken (suc n) (w ∷ ws) le = ap (λ l. w ∷ l) (taken n ws (omega (arith, le)))

-- its elements are those of the slice
pub refilled : {X : Type 0} (n : ℕ) (ws xs : List X) → length xs ≤ n → length ws ≡ length xs → take n (ws ++ drop (length ws) xs) ≡ ws
refilled n ws xs le same = ap (λ l. take n (ws ++ l)) (dropped (length ws) xs (omega (arith, same))) ∙ taken n ws (omega (arith, le, same))

-- a list without length is empty
pub without-length : {X : Type 0} (xs : List X) → length xs ≡ 0 → xs ≡ []
without-length [] e = refl
without-length (x ∷ xs) e = absurd (omega (arith, e))
