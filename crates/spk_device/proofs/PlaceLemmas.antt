-- Lists with the places of their elements.
use Rattle.std.proofs.Common.{◌≡◌, ◌⊎◌, ◌∙◌, sym, ap, refl, inl, inr, ℕ, zero, suc, ◌+◌, ◌<◌, ◌≤◌, Bool, true, false, cond, List, [], ◌∷◌, ◌++◌, length, set, Option, Some, None, arith, add-zero}
use Rattle.std.specs.List.{enumerate_from, position_from, filter}
use Rattle.std.specs.Prelude.{slice_get, IfSome}

-- ---- places

-- a list with one more element, with its places
pub enumerate_from-append : {X : Type 0} (n : ℕ) (xs : List X) (x : X)
    → enumerate_from n (xs ++ x ∷ []) ≡ enumerate_from n xs ++ (n + length xs, x) ∷ []
enumerate_from-append n [] x = ap (λ k. (k, x) ∷ []) (sym (add-zero n))
enumerate_from-append n (y ∷ xs) x =
    ap (λ l. (n, y) ∷ l) (enumerate_from-append (n + 1) xs x ∙ ap (λ k. enumerate_from (n + 1) xs ++ (k, x) ∷ []) (omega arith))

-- the first place that passes is a place of the list
pub position_from-within : {X : Type 0} (t : X → Bool) (k : ℕ) (xs : List X)
    → IfSome (position_from t k xs) (λ p. (k ≤ p) × (p < k + length xs))
position_from-within t k [] = tt
position_from-within t k (x ∷ xs) = by (t x) (position_from-within t (k + 1) xs)
  where
    later : (r : Option ℕ) → IfSome r (λ p. (k + 1 ≤ p) × (p < (k + 1) + length xs)) → IfSome r (λ p. (k ≤ p) × (p < k + suc (length xs)))
    later None h = tt
    later (Some p) h = (omega arith, omega arith)

    by : (b : Bool) → IfSome (position_from t (k + 1) xs) (λ p. (k + 1 ≤ p) × (p < (k + 1) + length xs))
        → IfSome (cond b (Some k) (position_from t (k + 1) xs)) (λ p. (k ≤ p) × (p < k + suc (length xs)))
    by true h = (omega arith, omega arith)
    by false h = later (position_from t (k + 1) xs) h

-- an element that is kept of a list with its places stands at its place
pub filter-place : {X : Type 0} (t : ℕ × X → Bool) (n : ℕ) (xs : List X) (i : ℕ) (e : ℕ × X)
    → slice_get (filter t (enumerate_from n xs)) i ≡ Some e → (m : ℕ) × (e.0 ≡ n + m) × (slice_get xs m ≡ Some e.1)
filter-place t n [] i e h = cc
filter-place {X} t n (x ∷ xs) i e h = by (t (n, x)) refl i h (λ j. filter-place t (n + 1) xs j e)
  where
    Answer : Type 0
    Answer = (m : ℕ) × (e.0 ≡ n + m) × (slice_get (x ∷ xs) m ≡ Some e.1)

    later : (m : ℕ) × (e.0 ≡ (n + 1) + m) × (slice_get xs m ≡ Some e.1) → (m : ℕ) × (e.0 ≡ n + m) × (slice_get (x ∷ xs) m ≡ Some e.1)
    later w = (suc w.0, (w.1 ∙ omega arith), w.2)

    first : Some (n, x) ≡ Some e → (m : ℕ) × (e.0 ≡ n + m) × (slice_get (x ∷ xs) m ≡ Some e.1)
    first h =
        let is : (n, x) ≡ e = cc in
        (0, (sym (ap (λ (p : ℕ × X). p.0) is) ∙ sym (add-zero n)), ap (λ (p : ℕ × X). Some p.1) is)

    by : (b : Bool) → t (n, x) ≡ b → (j : ℕ)
        → slice_get (cond b ((n, x) ∷ filter t (enumerate_from (n + 1) xs)) (filter t (enumerate_from (n + 1) xs))) j ≡ Some e
        → ((j : ℕ) → slice_get (filter t (enumerate_from (n + 1) xs)) j ≡ Some e
        → (m : ℕ) × (e.0 ≡ (n + 1) + m) × (slice_get xs m ≡ Some e.1))
        → (m : ℕ) × (e.0 ≡ n + m) × (slice_get (x ∷ xs) m ≡ Some e.1)
    by true is zero h rest = first h
    by true is (suc j) h rest = later (rest j h)
    by false is j h rest = later (rest j h)

-- ---- one element changes

-- what stands there is put there again
pub set-seen : {X : Type 0} (xs : List X) (n : ℕ) (x : X) → slice_get xs n ≡ Some x → set xs n x ≡ xs
set-seen [] n x h = refl
set-seen (z ∷ xs) zero x h = let one : z ≡ x = cc in ap (λ y. y ∷ xs) (sym one)
set-seen (z ∷ xs) (suc n) x h = ap (λ l. z ∷ l) (set-seen xs n x h)

-- what stands in a list of which one element changed
pub set-sees : {X : Type 0} (xs : List X) (n : ℕ) (y : X) (m : ℕ) (x : X) → slice_get (set xs n y) m ≡ Some x
    → ((m ≡ n) × (x ≡ y)) ⊎ ((m ≡ n → ⊥) × (slice_get xs m ≡ Some x))
set-sees [] n y m x h = cc
set-sees (z ∷ xs) zero y zero x h = inl (refl, cc)
set-sees (z ∷ xs) zero y (suc m) x h = inr ((λ e. absurd (omega arith)), h)
set-sees (z ∷ xs) (suc n) y zero x h = inr ((λ e. absurd (omega arith)), h)
set-sees (z ∷ xs) (suc n) y (suc m) x h = later (set-sees xs n y m x h)
  where
    later : ((m ≡ n) × (x ≡ y)) ⊎ ((m ≡ n → ⊥) × (slice_get xs m ≡ Some x))
        → ((suc m ≡ suc n) × (x ≡ y)) ⊎ ((suc m ≡ suc n → ⊥) × (slice_get xs m ≡ Some x))
    later (inl (e, is)) = inl (ap suc e, is)
    later (inr (off, k)) = inr ((λ e. off (omega arith)), k)

-- what stands in a list with one more element
pub append-sees : {X : Type 0} (xs : List X) (y : X) (m : ℕ) (x : X) → slice_get (xs ++ y ∷ []) m ≡ Some x
    → ((m ≡ length xs) × (x ≡ y)) ⊎ (slice_get xs m ≡ Some x)
append-sees [] y zero x h = inl (refl, cc)
append-sees [] y (suc m) x h = cc
append-sees (z ∷ xs) y zero x h = inr h
append-sees (z ∷ xs) y (suc m) x h = later (append-sees xs y m x h)
  where
    later : ((m ≡ length xs) × (x ≡ y)) ⊎ (slice_get xs m ≡ Some x) → ((suc m ≡ suc (length xs)) × (x ≡ y)) ⊎ (slice_get xs m ≡ Some x)
    later (inl (e, is)) = inl (ap suc e, is)
    later (inr k) = inr k
