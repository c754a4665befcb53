-- Lists with their places.
use Rattle.std.proofs.Common.{◌≡◌, ◌⊎◌, inl, inr, ◌∙◌, ap, refl, ℕ, zero, suc, ◌+◌, ◌<◌, length, arith, Bool, cond, List, [], ◌∷◌, ◌++◌, map, set, Some}
use Rattle.std.specs.Prelude.{slice_get}
use Rattle.std.specs.List.{count_by, enumerate_from}
use Rattle.std.proofs.lemmas.List.Sums.{sum_by-append, sum_by-cons}

-- a list that goes on, with its places
pub enumerate-append : {X : Type 0} (p : ℕ) (xs ys : List X) → enumerate_from p (xs ++ ys) ≡ enumerate_from p xs ++ enumerate_from (p + length xs) ys
enumerate-append p [] ys = ap (λ k. enumerate_from k ys) (let e : p ≡ p + 0 = omega arith in e)
enumerate-append {X} p (x ∷ xs) ys =
    let e : p + 1 + length xs ≡ p + suc (length xs) = omega arith in
    ap (λ (l : List (ℕ × X)). (p, x) ∷ l) (enumerate-append (p + 1) xs ys ∙ ap (λ k. enumerate_from (p + 1) xs ++ enumerate_from k ys) e)

-- what is asked of each place alone
pub map-places : {X Y : Type 0} (f g : ℕ × X → Y) (p : ℕ) (xs : List X) → ((k : ℕ) (x : X) → k < p + length xs → f (k, x) ≡ g (k, x)) → map f (enumerate_from p xs) ≡ map g (enumerate_from p xs)
map-places f g p [] same = refl
map-places {X} {Y} f g p (x ∷ xs) same =
    let here : p < p + suc (length xs) = omega arith in
    ap (λ (y : Y). y ∷ map f (enumerate_from (p + 1) xs)) (same p x here)
    ∙ ap (λ (l : List Y). g (p, x) ∷ l) (map-places f g (p + 1) xs (λ k y below. same k y (let b = below in omega (arith, b))))

pub count-append : {X : Type 0} (f : X → Bool) (xs ys : List X) → count_by f (xs ++ ys) ≡ count_by f xs + count_by f ys
count-append f xs ys = sum_by-append (λ x. cond (f x) 1 0) xs ys

pub count-cons : {X : Type 0} (f : X → Bool) (x : X) (xs : List X) → count_by f (x ∷ xs) ≡ cond (f x) 1 0 + count_by f xs
count-cons f x xs = sum_by-cons (λ y. cond (f y) 1 0) x xs

-- what stands in a list of which one element changed
pub set-sees : {X : Type 0} (xs : List X) (n : ℕ) (y : X) (m : ℕ) (x : X) → slice_get (set xs n y) m ≡ Some x → ((m ≡ n) × (x ≡ y)) ⊎ ((m ≡ n → ⊥) × (slice_get xs m ≡ Some x))
set-sees [] n y m x e = absurd (let z : ⊥ = cc in z)
set-sees (z ∷ xs) zero y zero x e = inl (refl, (let s : x ≡ y = cc in s))
set-sees (z ∷ xs) zero y (suc m) x e = inr ((λ s. let q = s in omega (arith, q)), e)
set-sees (z ∷ xs) (suc n) y zero x e = inr ((λ s. let q = s in omega (arith, q)), e)
set-sees (z ∷ xs) (suc n) y (suc m) x e = elim (set-sees xs n y m x e) [
  | inl same ↦ inl ((let q = same.0 in omega (arith, q)), same.1)
  | inr other ↦ inr ((λ s. other.0 (let q = s in omega (arith, q))), other.1)
]
