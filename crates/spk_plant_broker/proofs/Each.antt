-- Facts of each place of a list.
use Rattle.std.proofs.Common.{◌≡◌, ◌≢◌, ◌⊎◌, inl, inr, ℕ, ◌+◌, ◌<◌, ◌==◌, Bool, true, false, List, [], ◌∷◌, ◌++◌, length, Some, set, get_or, refl, sym, ◌∙◌, ap, subst, arith, length-append}
use Rattle.std.specs.List.{slice_get}
use Rattle.std.proofs.lemmas.Bool.{eqb-true, eqb-false}
use Rattle.std.proofs.lemmas.List.{get_or-set_other, length-set, get_or_append_left}
use Rattle.std.proofs.lemmas.Grind.{get_or-set_at}
use Rattle.std.proofs.lemmas.Option.{get_or_from_slice_get, slice_get_read, slice_get_within}
use Rattle.std.proofs.Math.Seq.{get_or-append_seam}

pub same_or_not : (j k : ℕ) → (j ≡ k) ⊎ (j ≢ k)
same_or_not j k = go (j == k) refl
  where
    go : (b : Bool) → (j == k) ≡ b → (j ≡ k) ⊎ (j ≢ k)
    go true e = inl (eqb-true j k e)
    go false e = inr (eqb-false j k e)

-- an element, as it is read
pub read_at : {X : Type 0} (xs : List X) (k : ℕ) (x : X) → k < length xs → x ≡ get_or xs k x → slice_get xs k ≡ Some x
read_at xs k x below e = slice_get_read xs (length xs) k x refl below e

-- one place is written
pub each_set : {X : Type 0} (P Q : ℕ → X → Type 0) (xs : List X) (k : ℕ) (x : X) → ((j : ℕ) (y : X) → slice_get xs j ≡ Some y → P j y) → Q k x → ((j : ℕ) (y : X) → j ≢ k → P j y → Q j y)
    → (j : ℕ) (y : X) → slice_get (set xs k x) j ≡ Some y → Q j y
each_set P Q xs k x old new others j y is =
    let below : j < length (set xs k x) = slice_get_within (set xs k x) j y is in
    let sized : length (set xs k x) ≡ length xs = length-set xs k x in
    let here : get_or (set xs k x) j y ≡ y = get_or_from_slice_get (set xs k x) j y y is in
    elim (same_or_not j k) [
      | inl same ↦ subst (λ i. Q i y) (sym same) (subst (Q k) (sym (get_or-set_at xs k j x y same (let z : k < length xs = omega (arith, same, below, sized) in z)) ∙ here) new)
      | inr other ↦ others j y other (old j y (read_at xs j y (omega (arith, below, sized)) (sym here ∙ get_or-set_other xs k j x y other)))
    ]

-- one element more
pub each_push : {X : Type 0} (P : ℕ → X → Type 0) (xs : List X) (x : X) → ((j : ℕ) (y : X) → slice_get xs j ≡ Some y → P j y) → P (length xs) x
    → (j : ℕ) (y : X) → slice_get (xs ++ x ∷ []) j ≡ Some y → P j y
each_push P xs x old new j y is =
    let below : j < length (xs ++ x ∷ []) = slice_get_within (xs ++ x ∷ []) j y is in
    let sized : length (xs ++ x ∷ []) ≡ length xs + 1 = length-append xs (x ∷ []) in
    let here : get_or (xs ++ x ∷ []) j y ≡ y = get_or_from_slice_get (xs ++ x ∷ []) j y y is in
    elim (same_or_not j (length xs)) [
      | inl same ↦ subst (λ i. P i y) (sym same) (subst (P (length xs)) (sym (get_or-append_seam xs x [] y) ∙ (ap (λ i. get_or (xs ++ x ∷ []) i y) (sym same) ∙ here)) new)
      | inr other ↦ (let low : j < length xs = omega (arith, below, sized, other) in old j y (read_at xs j y low (sym here ∙ get_or_append_left xs (x ∷ []) y j low)))
    ]

-- a list without elements
pub nothing_left : {X : Type 0} (xs : List X) → length xs ≡ 0 → xs ≡ []
nothing_left [] e = refl
nothing_left (x ∷ xs) e = absurd (omega (arith, e))
