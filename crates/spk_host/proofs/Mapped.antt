-- The first elements of a list, mapped.
use Rattle.std.proofs.Common.{◌≡◌, ◌∙◌, sym, ap, refl, ℕ, zero, suc, List, [], ◌∷◌, map, length, set, get_or, Some, arith}
use Rattle.std.specs.Prelude.{◌+◌, ◌<◌, ◌≤◌, slice_get}
use Rattle.std.proofs.lemmas.Option.{slice_get_read}

pub same-some : {X : Type 0} {x y : X} → Some x ≡ Some y → x ≡ y
same-some h = cc

abbrev pub mapped : {X : Type 0} → (X → X) → ℕ → List X → List X
mapped f zero xs = xs
mapped f (suc n) [] = []
mapped f (suc n) (x ∷ xs) = f x ∷ mapped f n xs

mapped-get : {X : Type 0} (f : X → X) (xs : List X) (i : ℕ) (x : X) → slice_get (mapped f i xs) i ≡ Some x → set (mapped f i xs) i (f x) ≡ mapped f (suc i) xs
mapped-get f [] zero x h = refl
mapped-get f [] (suc i) x h = refl
mapped-get f (y ∷ xs) zero x h = ap (λ z. f z ∷ xs) (sym (same-some h))
mapped-get f (y ∷ xs) (suc i) x h = ap (λ l. f y ∷ l) (mapped-get f xs i x h)

-- one more
pub mapped-more : {X : Type 0} (f : X → X) (xs now : List X) (i : ℕ) (x : X) → now ≡ mapped f i xs → i < length now → x ≡ get_or now i x
    → set now i (f x) ≡ mapped f (i + 1) xs
mapped-more f xs now i x is low at =
    let there : slice_get (mapped f i xs) i ≡ Some x = ap (λ l. slice_get l i) (sym is) ∙ slice_get_read now (length now) i x refl low at in
    let same : suc i ≡ i + 1 = omega arith in
    ap (λ l. set l i (f x)) is ∙ mapped-get f xs i x there ∙ ap (λ k. mapped f k xs) same

-- all
pub mapped-all : {X : Type 0} (f : X → X) (xs : List X) (i : ℕ) → length xs ≤ i → mapped f i xs ≡ map f xs
mapped-all f [] zero low = refl
mapped-all f [] (suc i) low = refl
mapped-all f (x ∷ xs) zero low = absurd (no-room low)
  where
    no-room : suc (length xs) ≤ 0 → ⊥
    no-room h = absurd (omega arith)
mapped-all f (x ∷ xs) (suc i) low = ap (λ l. f x ∷ l) (mapped-all f xs i (omega arith))
