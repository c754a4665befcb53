-- A list whose elements are turned one after the other, in place.
use Rattle.std.proofs.Common.{◌≡◌, ℕ, zero, suc, ◌+◌, ◌<◌, ◌≤◌, List, [], ◌∷◌, ◌++◌, length, map, take, drop, set, get_or, refl, sym, ap, ◌∙◌, arith}

module _ {X Y : Type 0} (V : X → Y) (f : Y → Y) where
  -- the first i turned, the others as they were
  abbrev pub turned_so_far : List Y → ℕ → List Y
  turned_so_far ys i = map f (take i ys) ++ drop i ys

  pub turn-step : (i : ℕ) (cur : List X) (ys : List Y) (x new : X) → map V cur ≡ turned_so_far ys i → i < length cur → x ≡ get_or cur i x
      → V new ≡ f (V x) → map V (set cur i new) ≡ turned_so_far ys (i + 1)
  turn-step i [] ys x new e lt is turned = absurd (omega (arith, lt))
  turn-step zero (c ∷ cur) [] x new e lt is turned = absurd (let z : ⊥ = cc in z)
  turn-step (suc i) (c ∷ cur) [] x new e lt is turned = absurd (let z : ⊥ = cc in z)
  turn-step zero (c ∷ cur) (y ∷ ys) x new e lt is turned =
      let first : V c ≡ y = cc in
      let rest : map V cur ≡ ys = cc in
      ap (λ (z : Y). z ∷ map V cur) (turned ∙ ap f (ap V is ∙ first)) ∙ ap (λ (l : List Y). f y ∷ l) rest
  turn-step (suc i) (c ∷ cur) (y ∷ ys) x new e lt is turned =
      let z : suc i + 1 ≡ suc (i + 1) = omega arith in
      let first : V c ≡ f y = cc in
      let rest : map V cur ≡ turned_so_far ys i = cc in
      ap (λ (w : Y). w ∷ map V (set cur i new)) first
      ∙ ap (λ (l : List Y). f y ∷ l) (turn-step i cur ys x new rest (omega (arith, lt)) is turned)
      ∙ ap (λ k. turned_so_far (y ∷ ys) k) (sym z)

  pub turned-all : (ys : List Y) (i : ℕ) → length ys ≤ i → turned_so_far ys i ≡ map f ys
  turned-all [] zero le = refl
  turned-all [] (suc i) le = refl
  turned-all (y ∷ ys) zero le = absurd (omega (arith, le))
  turned-all (y ∷ ys) (suc i) le = ap (λ (l : List Y). f y ∷ l) (turned-all ys i (omega (arith, le)))
