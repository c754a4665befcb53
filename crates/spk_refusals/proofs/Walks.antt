-- A list whose elements are changed one after the other, in place.
use Rattle.std.proofs.Common.{◌≡◌, ℕ, zero, suc, ◌+◌, ◌<◌, ◌≤◌, List, [], ◌∷◌, ◌++◌, length, map, take, drop, set, get_or, refl, sym, ap, subst, ◌∙◌, arith}
use Rattle.spk_refusals.specs.Wrong.{AreEach}

-- ---- to what a function gives

module _ {X Y : Type 0} (V : X → Y) (f : Y → Y) where
  -- the first i changed, the others as they were
  abbrev pub changed_so_far : List Y → ℕ → List Y
  changed_so_far ys i = map f (take i ys) ++ drop i ys

  pub change-step : (i : ℕ) (cur : List X) (ys : List Y) (x new : X) → map V cur ≡ changed_so_far ys i → i < length cur → x ≡ get_or cur i x
      → V new ≡ f (V x) → map V (set cur i new) ≡ changed_so_far ys (i + 1)
  change-step i [] ys x new e lt is changed = absurd (omega (arith, lt))
  change-step zero (c ∷ cur) [] x new e lt is changed = absurd (let z : ⊥ = cc in z)
  change-step (suc i) (c ∷ cur) [] x new e lt is changed = absurd (let z : ⊥ = cc in z)
  change-step zero (c ∷ cur) (y ∷ ys) x new e lt is changed =
      let first : V c ≡ y = cc in
      let rest : map V cur ≡ ys = cc in
      ap (λ (z : Y). z ∷ map V cur) (changed ∙ ap f (ap V is ∙ first)) ∙ ap (λ (l : List Y). f y ∷ l) rest
  change-step (suc i) (c ∷ cur) (y ∷ ys) x new e lt is changed =
      let z : suc i + 1 ≡ suc (i + 1) = omega arith in
      let first : V c ≡ f y = cc in
      let rest : map V cur ≡ changed_so_far ys i = cc in
      ap (λ (w : Y). w ∷ map V (set cur i new)) first
      ∙ ap (λ (l : List Y). f y ∷ l) (change-step i cur ys x new rest (omega (arith, lt)) is changed)
      ∙ ap (λ k. changed_so_far (y ∷ ys) k) (sym z)

  pub changed-all : (ys : List Y) (i : ℕ) → length ys ≤ i → changed_so_far ys i ≡ map f ys
  changed-all [] zero le = refl
  changed-all [] (suc i) le = refl
  changed-all (y ∷ ys) zero le = absurd (omega (arith, le))
  changed-all (y ∷ ys) (suc i) le = ap (λ (l : List Y). f y ∷ l) (changed-all ys i (omega (arith, le)))

-- ---- to what a relation allows

module _ {X : Type 0} (R : X → X → Type 0) where
  -- the first i are so beside what they were, the others as they were
  abbrev pub AreSoFar : ℕ → List X → List X → Type 0
  AreSoFar zero before now = now ≡ before
  AreSoFar (suc i) [] [] = Unit {0}
  AreSoFar (suc i) [] (y ∷ ys) = ⊥
  AreSoFar (suc i) (x ∷ xs) [] = ⊥
  AreSoFar (suc i) (x ∷ xs) (y ∷ ys) = R x y × AreSoFar i xs ys

  pub each-step : (i : ℕ) (before now : List X) (d new : X) → AreSoFar i before now → i < length now → R (get_or now i d) new
      → AreSoFar (suc i) before (set now i new)
  each-step i before [] d new so lt is = absurd (omega (arith, lt))
  each-step zero [] (c ∷ cs) d new so lt is = absurd (let z : ⊥ = cc in z)
  each-step zero (b ∷ bs) (c ∷ cs) d new so lt is =
      let first : c ≡ b = cc in
      let rest : cs ≡ bs = cc in
      (subst (λ (x : X). R x new) first is, rest)
  each-step (suc i) [] (c ∷ cs) d new so lt is = so
  each-step (suc i) (b ∷ bs) (c ∷ cs) d new so lt is = (so.0, each-step i bs cs d new so.1 (omega (arith, lt)) is)

  pub each-all : (i : ℕ) (before now : List X) → AreSoFar i before now → length now ≤ i → AreEach R before now
  each-all zero [] [] so le = tt
  each-all zero (b ∷ bs) [] so le = absurd (let z : ⊥ = cc in z)
  each-all zero before (c ∷ cs) so le = absurd (omega (arith, le))
  each-all (suc i) [] [] so le = tt
  each-all (suc i) [] (c ∷ cs) so le = so
  each-all (suc i) (b ∷ bs) [] so le = so
  each-all (suc i) (b ∷ bs) (c ∷ cs) so le = (so.0, each-all i bs cs so.1 (omega (arith, le)))
