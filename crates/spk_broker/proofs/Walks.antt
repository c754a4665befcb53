-- A list whose elements are changed one after the other, in place.
use Rattle.std.proofs.Common.{◌≡◌, ℕ, zero, suc, ◌+◌, ◌<◌, ◌≤◌, Bool, true, false, ◌||◌, List, [], ◌∷◌, ◌++◌, length, map, take, drop, set, get_or, refl, sym, ap, ◌∙◌, arith, append_assoc}
use Rattle.std.specs.List.{flat_map, list_any}

-- the first i as they are by now, the others as they will be
abbrev pub so_far : {X Y : Type 0} → (X → List Y) → (X → List Y) → List X → ℕ → List Y
so_far n k xs i = flat_map n (take i xs) ++ flat_map k (drop i xs)

pub walk-step : {X Y : Type 0} (n k : X → List Y) (cur : List X) (i : ℕ) (d x new : X) → i < length cur → x ≡ get_or cur i d → n new ≡ k x
    → so_far n k (set cur i new) (i + 1) ≡ so_far n k cur i
walk-step n k [] i d x new lt is turned = absurd (omega (arith, lt))
walk-step n k (c ∷ cs) zero d x new lt is turned =
    one (n new) (flat_map k cs) ∙ ap (λ l. l ++ flat_map k cs) turned ∙ ap (λ b. k b ++ flat_map k cs) is
  where
    one : {Y : Type 0} (l m : List Y) → (l ++ []) ++ m ≡ l ++ m
    one [] m = refl
    one (y ∷ l) m = ap (λ q. y ∷ q) (one l m)
walk-step n k (c ∷ cs) (suc i) d x new lt is turned =
    let z : suc i + 1 ≡ suc (i + 1) = omega arith in
    ap (λ j. so_far n k (set (c ∷ cs) (suc i) new) j) z
    ∙ append_assoc (n c) (flat_map n (take (i + 1) (set cs i new))) (flat_map k (drop (i + 1) (set cs i new)))
    ∙ ap (λ l. n c ++ l) (walk-step n k cs i d x new (omega (arith, lt)) is turned)
    ∙ sym (append_assoc (n c) (flat_map n (take i cs)) (flat_map k (drop i cs)))

pub walk-end : {X Y : Type 0} (n k : X → List Y) (xs : List X) (i : ℕ) → length xs ≤ i → so_far n k xs i ≡ flat_map n xs
walk-end n k [] zero le = refl
walk-end n k [] (suc i) le = refl
walk-end n k (x ∷ xs) zero le = absurd (omega (arith, le))
walk-end n k (x ∷ xs) (suc i) le =
    append_assoc (n x) (flat_map n (take i xs)) (flat_map k (drop i xs)) ∙ ap (λ l. n x ++ l) (walk-end n k xs i (omega (arith, le)))

-- what a change leaves as it was
pub same-step : {X Y : Type 0} (w : X → Y) (cur : List X) (i : ℕ) (d x new : X) → x ≡ get_or cur i d → w new ≡ w x → map w (set cur i new) ≡ map w cur
same-step w [] i d x new is same = refl
same-step w (c ∷ cs) zero d x new is same = ap (λ l. l ∷ map w cs) (same ∙ ap w is)
same-step w (c ∷ cs) (suc i) d x new is same = ap (λ l. w c ∷ l) (same-step w cs i d x new is same)

-- whether one of the first has passed, one more looked at
pub any-step : {X : Type 0} (p : X → Bool) (cur : List X) (i : ℕ) (new : X) → i < length cur → list_any p (take (i + 1) (set cur i new)) ≡ list_any p (take i cur) || p new
any-step p [] i new lt = absurd (omega (arith, lt))
any-step p (c ∷ cs) zero new lt = last (p new)
  where
    last : (b : Bool) → b || false ≡ false || b
    last true = refl
    last false = refl
any-step p (c ∷ cs) (suc i) new lt =
    let z : suc i + 1 ≡ suc (i + 1) = omega arith in
    ap (λ j. list_any p (take j (set (c ∷ cs) (suc i) new))) z ∙ ap (λ b. p c || b) (any-step p cs i new (omega (arith, lt))) ∙ more (p c)
  where
    more : (b : Bool) → b || (list_any p (take i cs) || p new) ≡ (b || list_any p (take i cs)) || p new
    more true = refl
    more false = refl
