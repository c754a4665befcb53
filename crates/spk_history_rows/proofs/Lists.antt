-- Lists: what the last that gives something gives, and places in lists.
use Rattle.std.proofs.Common.{◌≡◌, ◌⊎◌, ◌∙◌, sym, ap, refl, inl, inr, arith, ℕ, zero, suc, Bool, true, false, List, [], ◌∷◌, ◌++◌, length, drop, set, Option, Some, None, true≢false}
use Rattle.std.specs.Option.{option_or}
use Rattle.std.specs.Prelude.{◌&&◌, slice_get}
use Rattle.std.specs.Str.{bytes_eq}
use Rattle.std.proofs.lemmas.Slice.Eq.{bytes_eq-Decides}
use Rattle.spk_history_rows.specs.Row.{NodeData, is_named, last}

pub none≢some : {X : Type 0} {x : X} → None ≡ Some x → ⊥
none≢some h = cc

pub same-some : {X : Type 0} {x y : X} → Some x ≡ Some y → x ≡ y
same-some h = cc

-- ---- names

and-both : (a b : Bool) → (a && b) ≡ true → (a ≡ true) × (b ≡ true)
and-both true b h = (refl, h)
and-both false b h = absurd (true≢false (sym h))

and-of : (a b : Bool) → a ≡ true → b ≡ true → (a && b) ≡ true
and-of true b h k = k
and-of false b h k = absurd (true≢false (sym h))

pub same-names : (a b : NodeData) → is_named a b ≡ true → a ≡ b
same-names a b h =
    let both = and-both (bytes_eq a.group b.group) (bytes_eq a.name b.name) h in
    let group = (bytes_eq-Decides a.group b.group).0 both.0 in
    let name = (bytes_eq-Decides a.name b.name).0 both.1 in
    ap (λ (g : List ℕ). let x : NodeData = record { group = g; name = a.name } in x) group
    ∙ ap (λ (n : List ℕ). let x : NodeData = record { group = b.group; name = n } in x) name

pub names-itself : (a b : NodeData) → a ≡ b → is_named a b ≡ true
names-itself a b e =
    and-of (bytes_eq a.group b.group) (bytes_eq a.name b.name) ((bytes_eq-Decides a.group b.group).1 (ap (λ (n : NodeData). n.group) e))
    ((bytes_eq-Decides a.name b.name).1 (ap (λ (n : NodeData). n.name) e))

pub not-true : (b : Bool) → (b ≡ true → ⊥) → b ≡ false
not-true true h = absurd (h refl)
not-true false h = refl

-- ---- what the last gives

or-none : {Y : Type 0} (o : Option Y) → option_or o None ≡ o
or-none None = refl
or-none (Some y) = refl

or-turn : {Y : Type 0} (o p q : Option Y) → option_or (option_or o p) q ≡ option_or o (option_or p q)
or-turn None p q = refl
or-turn (Some y) p q = refl

pub last-more : {X Y : Type 0} (pick : X → Option Y) (xs : List X) (x : X) → last pick (xs ++ x ∷ []) ≡ option_or (pick x) (last pick xs)
last-more pick [] x = sym (or-none (pick x))
last-more pick (z ∷ xs) x = ap (λ o. option_or o (pick z)) (last-more pick xs x) ∙ or-turn (pick x) (last pick xs) (pick z)

pub last-silent : {X Y : Type 0} (pick : X → Option Y) (xs : List X) (x : X) → pick x ≡ None → last pick (xs ++ x ∷ []) ≡ last pick xs
last-silent pick xs x e = last-more pick xs x ∙ ap (λ o. option_or o (last pick xs)) e

pub last-speaks : {X Y : Type 0} (pick : X → Option Y) (xs : List X) (x : X) (y : Y) → pick x ≡ Some y → last pick (xs ++ x ∷ []) ≡ Some y
last-speaks pick xs x y e = last-more pick xs x ∙ ap (λ o. option_or o (last pick xs)) e

-- what stands last of those that give something
pub last-there : {X Y : Type 0} (pick : X → Option Y) (xs : List X) (k : ℕ) (x : X) (y : Y) → slice_get xs k ≡ Some x → pick x ≡ Some y
    → last pick (drop (suc k) xs) ≡ None → last pick xs ≡ Some y
last-there pick [] k x y at is none = absurd (none≢some at)
last-there pick (z ∷ xs) zero x y at is none = ap (λ o. option_or o (pick z)) none ∙ ap pick (same-some at) ∙ is
last-there pick (z ∷ xs) (suc k) x y at is none = ap (λ o. option_or o (pick z)) (last-there pick xs k x y at is none)

pub last-step : {X Y : Type 0} (pick : X → Option Y) (xs : List X) (k : ℕ) (x : X) → slice_get xs k ≡ Some x → pick x ≡ None
    → last pick (drop (suc k) xs) ≡ None → last pick (drop k xs) ≡ None
last-step pick [] k x at is none = absurd (none≢some at)
last-step pick (z ∷ xs) zero x at is none = ap (λ o. option_or o (pick z)) none ∙ ap pick (same-some at) ∙ is
last-step pick (z ∷ xs) (suc k) x at is none = last-step pick xs k x at is none

-- ---- places

pub set-sees : {X : Type 0} (xs : List X) (n : ℕ) (y : X) (m : ℕ) (x : X) → slice_get (set xs n y) m ≡ Some x
    → ((m ≡ n) × (x ≡ y)) ⊎ ((m ≡ n → ⊥) × (slice_get xs m ≡ Some x))
set-sees [] n y m x h = cc
set-sees (z ∷ xs) zero y zero x h = inl (refl, cc)
set-sees (z ∷ xs) zero y (suc m) x h = inr ((λ e. absurd (omega arith)), h)
set-sees (z ∷ xs) (suc n) y zero x h = inr ((λ e. absurd (omega arith)), h)
set-sees (z ∷ xs) (suc n) y (suc m) x h = later (set-sees xs n y m x h)
  where
    later : ((m ≡ n) × (x ≡ y)) ⊎ ((m ≡ n → ⊥) × (slice_get xs m ≡ Some x))
        → ((suc m ≡ suc n) × (x ≡ y)) ⊎ ((suc m ≡ suc n → ⊥) × (slice_get xs m ≡ Some x))
    later (inl (e, is)) = inl (ap suc e, is)
    later (inr (off, k)) = inr ((λ e. off (omega arith)), k)

pub set-there : {X : Type 0} (xs : List X) (n : ℕ) (y x : X) → slice_get xs n ≡ Some x → slice_get (set xs n y) n ≡ Some y
set-there [] n y x h = absurd (none≢some h)
set-there (z ∷ xs) zero y x h = refl
set-there (z ∷ xs) (suc n) y x h = set-there xs n y x h

pub set-other : {X : Type 0} (xs : List X) (n : ℕ) (y : X) (m : ℕ) → (m ≡ n → ⊥) → slice_get (set xs n y) m ≡ slice_get xs m
set-other [] n y m off = refl
set-other (z ∷ xs) zero y zero off = absurd (off refl)
set-other (z ∷ xs) zero y (suc m) off = refl
set-other (z ∷ xs) (suc n) y zero off = refl
set-other (z ∷ xs) (suc n) y (suc m) off = set-other xs n y m (λ e. off (omega arith))

pub append-sees : {X : Type 0} (xs : List X) (y : X) (m : ℕ) (x : X) → slice_get (xs ++ y ∷ []) m ≡ Some x
    → ((m ≡ length xs) × (x ≡ y)) ⊎ (slice_get xs m ≡ Some x)
append-sees [] y zero x h = inl (refl, cc)
append-sees [] y (suc m) x h = cc
append-sees (z ∷ xs) y zero x h = inr h
append-sees (z ∷ xs) y (suc m) x h = later (append-sees xs y m x h)
  where
    later : ((m ≡ length xs) × (x ≡ y)) ⊎ (slice_get xs m ≡ Some x) → ((suc m ≡ suc (length xs)) × (x ≡ y)) ⊎ (slice_get xs m ≡ Some x)
    later (inl (e, is)) = inl (ap suc e, is)
    later (inr k) = inr k

pub append-old : {X : Type 0} (xs : List X) (y : X) (m : ℕ) (x : X) → slice_get xs m ≡ Some x → slice_get (xs ++ y ∷ []) m ≡ Some x
append-old [] y m x h = absurd (none≢some h)
append-old (z ∷ xs) y zero x h = h
append-old (z ∷ xs) y (suc m) x h = append-old xs y m x h

pub append-new : {X : Type 0} (xs : List X) (y : X) → slice_get (xs ++ y ∷ []) (length xs) ≡ Some y
append-new [] y = refl
append-new (z ∷ xs) y = append-new xs y
