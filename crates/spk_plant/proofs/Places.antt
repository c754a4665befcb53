-- What stands at a place of a list.
use Rattle.std.proofs.Common.{◌≡◌, ◌⊎◌, inl, inr, ℕ, zero, suc, List, [], ◌∷◌, ◌++◌, length, Some, refl, ap}
use Rattle.std.specs.List.{slice_get}
use Rattle.spk_plant.specs.Start.{HasAt}

-- it stands there too if more follows
pub get_more : {X : Type 0} (xs ys : List X) (k : ℕ) (x : X) → slice_get xs k ≡ Some x → slice_get (xs ++ ys) k ≡ Some x
get_more [] ys k x h = cc
get_more (y ∷ xs) ys zero x h = h
get_more (y ∷ xs) ys (suc k) x h = get_more xs ys k x h

-- the last one
pub get_last : {X : Type 0} (xs : List X) (x : X) → slice_get (xs ++ x ∷ []) (length xs) ≡ Some x
get_last [] x = refl
get_last (y ∷ xs) x = get_last xs x

-- of a list with one element more, it stands in the list before, or is the last one
pub get_parts : {X : Type 0} (xs : List X) (y : X) (k : ℕ) (x : X) → slice_get (xs ++ y ∷ []) k ≡ Some x
    → (slice_get xs k ≡ Some x) ⊎ ((k ≡ length xs) × (x ≡ y))
get_parts [] y zero x h = inr (refl, cc)
get_parts [] y (suc k) x h = absurd (cc)
get_parts (z ∷ xs) y zero x h = inl h
get_parts (z ∷ xs) y (suc k) x h = elim (get_parts xs y k x h) [ inl before ↦ inl before | inr last ↦ inr (ap suc last.0, last.1) ]

-- nothing stands in a list of none
pub none_at : {X : Type 0} (xs : List X) (k : ℕ) (x : X) → xs ≡ [] → slice_get xs k ≡ Some x → ⊥
none_at [] k x e at = cc
none_at (y ∷ xs) k x e at = cc

pub has_more : {X : Type 0} (P : X → Type 0) (xs : List X) (x : X) (k : ℕ) → HasAt X P xs k → HasAt X P (xs ++ x ∷ []) k
has_more P xs x k h = record { element = h.element; there = get_more xs (x ∷ []) k h.element h.there; holds = h.holds }

pub has_last : {X : Type 0} (P : X → Type 0) (xs : List X) (x : X) → P x → HasAt X P (xs ++ x ∷ []) (length xs)
has_last P xs x h = record { element = x; there = get_last xs x; holds = h }
