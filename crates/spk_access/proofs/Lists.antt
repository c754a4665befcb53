-- Tests on lists.
use Rattle.std.proofs.Common.{◌≡◌, List, [], ◌∷◌, Bool, true, map, refl, ap, inl, inr, arith, suc}
use Rattle.std.specs.Prelude.{◌||◌, Contains}
use Rattle.std.specs.List.{list_any}
use Rattle.spk_access.proofs.Bools.{or_cases}

-- a test of a list whose elements are made something else
pub any_mapped : {X Y : Type 0} (p : Y → Bool) (f : X → Y) (xs : List X) → list_any (λ x. p (f x)) xs ≡ list_any p (map f xs)
any_mapped p f [] = refl
any_mapped p f (x ∷ xs) = ap (λ b. p (f x) || b) (any_mapped p f xs)

-- where it answers yes an element passes it
pub found : {X : Type 0} (p : X → Bool) (xs : List X) → list_any p xs ≡ true → (x : X) × Contains xs x × (p x ≡ true)
found p [] h = cc
found p (x ∷ xs) h = elim (or_cases (p x) (list_any p xs) h) [
  | inl here ↦ (x, (0, omega arith, refl), here)
  | inr there ↦
      let (y, (k, within, is), passes) = found p xs there in
      (y, (suc k, omega (arith, within), is), passes)
]
