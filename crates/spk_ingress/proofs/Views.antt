-- Places in a list of views.
use Rattle.std.proofs.Common.{◌≡◌, ◌≢◌, ℕ, zero, suc, ◌⊎◌, List, [], ◌∷◌, ◌++◌, length, set, refl, sym, ap, inl, inr, ⊎_elim, subst}
use mathlib.Core.Option.{some, some-ne-none}
use lib.ListN.{get_elem?}
use Rattle.crossbeam_queue.proofs.Lists.{at_set}

module _ {V : Type 0} where
  abbrev pub All : (ℕ → V → Type 0) → List V → Type 0
  All F views = (pass : ℕ) (v : V) → get_elem? views pass ≡ some v → F pass v

  pub all_set : (F : ℕ → V → Type 0) (views : List V) (pass : ℕ) (w : V) → F pass w → ((j : ℕ) (u : V) → j ≢ pass → get_elem? views j ≡ some u → F j u) → All F (set views pass w)
  all_set F views pass w mine others j u e = ⊎_elim (λ (x : (j ≡ pass) × (w ≡ u)). subst (λ (y : ℕ × V). F y.0 y.1) (λ i. (sym x.0 i, x.1 i)) mine)
      (λ (x : (j ≢ pass) × (get_elem? views j ≡ some u)). others j u x.0 x.1) (at_set views pass j w u e)

  pub at_first : (x v : V) (j : ℕ) → get_elem? (x ∷ []) j ≡ some v → (j ≡ 0) × (x ≡ v)
  at_first x v zero e = (refl, (cc))
  at_first x v (suc j) e = absurd (some-ne-none v (sym e))

  pub at_end : (l : List V) (a v : V) (j : ℕ) → get_elem? (l ++ a ∷ []) j ≡ some v → (get_elem? l j ≡ some v) ⊎ ((j ≡ length l) × (a ≡ v))
  at_end [] a v zero e = inr (refl, (cc))
  at_end [] a v (suc j) e = absurd (some-ne-none v (sym e))
  at_end (x ∷ xs) a v zero e = inl e
  at_end (x ∷ xs) a v (suc j) e = ⊎_elim (λ (y : get_elem? xs j ≡ some v). inl y) (λ (y : (j ≡ length xs) × (a ≡ v)). inr (ap suc y.0, y.1)) (at_end xs a v j e)
