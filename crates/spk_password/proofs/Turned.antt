-- Blocks that are filled byte by byte.
use Rattle.std.proofs.Common.{◌≡◌, ◌∙◌, sym, ap, arith, ℕ, ◌+◌, ◌<◌, inl, inr, List, length, get_or, slice_set}
use Rattle.std.proofs.lemmas.Bool.Decides.{eqb_tells}
use Rattle.std.proofs.lemmas.List.{get_or-set_other, get_or-set_same}

-- the byte at a place is put in, behind those that are
pub put : (f : ℕ → ℕ) (xs : List ℕ) (i y : ℕ) → i < length xs → y ≡ f i → ((k : ℕ) → k < i → get_or xs k 0 ≡ f k)
    → (k : ℕ) → k < i + 1 → get_or (slice_set xs i y) k 0 ≡ f k
put f xs i y within is before k below = elim (eqb_tells k i) [
  | inl same ↦ ap (λ j. get_or (slice_set xs i y) j 0) same.1 ∙ get_or-set_same xs i y 0 within ∙ is ∙ sym (ap f same.1)
  | inr other ↦ get_or-set_other xs i k y 0 other.1 ∙ before k (omega (arith, other.1, below))
]
