-- Rows of which no two have one filter.
use Rattle.std.proofs.Common.{◌≡◌, ◌⊎◌, ℕ, zero, suc, List, [], ◌∷◌, ◌++◌, refl, ap, sym, inl, inr, arith, Some, None, length, set}
use Rattle.std.specs.Prelude.{slice_get}
use Rattle.spk_topics.specs.Rows.{Row, tagged, flat, grants_of, Only, Absent, IsPlace}
use Rattle.std.specs.FinMap.{from_entries}
use Rattle.spk_topics.specs.Grants.{grant_cmp}
use Rattle.spk_topics.proofs.RowLemmas.{held}
use Rattle.spk_topics.proofs.FindLemmas.{AreSingle}

-- each row is empty, or the only one with grants of its filter
abbrev pub AreApart : List Row → Type 0
AreApart rows = (i : ℕ) (row : Row) → slice_get rows i ≡ Some row → (row.1 ≡ []) ⊎ Only rows row.0 i

abbrev pub Sees : List Row → ℕ → Row → Type 0
Sees rows i s = slice_get rows i ≡ Some s

some_held : (es : List (ℕ × ℕ)) (k q : ℕ) → held es k ≡ Some q → es ≡ [] → ⊥
some_held es k q h e = let none : held es k ≡ None = ap (λ x. held x k) e in cc

pub apart_single : (rows : List Row) → AreApart rows → AreSingle rows
apart_single rows apart i row k q there holds = side (apart i row there)
  where
    side : (row.1 ≡ []) ⊎ Only rows row.0 i → Only rows row.0 i
    side (inl e) = absurd (some_held row.1 k q holds e)
    side (inr only) = only

-- the place of an empty row, where no row has grants of the filter
pub empty_place : (rows : List Row) (f : List ℕ) (n : ℕ) (row : Row) → Absent rows f → Sees rows n row → row.1 ≡ [] → IsPlace rows f n
empty_place rows f n row absent there none = record { row = row; there = there; fits = inr none; only = λ i s h e. inl (absent i s h e) }

-- ---- one row changes

pub set_sees : (rows : List Row) (n : ℕ) (x : Row) (i : ℕ) (s : Row) → Sees (set rows n x) i s → ((i ≡ n) × (x ≡ s)) ⊎ ((i ≡ n → ⊥) × Sees rows i s)
set_sees [] n x i s h = cc
set_sees (y ∷ rows) zero x zero s h = inl (refl, cc)
set_sees (y ∷ rows) zero x (suc i) s h = inr ((λ e. absurd (omega arith)), h)
set_sees (y ∷ rows) (suc n) x zero s h = inr ((λ e. absurd (omega arith)), h)
set_sees (y ∷ rows) (suc n) x (suc i) s h = later (set_sees rows n x i s h)
  where
    later : ((i ≡ n) × (x ≡ s)) ⊎ ((i ≡ n → ⊥) × Sees rows i s) → ((suc i ≡ suc n) × (x ≡ s)) ⊎ ((suc i ≡ suc n → ⊥) × Sees (y ∷ rows) (suc i) s)
    later (inl (e, is)) = inl (ap suc e, is)
    later (inr (off, k)) = inr ((λ e. off (omega arith)), k)

-- ---- one row more

pub push_sees : (rows : List Row) (x : Row) (i : ℕ) (s : Row) → Sees (rows ++ x ∷ []) i s → Sees rows i s ⊎ ((i ≡ length rows) × (x ≡ s))
push_sees [] x zero s h = inr (refl, cc)
push_sees [] x (suc i) s h = cc
push_sees (y ∷ rows) x zero s h = inl h
push_sees (y ∷ rows) x (suc i) s h = later (push_sees rows x i s h)
  where
    later : Sees rows i s ⊎ ((i ≡ length rows) × (x ≡ s)) → Sees (y ∷ rows) (suc i) s ⊎ ((suc i ≡ length (y ∷ rows)) × (x ≡ s))
    later (inl p) = inl p
    later (inr (p, q)) = inr (ap suc p, q)

pub absent_push : (rows : List Row) (f g : List ℕ) → Absent rows f → Absent (rows ++ (g, []) ∷ []) f
absent_push rows f g absent i s h e = side (push_sees rows (g, []) i s h)
  where
    side : Sees rows i s ⊎ ((i ≡ length rows) × ((g, []) ≡ s)) → s.1 ≡ []
    side (inl k) = absent i s k e
    side (inr (p, is)) = ap (λ (y : Row). y.1) (sym is)

flat_push : (rows : List Row) (f : List ℕ) → flat (rows ++ (f, []) ∷ []) ≡ flat rows
flat_push [] f = refl
flat_push (r ∷ rows) f = ap (λ es. tagged r.0 r.1 ++ es) (flat_push rows f)

pub grants_push : (rows : List Row) (f : List ℕ) → grants_of (rows ++ (f, []) ∷ []) ≡ grants_of rows
grants_push rows f = ap (λ es. from_entries {R = grant_cmp} es) (flat_push rows f)
