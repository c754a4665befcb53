-- Lists of places, by what each place holds.
use Rattle.std.proofs.Common.{◌≡◌, ℕ, ◌<◌, ◌≤◌, false, List, [], ◌∷◌, length, map, replicate, refl, sym, ◌∙◌, arith, Option, Some, None, is_some, inl, inr, zero, suc}
use Rattle.std.specs.List.{range_with_len, list_any}
use Rattle.std.proofs.Math.ListN.{get_or-eq_default}
use Rattle.std.proofs.lemmas.List.{get_or-replicate, length-replicate}
use Rattle.std.proofs.lemmas.List.FromFn.{fill_by_all, get_or-map-range_with_len}
use Rattle.std.proofs.lemmas.Bool.{true≢false, cases_lt}
use Rattle.spk_sequence.specs.Data.{held_at}

-- lists of one length that hold the same at each place are one
pub same_places : (xs ys : List (Option (Option ℕ))) (n : ℕ) → length xs ≡ n → length ys ≡ n → ((k : ℕ) → k < n → held_at xs k ≡ held_at ys k) → xs ≡ ys
same_places xs ys n p q h =
    fill_by_all (held_at ys) xs n None p h ∙ sym (fill_by_all (held_at ys) ys n None q (λ k below. refl))

-- a place of a list that is made place by place
pub held_at-made : (f : ℕ → Option (Option ℕ)) (n i : ℕ) → i < n → held_at (map f (range_with_len 0 n)) i ≡ f i
held_at-made f n i h = get_or-map-range_with_len f 0 n i i None h (omega arith)

-- past its end a list holds nothing
pub held_at-past : (xs : List (Option (Option ℕ))) (i : ℕ) → length xs ≤ i → held_at xs i ≡ None
held_at-past xs i h = get_or-eq_default xs None h

pub held_at-empty : (n i : ℕ) → held_at (replicate n None) i ≡ None
held_at-empty n i = elim (cases_lt i n) [
  | inl below ↦ get_or-replicate n i None None below
  | inr past ↦ held_at-past (replicate n None) i (let e : length (replicate {A = Option (Option ℕ)} n None) ≡ n = length-replicate n None in omega arith)
]

-- where none passes the test, each place is empty
pub none_held : (xs : List (Option (Option ℕ))) → list_any is_some xs ≡ false → (i : ℕ) → held_at xs i ≡ None
none_held [] e i = refl
none_held (None ∷ xs) e zero = refl
none_held (None ∷ xs) e (suc i) = none_held xs e i
none_held (Some x ∷ xs) e i = absurd (true≢false e)

-- and the other way round
pub none_held-from : (xs : List (Option (Option ℕ))) → ((i : ℕ) → i < length xs → held_at xs i ≡ None) → list_any is_some xs ≡ false
none_held-from [] h = refl
none_held-from (None ∷ xs) h = none_held-from xs (λ i below. h (suc i) (omega arith))
none_held-from (Some x ∷ xs) h = absurd (let e : Some x ≡ None = h 0 (omega arith) in cc)
