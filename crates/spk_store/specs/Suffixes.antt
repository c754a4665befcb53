-- Lemmas of the law of a store: its data after any list of calls is what the queries on the list say. No contract cites them.
use Rattle.std.proofs.Common.{◌≡◌, ℕ, zero, suc, ◌+◌, ◌-◌, ◌^◌, ◌≤◌, Bool, true, false, List, [], ◌∷◌, ◌++◌, length, drop, min, nat_le, slice_get, cond, None, refl, sym, ap, ◌∙◌, arith}
use Rattle.std.proofs.lemmas.Bool.{leb-true, leb-false}
use Rattle.std.proofs.lemmas.List.{drop-append-le, drop-drop, length-append, length-drop}
use Rattle.spk_store.specs.Step.{counted, is_full, overwritten}
use Rattle.spk_store.specs.Calls.{Call, Push, DropFront, store_of}
use Rattle.spk_store.specs.Kept.{pushed, place_of, kept_of, count_of, lost_of, IsLawful}

rises_by : (b : Bool) (c k p : ℕ) → nat_le c k ≡ b → k ≤ c → cond b (p + 1) p ≡ p + (k + 1 - c)
rises_by true c k p e few = omega (arith, leb-true c k e)
rises_by false c k p e few = omega (arith, leb-false c k e)

-- the place rises by what is too much
rises : (c k p : ℕ) → k ≤ c → cond (nat_le c k) (p + 1) p ≡ p + (k + 1 - c)
rises c k p few = rises_by (nat_le c k) c k p refl few

counts_by : (b : Bool) (lost n : ℕ) → cond b (counted (min lost (2 ^ 64 - 1)) n) (min lost (2 ^ 64 - 1)) ≡ min (cond b (lost + n) lost) (2 ^ 64 - 1)
counts_by true lost n = omega arith
counts_by false lost n = refl

module _ {X : Type 0} where
  record Tied (capacity : ℕ) (calls : List (Call X)) : Type 0 where
    items : (store_of capacity calls).items ≡ kept_of capacity calls
    room : (store_of capacity calls).capacity ≡ capacity
    within : place_of capacity calls ≤ length (pushed calls)
    few : count_of capacity calls ≤ capacity
    lost : (store_of capacity calls).lost ≡ min (lost_of capacity calls) (2 ^ 64 - 1)

  -- the last ones of a suffix with one more
  one_more : (xs : List X) (x : X) (p k : ℕ) → p ≤ length xs → drop k (drop p xs ++ x ∷ []) ≡ drop (p + k) (xs ++ x ∷ [])
  one_more xs x p k within = ap (drop k) (sym (drop-append-le p xs (x ∷ []) within)) ∙ drop-drop k p (xs ++ x ∷ [])

  counted_items : (capacity : ℕ) (calls : List (Call X)) → Tied capacity calls → length (store_of capacity calls).items ≡ count_of capacity calls
  counted_items capacity calls t = ap (λ (xs : List X). length xs) t.items ∙ length-drop (place_of capacity calls) (pushed calls)

  pushed_length : (capacity : ℕ) (calls : List (Call X)) (x : X) → length (pushed (Push x ∷ calls)) ≡ length (pushed calls) + 1
  pushed_length capacity calls x = length-append (pushed calls) (x ∷ [])

  push_items : (capacity : ℕ) (calls : List (Call X)) (x : X) → Tied capacity calls → (store_of capacity (Push x ∷ calls)).items ≡ kept_of capacity (Push x ∷ calls)
  push_items capacity calls x t =
      let s = store_of capacity calls in
      let p = place_of capacity calls in
      let kept = kept_of capacity calls in
      let much = length (kept ++ x ∷ []) - capacity in
      let sized : length (kept ++ x ∷ []) ≡ count_of capacity calls + 1 = length-append kept (x ∷ []) ∙ ap (λ n. n + 1) (length-drop p (pushed calls)) in
      let place : place_of capacity (Push x ∷ calls) ≡ p + much = rises capacity (count_of capacity calls) p t.few ∙ ap (λ n. p + (n - capacity)) (sym sized) in
      ap (λ (c : ℕ). drop (length (s.items ++ x ∷ []) - c) (s.items ++ x ∷ [])) t.room
      ∙ ap (λ (xs : List X). drop (length (xs ++ x ∷ []) - capacity) (xs ++ x ∷ [])) t.items
      ∙ one_more (pushed calls) x p much t.within
      ∙ ap (λ n. drop n (pushed calls ++ x ∷ [])) (sym place)

  full_is : (capacity : ℕ) (calls : List (Call X)) → Tied capacity calls → is_full (store_of capacity calls) ≡ nat_le capacity (count_of capacity calls)
  full_is capacity calls t = ap (λ c. nat_le c (length (store_of capacity calls).items)) t.room ∙ ap (nat_le capacity) (counted_items capacity calls t)

  push_lost : (capacity : ℕ) (calls : List (Call X)) (x : X) → Tied capacity calls → (store_of capacity (Push x ∷ calls)).lost ≡ min (lost_of capacity (Push x ∷ calls)) (2 ^ 64 - 1)
  push_lost capacity calls x t =
      let s = store_of capacity calls in
      ap (λ b. cond b (counted s.lost 1) s.lost) (full_is capacity calls t)
      ∙ ap (λ n. cond (nat_le capacity (count_of capacity calls)) (counted n 1) n) t.lost
      ∙ counts_by (nat_le capacity (count_of capacity calls)) (lost_of capacity calls) 1

  tied_push : (capacity : ℕ) (calls : List (Call X)) (x : X) → Tied capacity calls → Tied capacity (Push x ∷ calls)
  tied_push capacity calls x t =
      let risen = rises capacity (count_of capacity calls) (place_of capacity calls) t.few in
      let longer = pushed_length capacity calls x in
      record {
        items = push_items capacity calls x t;
        room = t.room;
        within = omega (arith, risen, longer, t.within, t.few);
        few = omega (arith, risen, longer, t.within, t.few);
        lost = push_lost capacity calls x t;
      }

  tied_drop : (capacity : ℕ) (calls : List (Call X)) (n : ℕ) (is_lost : Bool) → n ≤ count_of capacity calls → Tied capacity calls → Tied capacity (DropFront n is_lost ∷ calls)
  tied_drop capacity calls n is_lost most t =
      record {
        items = ap (drop n) t.items ∙ drop-drop n (place_of capacity calls) (pushed calls);
        room = t.room;
        within = omega (arith, most, t.within);
        few = omega (arith, t.few);
        lost = ap (λ m. cond is_lost (counted m n) m) t.lost ∙ counts_by is_lost (lost_of capacity calls) n;
      }

  tied : (capacity : ℕ) (calls : List (Call X)) → IsLawful capacity calls → Tied capacity calls
  tied capacity [] lawful = record { items = refl; room = refl; within = omega arith; few = omega arith; lost = refl }
  tied capacity (Push x ∷ calls) lawful = tied_push capacity calls x (tied capacity calls lawful)
  tied capacity (DropFront n is_lost ∷ calls) lawful = tied_drop capacity calls n is_lost lawful.0 (tied capacity calls lawful.1)

  pub kept_items : (capacity : ℕ) (calls : List (Call X)) → IsLawful capacity calls → (store_of capacity calls).items ≡ kept_of capacity calls
  kept_items capacity calls lawful = (tied capacity calls lawful).items

  pub place_within : (capacity : ℕ) (calls : List (Call X)) → IsLawful capacity calls → place_of capacity calls ≤ length (pushed calls)
  place_within capacity calls lawful = (tied capacity calls lawful).within

  pub few_kept : (capacity : ℕ) (calls : List (Call X)) → IsLawful capacity calls → count_of capacity calls ≤ capacity
  few_kept capacity calls lawful = (tied capacity calls lawful).few

  pub lost_count : (capacity : ℕ) (calls : List (Call X)) → IsLawful capacity calls → (store_of capacity calls).lost ≡ min (lost_of capacity calls) (2 ^ 64 - 1)
  lost_count capacity calls lawful = (tied capacity calls lawful).lost

  item_at : (xs : List X) (p : ℕ) → slice_get (drop p xs) 0 ≡ slice_get xs p
  item_at xs zero = refl
  item_at [] (suc p) = refl
  item_at (x ∷ xs) (suc p) = item_at xs p

  -- the first of a suffix with one more
  first_is : (xs : List X) (x : X) (p : ℕ) → p ≤ length xs → slice_get (drop p xs ++ x ∷ []) 0 ≡ slice_get (xs ++ x ∷ []) p
  first_is xs x p within = ap (λ (ys : List X). slice_get ys 0) (sym (drop-append-le p xs (x ∷ []) within)) ∙ item_at (xs ++ x ∷ []) p

  pub overwritten_is : (capacity : ℕ) (calls : List (Call X)) (x : X) → IsLawful capacity calls
      → overwritten (store_of capacity calls) x ≡ cond (nat_le capacity (count_of capacity calls)) (slice_get (pushed (Push x ∷ calls)) (place_of capacity calls)) None
  overwritten_is capacity calls x lawful =
      let t = tied capacity calls lawful in
      let s = store_of capacity calls in
      ap (λ b. cond b (slice_get (s.items ++ x ∷ []) 0) None) (full_is capacity calls t)
      ∙ ap (λ (xs : List X). cond (nat_le capacity (count_of capacity calls)) (slice_get (xs ++ x ∷ []) 0) None) t.items
      ∙ ap (λ o. cond (nat_le capacity (count_of capacity calls)) o None) (first_is (pushed calls) x (place_of capacity calls) t.within)
