-- Lemmas of the law of a store: what has left and what is kept are together what was pushed. No contract cites them.
use Rattle.std.proofs.Common.{◌≡◌, ℕ, zero, suc, ◌+◌, ◌-◌, ◌≤◌, Bool, true, false, cond, List, [], ◌∷◌, ◌++◌, length, drop, filter, map, take, nat_le, refl, sym, ap, ◌∙◌, append_assoc, arith}
use Rattle.std.proofs.lemmas.List.{append-nil, drop-append-le, drop-drop, length-append, length-drop, length-take-le, map-append, take-append-drop}
use Rattle.std.proofs.lemmas.List.Elements.{filter-append}
use Rattle.spk_store.specs.Calls.{Call, Push, DropFront}
use Rattle.spk_store.specs.Kept.{pushed, place_of, kept_of, count_of, fated, left_of, lost_of, IsLawful}
use Rattle.spk_store.specs.Suffixes.{place_within}

module _ {X : Type 0} where
  fated-are : (b : Bool) (xs : List X) → map (λ (e : X × Bool). e.0) (fated b xs) ≡ xs
  fated-are b [] = refl
  fated-are b (x ∷ xs) = ap (λ (l : List X). x ∷ l) (fated-are b xs)

  -- what left before, and then these
  more-left : (front : List (X × Bool)) (b : Bool) (xs : List X) → map (λ (e : X × Bool). e.0) (front ++ fated b xs) ≡ map (λ (e : X × Bool). e.0) front ++ xs
  more-left front b xs = map-append (λ (e : X × Bool). e.0) front (fated b xs) ∙ ap (λ (l : List X). map (λ (e : X × Bool). e.0) front ++ l) (fated-are b xs)

  -- the first ones of what is kept leave, and the others stay
  some-leave : (front : List (X × Bool)) (b : Bool) (n : ℕ) (kept : List X) → map (λ (e : X × Bool). e.0) (front ++ fated b (take n kept)) ++ drop n kept ≡ map (λ (e : X × Bool). e.0) front ++ kept
  some-leave front b n kept =
      ap (λ (l : List X). l ++ drop n kept) (more-left front b (take n kept))
      ∙ append_assoc (map (λ (e : X × Bool). e.0) front) (take n kept) (drop n kept)
      ∙ ap (λ (l : List X). map (λ (e : X × Bool). e.0) front ++ l) (take-append-drop n kept)

  -- the kept ones, and one more
  one-kept : (capacity : ℕ) (calls : List (Call X)) (x : X) → IsLawful capacity calls → drop (place_of capacity calls) (pushed calls ++ x ∷ []) ≡ kept_of capacity calls ++ x ∷ []
  one-kept capacity calls x lawful = drop-append-le (place_of capacity calls) (pushed calls) (x ∷ []) (place_within capacity calls lawful)

  push-there : (capacity : ℕ) (calls : List (Call X)) (x : X) → IsLawful capacity calls → map (λ (e : X × Bool). e.0) (left_of capacity calls) ++ kept_of capacity calls ≡ pushed calls
      → map (λ (e : X × Bool). e.0) (left_of capacity (Push x ∷ calls)) ++ kept_of capacity (Push x ∷ calls) ≡ pushed (Push x ∷ calls)
  push-there capacity calls x lawful before = by (nat_le capacity (count_of capacity calls))
    where
      front : List (X × Bool)
      front = left_of capacity calls

      whole : map (λ (e : X × Bool). e.0) front ++ (kept_of capacity calls ++ x ∷ []) ≡ pushed calls ++ x ∷ []
      whole = sym (append_assoc (map (λ (e : X × Bool). e.0) front) (kept_of capacity calls) (x ∷ [])) ∙ ap (λ (l : List X). l ++ x ∷ []) before

      by : (b : Bool) → map (λ (e : X × Bool). e.0) (front ++ cond b (fated true (take 1 (kept_of capacity calls ++ x ∷ []))) [])
          ++ drop (cond b (place_of capacity calls + 1) (place_of capacity calls)) (pushed calls ++ x ∷ []) ≡ pushed calls ++ x ∷ []
      by true =
          ap (λ (l : List X). map (λ (e : X × Bool). e.0) (front ++ fated true (take 1 (kept_of capacity calls ++ x ∷ []))) ++ l)
          (sym (drop-drop 1 (place_of capacity calls) (pushed calls ++ x ∷ [])) ∙ ap (drop 1) (one-kept capacity calls x lawful))
          ∙ some-leave front true 1 (kept_of capacity calls ++ x ∷ []) ∙ whole
      by false =
          ap (λ (l : List (X × Bool)). map (λ (e : X × Bool). e.0) l ++ drop (place_of capacity calls) (pushed calls ++ x ∷ [])) (append-nil front)
          ∙ ap (λ (l : List X). map (λ (e : X × Bool). e.0) front ++ l) (one-kept capacity calls x lawful) ∙ whole

  pub all_there : (capacity : ℕ) (calls : List (Call X)) → IsLawful capacity calls → map (λ (e : X × Bool). e.0) (left_of capacity calls) ++ kept_of capacity calls ≡ pushed calls
  all_there capacity [] lawful = refl
  all_there capacity (Push x ∷ calls) lawful = push-there capacity calls x lawful (all_there capacity calls lawful)
  all_there capacity (DropFront n is_lost ∷ calls) lawful =
      ap (λ (l : List X). map (λ (e : X × Bool). e.0) (left_of capacity calls ++ fated is_lost (take n (kept_of capacity calls))) ++ l)
      (sym (drop-drop n (place_of capacity calls) (pushed calls)))
      ∙ some-leave (left_of capacity calls) is_lost n (kept_of capacity calls) ∙ all_there capacity calls lawful.1

  -- ---- how many of them are lost

  all-lost : (xs : List X) → length (filter (λ (e : X × Bool). e.1) (fated true xs)) ≡ length xs
  all-lost [] = refl
  all-lost (x ∷ xs) = ap (λ n. suc n) (all-lost xs)

  none-lost : (xs : List X) → length (filter (λ (e : X × Bool). e.1) (fated false xs)) ≡ 0
  none-lost [] = refl
  none-lost (x ∷ xs) = none-lost xs

  lost-more : (front back : List (X × Bool)) → length (filter (λ (e : X × Bool). e.1) (front ++ back)) ≡ length (filter (λ (e : X × Bool). e.1) front) + length (filter (λ (e : X × Bool). e.1) back)
  lost-more front back =
      ap (λ (l : List (X × Bool)). length l) (filter-append (λ (e : X × Bool). e.1) front back)
      ∙ length-append (filter (λ (e : X × Bool). e.1) front) (filter (λ (e : X × Bool). e.1) back)

  first-lost : (kept : List X) (x : X) → length (filter (λ (e : X × Bool). e.1) (fated true (take 1 (kept ++ x ∷ [])))) ≡ 1
  first-lost [] x = refl
  first-lost (y ∷ kept) x = refl

  push-lost : (capacity : ℕ) (calls : List (Call X)) (x : X) → lost_of capacity calls ≡ length (filter (λ (e : X × Bool). e.1) (left_of capacity calls))
      → lost_of capacity (Push x ∷ calls) ≡ length (filter (λ (e : X × Bool). e.1) (left_of capacity (Push x ∷ calls)))
  push-lost capacity calls x before = by (nat_le capacity (count_of capacity calls))
    where
      by : (b : Bool) → cond b (lost_of capacity calls + 1) (lost_of capacity calls)
          ≡ length (filter (λ (e : X × Bool). e.1) (left_of capacity calls ++ cond b (fated true (take 1 (kept_of capacity calls ++ x ∷ []))) []))
      by true =
          let more = lost-more (left_of capacity calls) (fated true (take 1 (kept_of capacity calls ++ x ∷ []))) in
          let one = first-lost (kept_of capacity calls) x in
          omega (arith, more, one, before)
      by false = before ∙ ap (λ (l : List (X × Bool)). length (filter (λ (e : X × Bool). e.1) l)) (sym (append-nil (left_of capacity calls)))

  drop-lost : (capacity : ℕ) (calls : List (Call X)) (n : ℕ) (is_lost : Bool) → n ≤ count_of capacity calls
      → lost_of capacity calls ≡ length (filter (λ (e : X × Bool). e.1) (left_of capacity calls))
      → lost_of capacity (DropFront n is_lost ∷ calls) ≡ length (filter (λ (e : X × Bool). e.1) (left_of capacity (DropFront n is_lost ∷ calls)))
  drop-lost capacity calls n true few before =
      let gone = take n (kept_of capacity calls) in
      let size = length-drop (place_of capacity calls) (pushed calls) in
      let all = all-lost gone in
      let many : length gone ≡ n = length-take-le n (kept_of capacity calls) (omega (arith, few, size)) in
      let more = lost-more (left_of capacity calls) (fated true gone) in
      omega (arith, more, all, many, before)
  drop-lost capacity calls n false few before =
      let gone = take n (kept_of capacity calls) in
      let none = none-lost gone in
      let more = lost-more (left_of capacity calls) (fated false gone) in
      omega (arith, more, none, before)

  pub lost_are : (capacity : ℕ) (calls : List (Call X)) → IsLawful capacity calls → lost_of capacity calls ≡ length (filter (λ (e : X × Bool). e.1) (left_of capacity calls))
  lost_are capacity [] lawful = refl
  lost_are capacity (Push x ∷ calls) lawful = push-lost capacity calls x (lost_are capacity calls lawful)
  lost_are capacity (DropFront n is_lost ∷ calls) lawful = drop-lost capacity calls n is_lost lawful.0 (lost_are capacity calls lawful.1)
