-- One more hole among those that are kept.
use Rattle.std.proofs.Common.{◌≡◌, ◌∙◌, sym, ap, refl, ◌⊎◌, inl, inr, ℕ, suc, ◌+◌, ◌-◌, ◌<◌, ◌≤◌, min, List, [], ◌∷◌, ◌++◌, length, take, drop, slice_set, arith}
use Rattle.std.proofs.lemmas.List.{take-take, take_all, length-append, length-drop, length-take-le}
use Rattle.std.proofs.lemmas.Bool.{cases_lt}
use Rattle.std.proofs.Math.Seq.{drop-append_seam}
use Rattle.spk_story.specs.declared.hole.Hole.{Hole}

first_set : (h : Hole) (ys : List Hole) → 0 < length ys → slice_set ys 0 h ≡ h ∷ drop 1 ys
first_set h [] some = absurd (omega (arith, some))
first_set h (y ∷ ys) some = refl

turned : (xs : List Hole) → length xs ≡ 64 → drop 1 (drop 63 xs ++ take 63 xs) ≡ take 63 xs
turned xs full =
    let one : length (drop 63 xs) ≡ 1 = length-drop 63 xs ∙ ap (λ n. n - 63) full in
    ap (λ n. drop n (drop 63 xs ++ take 63 xs)) (sym one) ∙ drop-append_seam (drop 63 xs) (take 63 xs)

cut : (h : Hole) (m k : ℕ) (xs : List Hole) → m ≡ suc k → take m (h ∷ xs) ≡ h ∷ take k xs
cut h m k xs is = ap (λ n. take n (h ∷ xs)) is

-- n of the first 63 are the first 63 of n
both : (n : ℕ) (xs : List Hole) → n ≤ 63 → length xs ≡ 64 → take n (take 63 xs) ≡ take 63 (take n xs)
both n xs few full =
    let short : length (take n xs) ≤ 63 = omega (arith, length-take-le n xs (omega (arith, few, full)), few) in
    take-take n 63 xs few ∙ sym (take_all 63 (take n xs) short)

shown : (n k : ℕ) (xs : List Hole) → length xs ≡ 64 → n ≤ 64 → k ≡ min n 63 → take k (take 63 xs) ≡ take 63 (take n xs)
shown n k xs full few is = go (cases_lt n 64)
  where
    go : (n < 64) ⊎ (64 ≤ n) → take k (take 63 xs) ≡ take 63 (take n xs)
    go (inl lt) = let e : k ≡ n = omega (arith, lt, is) in ap (λ j. take j (take 63 xs)) e ∙ both n xs (omega (arith, lt)) full
    go (inr ge) =
        let e : k ≡ 63 = omega (arith, ge, is) in
        ap (λ j. take j (take 63 xs)) e ∙ take-take 63 63 xs (omega arith) ∙ sym (take-take 63 n xs (omega (arith, ge)))

pub put_is : (n m : ℕ) (h : Hole) (xs ys zs : List Hole) → length xs ≡ 64 → n ≤ 64 → m ≡ min (n + 1) 64
    → ys ≡ drop (length xs - 1) xs ++ take (length xs - 1) xs → zs ≡ take n xs
    → take m (slice_set ys 0 h) ≡ h ∷ take 63 zs
put_is n m h xs ys zs full few is now then =
    let turn : ys ≡ drop 63 xs ++ take 63 xs = now ∙ ap (λ k. drop (k - 1) xs ++ take (k - 1) xs) full in
    let some : 0 < length ys = let n = ap (λ l. length l) turn ∙ length-append (drop 63 xs) (take 63 xs) in let one = length-drop 63 xs in omega (arith, n, one, full) in
    let behind : drop 1 ys ≡ take 63 xs = ap (λ l. drop 1 l) turn ∙ turned xs full in
    ap (λ l. take m l) (first_set h ys some ∙ ap (λ l. h ∷ l) behind)
    ∙ cut h m (min n 63) (take 63 xs) (omega (arith, is))
    ∙ ap (λ l. h ∷ l) (shown n (min n 63) xs full few refl ∙ ap (λ l. take 63 l) (sym then))
