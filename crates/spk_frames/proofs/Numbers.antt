-- Numbers at the front of bytes: what is read there is spelled there, and what is spelled there is read.
use Rattle.std.proofs.Common.{◌≡◌, ℕ, zero, suc, ◌<◌, ◌≤◌, ◌^◌, ltb, cond, Bool, true, false, List, [], ◌∷◌, ◌++◌, length, take, drop, get_or, Option, Some, None, refl, sym, ap, ◌∙◌, subst, arith, length-append}
use Rattle.std.specs.Int.{w16, w32, w64, to_le_bytes, from_le_bytes}
use Rattle.std.proofs.lemmas.Bool.{le-ltb, ltb-false, ltb-true}
use Rattle.std.proofs.lemmas.List.{drop_at, length-take-le, take-append-drop, take_at}
use Rattle.std.proofs.lemmas.Nat.{from_le_bytes-to_le_bytes_2, from_le_bytes-to_le_bytes_4, from_le_bytes-to_le_bytes_8, le_bytes_2, le_bytes_4, le_bytes_8}
use Rattle.std.proofs.lemmas.Option.{same_Some}
use Rattle.spk_frames.specs.Reading.{eight_at, four_at, two_at}
use Rattle.spk_frames.specs.Numbers.{eight, four, two}

-- each number of the list is below 256
abbrev pub IsBytes : List ℕ → Type 0
IsBytes bytes = (i : ℕ) → get_or bytes i 0 < 256

pub IsBytes-rest : (b : ℕ) (bytes : List ℕ) → IsBytes (b ∷ bytes) → IsBytes bytes
IsBytes-rest b bytes fits i = fits (suc i)

pub IsBytes-after : (front rest : List ℕ) → IsBytes (front ++ rest) → IsBytes rest
IsBytes-after [] rest fits = fits
IsBytes-after (b ∷ front) rest fits = IsBytes-after front rest (IsBytes-rest b (front ++ rest) fits)

pub IsBytes-before : (front rest : List ℕ) → IsBytes (front ++ rest) → IsBytes front
IsBytes-before [] rest fits i = omega arith
IsBytes-before (b ∷ front) rest fits zero = fits zero
IsBytes-before (b ∷ front) rest fits (suc i) = IsBytes-before front rest (IsBytes-rest b (front ++ rest) fits) i

pub IsBytes-behind : (bytes front rest : List ℕ) → bytes ≡ front ++ rest → IsBytes bytes → IsBytes rest
IsBytes-behind bytes front rest e fits = IsBytes-after front rest (subst IsBytes e fits)

IsBytes-take : (n : ℕ) (bytes : List ℕ) → IsBytes bytes → IsBytes (take n bytes)
IsBytes-take n bytes fits = IsBytes-before (take n bytes) (drop n bytes) (subst IsBytes (sym (take-append-drop n bytes)) fits)

pub IsBytes-drop : (n : ℕ) (bytes : List ℕ) → IsBytes bytes → IsBytes (drop n bytes)
IsBytes-drop n bytes fits = IsBytes-behind bytes (take n bytes) (drop n bytes) (sym (take-append-drop n bytes)) fits

-- ---- how large they are

below_two : (bytes : List ℕ) → IsBytes bytes → from_le_bytes w16 bytes < 2 ^ 16
below_two bytes fits = omega (arith, fits 0, fits 1)

below_four : (bytes : List ℕ) → IsBytes bytes → from_le_bytes w32 bytes < 2 ^ 32
below_four bytes fits = omega (arith, fits 0, fits 1, fits 2, fits 3)

below_eight : (bytes : List ℕ) → IsBytes bytes → from_le_bytes w64 bytes < 2 ^ 64
below_eight bytes fits = omega (arith, fits 0, fits 1, fits 2, fits 3, fits 4, fits 5, fits 6, fits 7)

-- ---- either enough bytes or none

abbrev taken : ℕ → (List ℕ → ℕ) → List ℕ → Option (ℕ × List ℕ)
taken n value bytes = cond (ltb (length bytes) n) None (Some (value (take n bytes), drop n bytes))

by_size : (b : Bool) (x y : ℕ × List ℕ) → cond b None (Some x) ≡ Some y → (b ≡ false) × (x ≡ y)
by_size true x y e = absurd cc
by_size false x y e = (refl, same_Some x y e)

none_is : (b : Bool) (x : ℕ × List ℕ) → cond b None (Some x) ≡ None → b ≡ true
none_is true x e = refl
none_is false x e = absurd cc

pub record Took (bytes : List ℕ) (k : ℕ) (value : List ℕ → ℕ) (n : ℕ) (rest : List ℕ) : Type 0 where
  pub long : k ≤ length bytes
  pub value_is : value (take k bytes) ≡ n
  pub rest_is : drop k bytes ≡ rest

took : (bytes : List ℕ) (k : ℕ) (value : List ℕ → ℕ) (n : ℕ) (rest : List ℕ) → taken k value bytes ≡ Some (n, rest) → Took bytes k value n rest
took bytes k value n rest e =
    let g = by_size (ltb (length bytes) k) (value (take k bytes), drop k bytes) (n, rest) e in
    record {
      long = ltb-false (length bytes) k g.0;
      value_is = ap (λ (x : ℕ × List ℕ). x.0) g.1;
      rest_is = ap (λ (x : ℕ × List ℕ). x.1) g.1;
    }

few : (bytes : List ℕ) (k : ℕ) (value : List ℕ → ℕ) → taken k value bytes ≡ None → length bytes < k
few bytes k value e = ltb-true (length bytes) k (none_is (ltb (length bytes) k) (value (take k bytes), drop k bytes) e)

again : (front rest : List ℕ) (k : ℕ) (value : List ℕ → ℕ) → length front ≡ k → taken k value (front ++ rest) ≡ Some (value front, rest)
again front rest k value long =
    let enough : k ≤ length (front ++ rest) = omega (arith, length-append front rest) in
    rw (le-ltb (length (front ++ rest)) k enough, take_at front rest k long, drop_at front rest k long) refl

-- ---- two, four and eight bytes

pub record Spelled (bytes : List ℕ) (spell : ℕ → List ℕ) (bound n : ℕ) (rest : List ℕ) : Type 0 where
  pub are : bytes ≡ spell n ++ rest
  pub small : n < bound
  pub fits : IsBytes rest

parts : (bytes front rest : List ℕ) (k : ℕ) → front ≡ take k bytes → drop k bytes ≡ rest → bytes ≡ front ++ rest
parts bytes front rest k e f = sym (take-append-drop k bytes) ∙ ap (λ (x : List ℕ). x ++ drop k bytes) (sym e) ∙ ap (λ (x : List ℕ). front ++ x) f

pub two_takes : (bytes : List ℕ) (n : ℕ) (rest : List ℕ) → IsBytes bytes → two_at bytes ≡ Some (n, rest) → Spelled bytes two (2 ^ 16) n rest
unfolding two_at two
two_takes bytes n rest fits e =
    let t = took bytes 2 (from_le_bytes w16) n rest e in
    let front = take 2 bytes in
    let small : IsBytes front = IsBytes-take 2 bytes fits in
    let are = parts bytes (to_le_bytes w16 n) rest 2 (le_bytes_2 front n (length-take-le 2 bytes t.long) small (sym t.value_is)) t.rest_is in
    record {
      are = are;
      small = subst (λ m. m < 2 ^ 16) t.value_is (below_two front small);
      fits = IsBytes-behind bytes (to_le_bytes w16 n) rest are fits;
    }

pub four_takes : (bytes : List ℕ) (n : ℕ) (rest : List ℕ) → IsBytes bytes → four_at bytes ≡ Some (n, rest) → Spelled bytes four (2 ^ 32) n rest
unfolding four_at four
four_takes bytes n rest fits e =
    let t = took bytes 4 (from_le_bytes w32) n rest e in
    let front = take 4 bytes in
    let small : IsBytes front = IsBytes-take 4 bytes fits in
    let are = parts bytes (to_le_bytes w32 n) rest 4 (le_bytes_4 front n (length-take-le 4 bytes t.long) small (sym t.value_is)) t.rest_is in
    record {
      are = are;
      small = subst (λ m. m < 2 ^ 32) t.value_is (below_four front small);
      fits = IsBytes-behind bytes (to_le_bytes w32 n) rest are fits;
    }

pub eight_takes : (bytes : List ℕ) (n : ℕ) (rest : List ℕ) → IsBytes bytes → eight_at bytes ≡ Some (n, rest) → Spelled bytes eight (2 ^ 64) n rest
unfolding eight_at eight
eight_takes bytes n rest fits e =
    let t = took bytes 8 (from_le_bytes w64) n rest e in
    let front = take 8 bytes in
    let small : IsBytes front = IsBytes-take 8 bytes fits in
    let are = parts bytes (to_le_bytes w64 n) rest 8 (le_bytes_8 front n (length-take-le 8 bytes t.long) small (sym t.value_is)) t.rest_is in
    record {
      are = are;
      small = subst (λ m. m < 2 ^ 64) t.value_is (below_eight front small);
      fits = IsBytes-behind bytes (to_le_bytes w64 n) rest are fits;
    }

pub four_none : (bytes : List ℕ) → four_at bytes ≡ None → length bytes < 4
unfolding four_at
four_none bytes e = few bytes 4 (from_le_bytes w32) e

pub two_again : (n : ℕ) (rest : List ℕ) → n < 2 ^ 16 → two_at (two n ++ rest) ≡ Some (n, rest)
unfolding two_at two
two_again n rest lt = again (to_le_bytes w16 n) rest 2 (from_le_bytes w16) refl ∙ ap (λ m. Some (m, rest)) (from_le_bytes-to_le_bytes_2 n lt)

pub four_again : (n : ℕ) (rest : List ℕ) → n < 2 ^ 32 → four_at (four n ++ rest) ≡ Some (n, rest)
unfolding four_at four
four_again n rest lt = again (to_le_bytes w32 n) rest 4 (from_le_bytes w32) refl ∙ ap (λ m. Some (m, rest)) (from_le_bytes-to_le_bytes_4 n lt)

pub eight_again : (n : ℕ) (rest : List ℕ) → n < 2 ^ 64 → eight_at (eight n ++ rest) ≡ Some (n, rest)
unfolding eight_at eight
eight_again n rest lt = again (to_le_bytes w64 n) rest 8 (from_le_bytes w64) refl ∙ ap (λ m. Some (m, rest)) (from_le_bytes-to_le_bytes_8 n lt)
