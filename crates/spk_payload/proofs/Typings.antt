-- What is written of a value is read as that value.
use Rattle.std.proofs.Common.{◌≡◌, ℕ, suc, ◌-◌, ◌*◌, ◌^◌, ◌<◌, ◌≤◌, ℤ, pos, negsuc, ◌-ℤ◌, Bool, true, false, cond, ltb, Some, None, refl, sym, ap, ◌∙◌, arith}
use Rattle.std.specs.Prelude.{option_and_then}
use Rattle.std.specs.Option.{option_map}
use Rattle.std.proofs.lemmas.Bool.{ltb-true, lt-ltb, le-ltb}
use Rattle.std.proofs.lemmas.Int.{ints}
use Rattle.spk_payload.specs.Meaning.{Content, Int, Long, Flag, Words, Octets, Float, Double}
use Rattle.spk_payload.specs.Typing.{Typed, Signed, Unsigned, Truth, Text, Bytes, Binary32, Binary64, int_in, long_in, int_or_long_in, truth_in, text_in, bytes_in, float_in, double_in, narrow_signed, signed_64, below, typed_of, int_of_signed, long_of_signed, int_of_unsigned, long_of_unsigned, flag_of, words_of, octets_of, float_written, double_written, written_of, TypedFits}
use Rattle.spk_payload.proofs.Metrics.{at_or_not}

nothing_is : {X Y : Type 0} (x : X) → None ≡ Some x → Y
nothing_is x e = absurd cc

some_is : {X : Type 0} (x y : X) → Some x ≡ Some y → x ≡ y
some_is x y e = cc

-- what a test let through
passed : {X : Type 0} (b : Bool) (x y : X) → cond b (Some x) None ≡ Some y → (b ≡ true) × (x ≡ y)
passed true x y e = (refl, some_is x y e)
passed false x y e = nothing_is y e

negative_32 : (n : ℕ) → n < 2 ^ 31 → pos (2 ^ 32 - suc n) -ℤ pos (2 ^ 32) ≡ negsuc n
negative_32 n lt = omega (arith, ints)

negative_64 : (n : ℕ) → n < 2 ^ 63 → pos (2 ^ 64 - suc n) -ℤ pos (2 ^ 64) ≡ negsuc n
negative_64 n lt = omega (arith, ints)

narrow_pos : (half n : ℕ) → n < half → narrow_signed half n ≡ Some (Signed (pos n))
narrow_pos half n lt = let t : ltb n half ≡ true = lt-ltb _ _ lt in rw t refl

-- twice half is 2^32, or no negative number's bits lie below it
abbrev IsHalf : ℕ → Type 0
IsHalf half = (half ≤ 2 ^ 31) × ((n : ℕ) → n < half → 2 ^ 32 - suc n < 2 * half → 2 * half ≡ 2 ^ 32)

narrow_neg : (half n : ℕ) → IsHalf half → n < half → narrow_signed half (2 ^ 32 - suc n) ≡ Some (Signed (negsuc n))
narrow_neg half n is lt =
    let le : half ≤ 2 ^ 31 = is.0 in
    let t : ltb (2 ^ 32 - suc n) half ≡ false = le-ltb _ _ (omega arith) in
    let u : ltb (2 ^ 32 - suc n) (2 ^ 32 - half) ≡ false = le-ltb _ _ (omega arith) in
    let e = negative_32 n (omega arith) in
    rw t (by_double (ltb (2 ^ 32 - suc n) (2 * half)) refl u e (is.1 n lt))
  where
    by_double : (b : Bool) → ltb (2 ^ 32 - suc n) (2 * half) ≡ b → ltb (2 ^ 32 - suc n) (2 ^ 32 - half) ≡ false → pos (2 ^ 32 - suc n) -ℤ pos (2 ^ 32) ≡ negsuc n → (2 ^ 32 - suc n < 2 * half → 2 * half ≡ 2 ^ 32)
        → cond (ltb (2 ^ 32 - suc n) (2 * half)) (Some (Signed (pos (2 ^ 32 - suc n) -ℤ pos (2 * half)))) (cond (ltb (2 ^ 32 - suc n) (2 ^ 32 - half)) None (Some (Signed (pos (2 ^ 32 - suc n) -ℤ pos (2 ^ 32))))) ≡ Some (Signed (negsuc n))
    by_double true d u e double =
        let below : 2 ^ 32 - suc n < 2 * half = ltb-true _ _ d in
        let whole : 2 * half ≡ 2 ^ 32 = double below in
        rw d (ap (λ (w : ℕ). Some (Signed (pos (2 ^ 32 - suc n) -ℤ pos w))) whole ∙ ap (λ (z : ℤ). Some (Signed z)) e)
    by_double false d u e double = rw (d, u) (ap (λ (z : ℤ). Some (Signed z)) e)

signed_again : (half : ℕ) (v : Typed) (c : Content) → IsHalf half → int_of_signed half v ≡ Some c → option_and_then (narrow_signed half) (int_in c) ≡ Some v
signed_again half (Signed (pos n)) c le e =
    let p = passed (ltb n half) (Int n) c e in
    ap (λ (x : Content). option_and_then (narrow_signed half) (int_in x)) (sym p.1) ∙ narrow_pos half n (ltb-true _ _ p.0)
signed_again half (Signed (negsuc n)) c le e =
    let p = passed (ltb n half) (Int (2 ^ 32 - suc n)) c e in
    ap (λ (x : Content). option_and_then (narrow_signed half) (int_in x)) (sym p.1) ∙ narrow_neg half n le (ltb-true _ _ p.0)
signed_again half (Unsigned n) c le e = nothing_is c e
signed_again half (Truth b) c le e = nothing_is c e
signed_again half (Text bytes) c le e = nothing_is c e
signed_again half (Bytes bytes) c le e = nothing_is c e
signed_again half (Binary32 n) c le e = nothing_is c e
signed_again half (Binary64 n) c le e = nothing_is c e

long_signed_again : (v : Typed) (c : Content) → TypedFits v → long_of_signed v ≡ Some c → option_map signed_64 (long_in c) ≡ Some v
long_signed_again (Signed (pos n)) c fits e =
    let t : ltb n (2 ^ 63) ≡ true = lt-ltb _ _ fits in
    ap (λ (x : Content). option_map signed_64 (long_in x)) (sym (some_is (Long n) c e)) ∙ rw t refl
long_signed_again (Signed (negsuc n)) c fits e =
    let t : ltb (2 ^ 64 - suc n) (2 ^ 63) ≡ false = le-ltb _ _ (omega (arith, fits)) in
    ap (λ (x : Content). option_map signed_64 (long_in x)) (sym (some_is (Long (2 ^ 64 - suc n)) c e)) ∙ rw t (ap (λ (z : ℤ). Some (Signed z)) (negative_64 n fits))
long_signed_again (Unsigned n) c fits e = nothing_is c e
long_signed_again (Truth b) c fits e = nothing_is c e
long_signed_again (Text bytes) c fits e = nothing_is c e
long_signed_again (Bytes bytes) c fits e = nothing_is c e
long_signed_again (Binary32 n) c fits e = nothing_is c e
long_signed_again (Binary64 n) c fits e = nothing_is c e

below_again : (limit n : ℕ) → ltb n limit ≡ true → below limit n ≡ Some (Unsigned n)
below_again limit n t = rw t refl

unsigned_again : (limit : ℕ) (v : Typed) (c : Content) → int_of_unsigned limit v ≡ Some c → (option_and_then (below limit) (int_in c) ≡ Some v) × (option_and_then (below limit) (int_or_long_in c) ≡ Some v)
unsigned_again limit (Unsigned n) c e =
    let p = passed (ltb n limit) (Int n) c e in
    (ap (λ (x : Content). option_and_then (below limit) (int_in x)) (sym p.1) ∙ below_again limit n p.0, ap (λ (x : Content). option_and_then (below limit) (int_or_long_in x)) (sym p.1) ∙ below_again limit n p.0)
unsigned_again limit (Signed z) c e = nothing_is c e
unsigned_again limit (Truth b) c e = nothing_is c e
unsigned_again limit (Text bytes) c e = nothing_is c e
unsigned_again limit (Bytes bytes) c e = nothing_is c e
unsigned_again limit (Binary32 n) c e = nothing_is c e
unsigned_again limit (Binary64 n) c e = nothing_is c e

long_unsigned_again : (v : Typed) (c : Content) → long_of_unsigned v ≡ Some c → (option_map Unsigned (long_in c) ≡ Some v) × (option_map Unsigned (int_or_long_in c) ≡ Some v)
long_unsigned_again (Unsigned n) c e = (ap (λ (x : Content). option_map Unsigned (long_in x)) (sym (some_is (Long n) c e)), ap (λ (x : Content). option_map Unsigned (int_or_long_in x)) (sym (some_is (Long n) c e)))
long_unsigned_again (Signed z) c e = nothing_is c e
long_unsigned_again (Truth b) c e = nothing_is c e
long_unsigned_again (Text bytes) c e = nothing_is c e
long_unsigned_again (Bytes bytes) c e = nothing_is c e
long_unsigned_again (Binary32 n) c e = nothing_is c e
long_unsigned_again (Binary64 n) c e = nothing_is c e

flag_again : (v : Typed) (c : Content) → flag_of v ≡ Some c → truth_in c ≡ Some v
flag_again (Truth b) c e = ap truth_in (sym (some_is (Flag b) c e))
flag_again (Signed z) c e = nothing_is c e
flag_again (Unsigned n) c e = nothing_is c e
flag_again (Text bytes) c e = nothing_is c e
flag_again (Bytes bytes) c e = nothing_is c e
flag_again (Binary32 n) c e = nothing_is c e
flag_again (Binary64 n) c e = nothing_is c e

words_again : (v : Typed) (c : Content) → words_of v ≡ Some c → text_in c ≡ Some v
words_again (Text bytes) c e = ap text_in (sym (some_is (Words bytes) c e))
words_again (Signed z) c e = nothing_is c e
words_again (Unsigned n) c e = nothing_is c e
words_again (Truth b) c e = nothing_is c e
words_again (Bytes bytes) c e = nothing_is c e
words_again (Binary32 n) c e = nothing_is c e
words_again (Binary64 n) c e = nothing_is c e

octets_again : (v : Typed) (c : Content) → octets_of v ≡ Some c → bytes_in c ≡ Some v
octets_again (Bytes bytes) c e = ap bytes_in (sym (some_is (Octets bytes) c e))
octets_again (Signed z) c e = nothing_is c e
octets_again (Unsigned n) c e = nothing_is c e
octets_again (Truth b) c e = nothing_is c e
octets_again (Text bytes) c e = nothing_is c e
octets_again (Binary32 n) c e = nothing_is c e
octets_again (Binary64 n) c e = nothing_is c e

float_again : (v : Typed) (c : Content) → float_written v ≡ Some c → float_in c ≡ Some v
float_again (Binary32 n) c e = ap float_in (sym (some_is (Float n) c e))
float_again (Signed z) c e = nothing_is c e
float_again (Unsigned n) c e = nothing_is c e
float_again (Truth b) c e = nothing_is c e
float_again (Text bytes) c e = nothing_is c e
float_again (Bytes bytes) c e = nothing_is c e
float_again (Binary64 n) c e = nothing_is c e

double_again : (v : Typed) (c : Content) → double_written v ≡ Some c → double_in c ≡ Some v
double_again (Binary64 n) c e = ap double_in (sym (some_is (Double n) c e))
double_again (Signed z) c e = nothing_is c e
double_again (Unsigned n) c e = nothing_is c e
double_again (Truth b) c e = nothing_is c e
double_again (Text bytes) c e = nothing_is c e
double_again (Bytes bytes) c e = nothing_is c e
double_again (Binary32 n) c e = nothing_is c e

half_7 : IsHalf (2 ^ 7)
half_7 = (omega arith, λ n lt k. absurd (omega arith))

half_15 : IsHalf (2 ^ 15)
half_15 = (omega arith, λ n lt k. absurd (omega arith))

half_31 : IsHalf (2 ^ 31)
half_31 = (omega arith, λ n lt k. refl)

pub typed_again : (datatype : ℕ) (v : Typed) (c : Content) → TypedFits v → written_of datatype v ≡ Some c → typed_of datatype c ≡ Some v
typed_again d v c fits =
    let P : ℕ → Type 0 = λ k. written_of k v ≡ Some c → typed_of k c ≡ Some v in
    at_or_not P 1 d (λ e. signed_again (2 ^ 7) v c half_7 e) (λ f1. at_or_not P 2 d (λ e. signed_again (2 ^ 15) v c half_15 e) (λ f2. at_or_not P 3 d (λ e. signed_again (2 ^ 31) v c half_31 e) (λ f3. at_or_not P 4 d (λ e. long_signed_again v c fits e) (λ f4.
    at_or_not P 5 d (λ e. (unsigned_again (2 ^ 8) v c e).0) (λ f5. at_or_not P 6 d (λ e. (unsigned_again (2 ^ 16) v c e).0) (λ f6. at_or_not P 7 d (λ e. (unsigned_again (2 ^ 32) v c e).1) (λ f7. at_or_not P 8 d (λ e. (long_unsigned_again v c e).0) (λ f8.
    at_or_not P 9 d (λ e. float_again v c e) (λ f9. at_or_not P 10 d (λ e. double_again v c e) (λ f10.
    at_or_not P 11 d (λ e. flag_again v c e) (λ f11. at_or_not P 12 d (λ e. words_again v c e) (λ f12. at_or_not P 13 d (λ e. (long_unsigned_again v c e).1) (λ f13. at_or_not P 14 d (λ e. words_again v c e) (λ f14. at_or_not P 15 d (λ e. words_again v c e) (λ f15.
    at_or_not P 17 d (λ e. octets_again v c e) (λ f17. at_or_not P 18 d (λ e. octets_again v c e) (λ f18.
    λ e. let none : written_of d v ≡ None = rw (f1, f2, f3, f4, f5, f6, f7, f8, f9, f10, f11, f12, f13, f14, f15, f17, f18) refl in nothing_is c (sym none ∙ e))))))))))))))))))
