-- What is written is read again as the same bits.
use Rattle.std.proofs.Common.{◌≡◌, ℕ, ◌*◌, ◌<◌, true, false, cond, List, codes, refl, sym, ap, ◌∙◌, Some, None, option_and_then, from_bits, Result, Ok, Err}
use Rattle.std.specs.Prelude.{IfOk}
use Rattle.std.specs.Option.{option_map, option_or}
use Rattle.std.specs.Float.{Float, Format, nan, inf, fin, float_is_finite, is_sign_negative}
use Rattle.fast_float.specs.Parse.{parse_float}
use Rattle.fast_float.proofs.OnLiterals.{fast_float_on_literals}
use Rattle.std.proofs.lemmas.Float.{T_from_false}
use lib.Ieee.{top, is_nan, to_bits}
use lib.Ieee.Bits.{to_bits-of_bits}
use Rattle.spk_floats.specs.Text.{word_of, said_by, finite_bits, finite_bits_in, word_bits, bits_in, one_nan}

-- ---- which word

pub of_nan : (x : Float) → is_nan x ≡ true → word_of x ≡ codes "NaN"
unfolding is_nan
of_nan nan e = refl
of_nan (inf s) e = absurd cc
of_nan (fin s m e) f = absurd cc

pub of_minus : (x : Float) → is_nan x ≡ false → is_sign_negative x ≡ true → float_is_finite x ≡ false → word_of x ≡ codes "-Infinity"
unfolding is_nan is_sign_negative float_is_finite
of_minus nan e f g = absurd cc
of_minus (inf true) e f g = refl
of_minus (inf false) e f g = absurd cc
of_minus (fin s m x) e f g = absurd cc

pub of_plus : (x : Float) → is_nan x ≡ false → is_sign_negative x ≡ false → float_is_finite x ≡ false → word_of x ≡ codes "Infinity"
unfolding is_nan is_sign_negative float_is_finite
of_plus nan e f g = absurd cc
of_plus (inf true) e f g = absurd cc
of_plus (inf false) e f g = refl
of_plus (fin s m x) e f g = absurd cc

-- ---- reading it again

finite-not_nan : (x : Float) → float_is_finite x ≡ true → is_nan x ≡ false
unfolding is_nan float_is_finite
finite-not_nan nan e = absurd cc
finite-not_nan (inf s) e = absurd cc
finite-not_nan (fin s m x) e = refl

same_bits : (f : Format) (bits : ℕ) → bits < 2 * top f → is_nan (from_bits f bits) ≡ false → to_bits f (from_bits f bits) ≡ bits
same_bits f bits fits is = to_bits-of_bits f bits fits (T_from_false _ is)

pub number_again : (f : Format) (bits : ℕ) (text : List ℕ) → bits < 2 * top f → float_is_finite (from_bits f bits) ≡ true
    → parse_float f text ≡ Some (from_bits f bits) → bits_in f text ≡ Some (one_nan f bits)
number_again f bits text fits is parsed =
    let number = finite-not_nan (from_bits f bits) is in
    let same = same_bits f bits fits number in
    let first : finite_bits_in f text ≡ Some bits =
    ap (option_and_then (finite_bits f)) parsed ∙ ap (λ b. cond b (Some (to_bits f (from_bits f bits))) None) is ∙ ap Some same in
    ap (λ o. option_or o (word_bits f text)) first ∙ ap Some (sym (ap (λ b. cond b (to_bits f nan) bits) number))

-- no word says a finite number
no_number : (f : Format) (x : Float) → float_is_finite x ≡ false → finite_bits_in f (word_of x) ≡ None
unfolding fast_float_on_literals float_is_finite
no_number f nan e = refl
no_number f (inf true) e = refl
no_number f (inf false) e = refl
no_number f (fin s m x) e = absurd cc

says : (x : Float) → float_is_finite x ≡ false → said_by (word_of x) ≡ Some x
unfolding float_is_finite
says nan e = refl
says (inf true) e = refl
says (inf false) e = refl
says (fin s m x) e = absurd cc

-- the bits of what isn't finite
kept : (f : Format) (bits : ℕ) (x : Float) → x ≡ from_bits f bits → bits < 2 * top f → float_is_finite x ≡ false → to_bits f x ≡ one_nan f bits
unfolding is_nan float_is_finite
kept f bits nan e fits is = ap (λ y. cond (is_nan y) (to_bits f nan) bits) e
kept f bits (inf s) e fits is =
    let number : is_nan (from_bits f bits) ≡ false = sym (ap is_nan e) in
    ap (to_bits f) e ∙ same_bits f bits fits number ∙ sym (ap (λ b. cond b (to_bits f nan) bits) number)
kept f bits (fin s m x) e fits is = absurd cc

pub word_again : (f : Format) (bits : ℕ) → bits < 2 * top f → float_is_finite (from_bits f bits) ≡ false
    → bits_in f (word_of (from_bits f bits)) ≡ Some (one_nan f bits)
word_again f bits fits is =
    let x = from_bits f bits in
    ap (λ o. option_or o (word_bits f (word_of x))) (no_number f x is)
    ∙ ap (λ o. option_map (to_bits f) o) (says x is)
    ∙ ap Some (kept f bits x refl fits is)

-- ---- the bits of each word

pub nan_is : (f : Format) → word_bits f (codes "NaN") ≡ Some (to_bits f nan)
nan_is f = refl

pub plus_is : (f : Format) → word_bits f (codes "Infinity") ≡ Some (to_bits f (inf false))
plus_is f = refl

pub minus_is : (f : Format) → word_bits f (codes "-Infinity") ≡ Some (to_bits f (inf true))
minus_is f = refl

-- ---- of an answer

pub if_ok : {T E : Type 0} (r : Result T E) (P Q : T → Type 0) → ((x : T) → P x → Q x) → IfOk r P → IfOk r Q
if_ok (Ok x) P Q h p = h x p
if_ok (Err e) P Q h p = tt
