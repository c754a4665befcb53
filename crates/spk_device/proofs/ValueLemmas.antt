-- The test of values, and the datatypes that are taken.
use Rattle.std.proofs.Common.{◌≡◌, ◌∙◌, sym, ap, refl, subst, ℕ, Bool, true, false, Option, Some, None, pos, arith, []}
use Rattle.std.proofs.lemmas.Bool.{eqb-true}
use Rattle.std.proofs.lemmas.Bool.Decides.{Decides-eqb, Decides-int_eq, nat_tests}
use Rattle.std.proofs.lemmas.Slice.Eq.{bytes_eq-Decides}
use Rattle.std.specs.Bool.{Decides}
use Rattle.std.specs.Prelude.{◌==◌, ◌&&◌, ◌||◌, not, if◌then◌else◌}
use Rattle.spk_payload.specs.Meaning.{Content, Int, Long, Flag, Words, Octets, Float, Double}
use Rattle.spk_payload.specs.Typing.{Typed, Signed, Unsigned, Truth, Text, Bytes, Binary32, Binary64, written_of}
use Rattle.spk_payload.specs.declared.values.Values.{Values}
use Rattle.spk_payload.specs.declared.values.Values.TheVariants as choice
use Rattle.spk_device.specs.Values.{flag_eq, is_float, is_whole, is_written, typed_eq, value_eq}

flag_eq-Decides : (a b : Bool) → Decides (flag_eq a b) (a ≡ b)
flag_eq-Decides true true = ((λ h. refl), (λ e. refl))
flag_eq-Decides true false = ((λ h. cc), (λ e. cc))
flag_eq-Decides false true = ((λ h. cc), (λ e. cc))
flag_eq-Decides false false = ((λ h. refl), (λ e. refl))

pub typed_eq-Decides : (v w : Typed) → Decides (typed_eq v w) (v ≡ w)
typed_eq-Decides (Signed x) (Signed y) = ((λ h. ap (λ z. Signed z) ((Decides-int_eq x y).0 h)), (λ e. (Decides-int_eq x y).1 cc))
typed_eq-Decides (Signed x) (Unsigned y) = ((λ h. cc), (λ e. cc))
typed_eq-Decides (Signed x) (Truth y) = ((λ h. cc), (λ e. cc))
typed_eq-Decides (Signed x) (Text y) = ((λ h. cc), (λ e. cc))
typed_eq-Decides (Signed x) (Bytes y) = ((λ h. cc), (λ e. cc))
typed_eq-Decides (Signed x) (Binary32 y) = ((λ h. cc), (λ e. cc))
typed_eq-Decides (Signed x) (Binary64 y) = ((λ h. cc), (λ e. cc))
typed_eq-Decides (Unsigned x) (Signed y) = ((λ h. cc), (λ e. cc))
typed_eq-Decides (Unsigned x) (Unsigned y) = ((λ h. ap (λ z. Unsigned z) ((Decides-eqb x y).0 h)), (λ e. (Decides-eqb x y).1 cc))
typed_eq-Decides (Unsigned x) (Truth y) = ((λ h. cc), (λ e. cc))
typed_eq-Decides (Unsigned x) (Text y) = ((λ h. cc), (λ e. cc))
typed_eq-Decides (Unsigned x) (Bytes y) = ((λ h. cc), (λ e. cc))
typed_eq-Decides (Unsigned x) (Binary32 y) = ((λ h. cc), (λ e. cc))
typed_eq-Decides (Unsigned x) (Binary64 y) = ((λ h. cc), (λ e. cc))
typed_eq-Decides (Truth x) (Signed y) = ((λ h. cc), (λ e. cc))
typed_eq-Decides (Truth x) (Unsigned y) = ((λ h. cc), (λ e. cc))
typed_eq-Decides (Truth x) (Truth y) = ((λ h. ap (λ z. Truth z) ((flag_eq-Decides x y).0 h)), (λ e. (flag_eq-Decides x y).1 cc))
typed_eq-Decides (Truth x) (Text y) = ((λ h. cc), (λ e. cc))
typed_eq-Decides (Truth x) (Bytes y) = ((λ h. cc), (λ e. cc))
typed_eq-Decides (Truth x) (Binary32 y) = ((λ h. cc), (λ e. cc))
typed_eq-Decides (Truth x) (Binary64 y) = ((λ h. cc), (λ e. cc))
typed_eq-Decides (Text x) (Signed y) = ((λ h. cc), (λ e. cc))
typed_eq-Decides (Text x) (Unsigned y) = ((λ h. cc), (λ e. cc))
typed_eq-Decides (Text x) (Truth y) = ((λ h. cc), (λ e. cc))
typed_eq-Decides (Text x) (Text y) = ((λ h. ap (λ z. Text z) ((bytes_eq-Decides x y).0 h)), (λ e. (bytes_eq-Decides x y).1 cc))
typed_eq-Decides (Text x) (Bytes y) = ((λ h. cc), (λ e. cc))
typed_eq-Decides (Text x) (Binary32 y) = ((λ h. cc), (λ e. cc))
typed_eq-Decides (Text x) (Binary64 y) = ((λ h. cc), (λ e. cc))
typed_eq-Decides (Bytes x) (Signed y) = ((λ h. cc), (λ e. cc))
typed_eq-Decides (Bytes x) (Unsigned y) = ((λ h. cc), (λ e. cc))
typed_eq-Decides (Bytes x) (Truth y) = ((λ h. cc), (λ e. cc))
typed_eq-Decides (Bytes x) (Text y) = ((λ h. cc), (λ e. cc))
typed_eq-Decides (Bytes x) (Bytes y) = ((λ h. ap (λ z. Bytes z) ((bytes_eq-Decides x y).0 h)), (λ e. (bytes_eq-Decides x y).1 cc))
typed_eq-Decides (Bytes x) (Binary32 y) = ((λ h. cc), (λ e. cc))
typed_eq-Decides (Bytes x) (Binary64 y) = ((λ h. cc), (λ e. cc))
typed_eq-Decides (Binary32 x) (Signed y) = ((λ h. cc), (λ e. cc))
typed_eq-Decides (Binary32 x) (Unsigned y) = ((λ h. cc), (λ e. cc))
typed_eq-Decides (Binary32 x) (Truth y) = ((λ h. cc), (λ e. cc))
typed_eq-Decides (Binary32 x) (Text y) = ((λ h. cc), (λ e. cc))
typed_eq-Decides (Binary32 x) (Bytes y) = ((λ h. cc), (λ e. cc))
typed_eq-Decides (Binary32 x) (Binary32 y) = ((λ h. ap (λ z. Binary32 z) ((Decides-eqb x y).0 h)), (λ e. (Decides-eqb x y).1 cc))
typed_eq-Decides (Binary32 x) (Binary64 y) = ((λ h. cc), (λ e. cc))
typed_eq-Decides (Binary64 x) (Signed y) = ((λ h. cc), (λ e. cc))
typed_eq-Decides (Binary64 x) (Unsigned y) = ((λ h. cc), (λ e. cc))
typed_eq-Decides (Binary64 x) (Truth y) = ((λ h. cc), (λ e. cc))
typed_eq-Decides (Binary64 x) (Text y) = ((λ h. cc), (λ e. cc))
typed_eq-Decides (Binary64 x) (Bytes y) = ((λ h. cc), (λ e. cc))
typed_eq-Decides (Binary64 x) (Binary32 y) = ((λ h. cc), (λ e. cc))
typed_eq-Decides (Binary64 x) (Binary64 y) = ((λ h. ap (λ z. Binary64 z) ((Decides-eqb x y).0 h)), (λ e. (Decides-eqb x y).1 cc))

pub value_eq-Decides : (a b : Option Typed) → Decides (value_eq a b) (a ≡ b)
value_eq-Decides None None = ((λ h. refl), (λ e. refl))
value_eq-Decides None (Some w) = ((λ h. cc), (λ e. cc))
value_eq-Decides (Some v) None = ((λ h. cc), (λ e. cc))
value_eq-Decides (Some v) (Some w) = ((λ h. ap (λ z. Some z) ((typed_eq-Decides v w).0 h)), (λ e. (typed_eq-Decides v w).1 cc))

-- ---- the datatypes that are taken

-- one row of the table
row : (d n : ℕ) (here rest : Option Content) (c : Content) → is_written choice.All n ≡ true → (rest ≡ Some c → is_written choice.All d ≡ true)
    → (if d == n then here else rest) ≡ Some c → is_written choice.All d ≡ true
row d n here rest c known more h = by (d == n) refl h
  where
    by : (b : Bool) → (d == n) ≡ b → (if b then here else rest) ≡ Some c → is_written choice.All d ≡ true
    by true is e = ap (is_written choice.All) (eqb-true d n is) ∙ known
    by false is e = more e

pub written-taken : (d : ℕ) (v : Typed) (c : Content) → written_of d v ≡ Some c → is_written choice.All d ≡ true
written-taken d v c =
    row d 1 _ _ c refl (row d 2 _ _ c refl (row d 3 _ _ c refl (row d 4 _ _ c refl (row d 5 _ _ c refl
    (row d 6 _ _ c refl (row d 7 _ _ c refl (row d 8 _ _ c refl (row d 9 _ _ c refl (row d 10 _ _ c refl (row d 11 _ _ c refl
    (row d 12 _ _ c refl (row d 13 _ _ c refl (row d 14 _ _ c refl (row d 15 _ _ c refl (row d 17 _ _ c refl (row d 18 _ _ c refl (λ h. cc)))))))))))))))))

abbrev Writes : ℕ → Type 0
Writes d = (v : Typed) × (c : Content) × (written_of d v ≡ Some c)

-- one number after another
next : (d n : ℕ) → Writes n → ((d == n) ≡ false → Writes d) → Writes d
next d n one more = by (d == n) refl
  where
    by : (b : Bool) → (d == n) ≡ b → Writes d
    by true is = subst Writes (sym (eqb-true d n is)) one
    by false is = more is

whole-written : (d : ℕ) → is_whole d ≡ true → Writes d
whole-written d h =
    next d 1 (Signed (pos 0), Int 0, refl) (λ n1. next d 2 (Signed (pos 0), Int 0, refl) (λ n2. next d 3 (Signed (pos 0), Int 0, refl) (λ n3.
    next d 4 (Signed (pos 0), Long 0, refl) (λ n4. next d 5 (Unsigned 0, Int 0, refl) (λ n5. next d 6 (Unsigned 0, Int 0, refl) (λ n6.
    next d 7 (Unsigned 0, Int 0, refl) (λ n7. next d 8 (Unsigned 0, Long 0, refl) (λ n8. next d 11 (Truth true, Flag true, refl) (λ n11.
    next d 12 (Text [], Words [], refl) (λ n12. next d 13 (Unsigned 0, Long 0, refl) (λ n13. next d 14 (Text [], Words [], refl) (λ n14.
    next d 15 (Text [], Words [], refl) (λ n15. next d 17 (Bytes [], Octets [], refl) (λ n17. next d 18 (Bytes [], Octets [], refl) (λ n18.
    absurd (grind (arith, nat_tests)))))))))))))))))

pub taken-written : (values : Values) (d : ℕ) → is_written values d ≡ true → Writes d
taken-written choice.Whole d h = whole-written d h
taken-written choice.All d h =
    next d 9 (Binary32 0, Float 0, refl) (λ n9. next d 10 (Binary64 0, Double 0, refl) (λ n10.
    whole-written d (without (is_whole d) (d == 9) (d == 10) n9 n10 h)))
  where
    without : (w a b : Bool) → a ≡ false → b ≡ false → (w || (a || b)) ≡ true → w ≡ true
    without true a b p q e = refl
    without false false false p q e = e
    without false true b p q e = cc
    without false false true p q e = cc

pub whole-alone : (d : ℕ) → is_written choice.Whole d ≡ (is_written choice.All d && not (is_float d))
whole-alone d = by (is_whole d) (is_float d) refl refl
  where
    off : is_whole d ≡ true → is_float d ≡ true → ⊥
    off w f = grind (arith, nat_tests)

    by : (w f : Bool) → is_whole d ≡ w → is_float d ≡ f → w ≡ ((w || f) && not f)
    by true true w f = absurd (off w f)
    by true false w f = refl
    by false true w f = refl
    by false false w f = refl
