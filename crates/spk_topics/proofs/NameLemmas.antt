-- What a name may hold, by one pass over its bytes.
use Rattle.std.proofs.Common.{◌≡◌, ◌∙◌, ℕ, List, [], ◌∷◌, Bool, true, false, refl, ap}
use Rattle.std.specs.Prelude.{not, ◌||◌, ◌&&◌, ◌==◌}
use Rattle.std.specs.List.{list_any}
use Rattle.spk_topics.specs.Levels.{is_empty}
use Rattle.spk_topics.specs.Text.{holds}
use Rattle.spk_topics.specs.Spark.{is_name}

-- one pass for four bytes, and four passes for one each

four_heads : (a b c d p q r s : Bool) → ((a || b || c || d) || (p || q || r || s)) ≡ ((a || p) || (b || q) || (c || r) || (d || s))
four_heads true b c d p q r s = refl
four_heads false b c d true q r s = later b c d
  where
    later : (b c d : Bool) → ((b || c || d) || true) ≡ true
    later true c d = refl
    later false true d = refl
    later false false true = refl
    later false false false = refl
four_heads false true c d false q r s = refl
four_heads false false c d false true r s = later c d
  where
    later : (c d : Bool) → ((c || d) || true) ≡ true
    later true d = refl
    later false true = refl
    later false false = refl
four_heads false false true d false false r s = refl
four_heads false false false d false false true s = later d
  where
    later : (d : Bool) → (d || true) ≡ true
    later true = refl
    later false = refl
four_heads false false false true false false false s = refl
four_heads false false false false false false false s = refl

barred_apart : (text : List ℕ) → list_any (λ b. b == 47 || b == 43 || b == 35 || b == 0) text ≡ (holds 47 text || holds 43 text || holds 35 text || holds 0 text)
barred_apart [] = refl
barred_apart (x ∷ xs) =
    ap (λ t. (x == 47 || x == 43 || x == 35 || x == 0) || t) (barred_apart xs)
    ∙ four_heads (x == 47) (x == 43) (x == 35) (x == 0) (holds 47 xs) (holds 43 xs) (holds 35 xs) (holds 0 xs)

none_of_four : (e a b c d : Bool) → (not e && not (a || b || c || d)) ≡ (not e && not a && (not b && not c) && not d)
none_of_four true a b c d = refl
none_of_four false true b c d = refl
none_of_four false false true c d = refl
none_of_four false false false true d = refl
none_of_four false false false false d = refl

pub name_by_bytes : (text : List ℕ) → (not (is_empty text) && not (list_any (λ b. b == 47 || b == 43 || b == 35 || b == 0) text)) ≡ is_name text
name_by_bytes text =
    ap (λ t. not (is_empty text) && not t) (barred_apart text)
    ∙ none_of_four (is_empty text) (holds 47 text) (holds 43 text) (holds 35 text) (holds 0 text)
