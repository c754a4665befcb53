-- Lists in two pieces are compared piece by piece.
use Rattle.std.proofs.Common.{◌≡◌, ℕ, Bool, true, false, ◌&&◌, nat_eq, List, [], ◌∷◌, ◌++◌, length, refl, sym, ◌∙◌, ap, arith}
use Rattle.std.specs.Cmp.Lexicographic.{pointwise, nat_list_eq_equiv}
use Rattle.std.specs.Cmp.{partial_equiv_from_equiv}

and-assoc : (a b c : Bool) → (a && (b && c)) ≡ ((a && b) && c)
and-assoc true b c = refl
and-assoc false b c = refl

each : (xs ys ps qs : List ℕ) → length xs ≡ length ps → pointwise nat_eq (xs ++ ys) (ps ++ qs) ≡ (pointwise nat_eq xs ps && pointwise nat_eq ys qs)
each [] ys [] qs h = refl
each [] ys (p ∷ ps) qs h = absurd (omega (arith, h))
each (x ∷ xs) ys [] qs h = absurd (omega (arith, h))
each (x ∷ xs) ys (p ∷ ps) qs h =
    ap (λ b. nat_eq x p && b) (each xs ys ps qs (omega (arith, h))) ∙ and-assoc (nat_eq x p) (pointwise nat_eq xs ps) (pointwise nat_eq ys qs)

turned : (xs ys : List ℕ) → pointwise nat_eq xs ys ≡ pointwise nat_eq ys xs
turned xs ys = (partial_equiv_from_equiv nat_list_eq_equiv).symm xs ys

-- the fronts are alike, and the rests are compared
pub alike : (whole front rest head body : List ℕ) (r : Bool) → whole ≡ front ++ rest → length front ≡ length head → pointwise nat_eq front head ≡ true
    → r ≡ pointwise nat_eq rest body → r ≡ pointwise nat_eq whole (head ++ body)
alike whole front rest head body r w l h e =
    e ∙ sym (ap (λ b. b && pointwise nat_eq rest body) h) ∙ sym (each front rest head body l) ∙ ap (λ x. pointwise nat_eq x (head ++ body)) (sym w)

-- the fronts are not alike
pub apart : (whole front rest head body : List ℕ) (r : Bool) → whole ≡ front ++ rest → length front ≡ length head → r ≡ pointwise nat_eq front head → r ≡ false
    → r ≡ pointwise nat_eq whole (head ++ body)
apart whole front rest head body r w l e f =
    f ∙ sym (ap (λ b. b && pointwise nat_eq rest body) (sym e ∙ f)) ∙ sym (each front rest head body l) ∙ ap (λ x. pointwise nat_eq x (head ++ body)) (sym w)

pub alike-turned : (whole front rest head body : List ℕ) (r : Bool) → whole ≡ front ++ rest → length front ≡ length head → pointwise nat_eq head front ≡ true
    → r ≡ pointwise nat_eq body rest → r ≡ pointwise nat_eq (head ++ body) whole
alike-turned whole front rest head body r w l h e =
    alike whole front rest head body r w l (turned front head ∙ h) (e ∙ turned body rest) ∙ turned whole (head ++ body)

pub apart-turned : (whole front rest head body : List ℕ) (r : Bool) → whole ≡ front ++ rest → length front ≡ length head → r ≡ pointwise nat_eq head front → r ≡ false
    → r ≡ pointwise nat_eq (head ++ body) whole
apart-turned whole front rest head body r w l e f =
    apart whole front rest head body r w l (e ∙ turned head front) f ∙ turned whole (head ++ body)
