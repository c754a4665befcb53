-- Who stays where a call is settled.
use Rattle.std.proofs.Common.{◌≡◌, ℕ, zero, suc, ◌+◌, ◌<◌, Bool, true, false, not, ◌||◌, cond, List, [], ◌∷◌, ◌++◌, length, take, drop, get_or, refl, sym, ap, ◌∙◌, arith, Option, Some, None, true≢false}
use Rattle.std.specs.List.{filter, list_any}
use Rattle.std.specs.Option.{is_some}
use Rattle.spk_broker_rules.specs.Data as plain
use Rattle.spk_broker_rules.specs.Words.{option_list}
use Rattle.spk_broker.specs.Both.{Both}
use Rattle.spk_broker.specs.Settling.{has_ended, session_left}
use Rattle.spk_broker.specs.View.{session_now}
use Rattle.spk_broker.proofs.Touched.{any-none}

abbrev pub stays : Both → Bool
stays b = is_some b.now

pub gone-now : (b : Both) → stays b ≡ false → session_now b ≡ []
gone-now b e = by b.now e
  where
    by : (o : Option plain.Session) → is_some o ≡ false → option_list o ≡ []
    by None h = refl
    by (Some s) h = absurd (let z : ⊥ = cc in z)

pub gone-left : (b : Both) → stays b ≡ false → session_left b ≡ []
gone-left b e = ap (λ t. cond t (b.was ∷ []) []) e

pub here-left : (b : Both) → stays b ≡ true → session_left b ≡ b.was ∷ []
here-left b e = ap (λ t. cond t (b.was ∷ []) []) e

-- where nobody ended all stay
pub all-stay : (bs : List Both) → list_any has_ended bs ≡ false → filter stays bs ≡ bs
all-stay [] e = refl
all-stay (b ∷ bs) e = by (stays b) refl e (λ f. all-stay bs f)
  where
    by : (t : Bool) → stays b ≡ t → not t || list_any has_ended bs ≡ false → (list_any has_ended bs ≡ false → filter stays bs ≡ bs) → cond (stays b) (b ∷ filter stays bs) (filter stays bs) ≡ b ∷ bs
    by true is f rest = ap (λ t. cond t (b ∷ filter stays bs) (filter stays bs)) is ∙ ap (λ l. b ∷ l) (rest f)
    by false is f rest = absurd (let z : ⊥ = cc in z)

-- where one alone can have ended, and one did, the others are who stays
pub one-gone : (bs : List Both) (i : ℕ) → i < length bs → list_any has_ended bs ≡ true
    → ((j : ℕ) (d : Both) → j < length bs → (j ≡ i → ⊥) → has_ended (get_or bs j d) ≡ false) → take i bs ++ drop (i + 1) bs ≡ filter stays bs
one-gone [] i low some rest = absurd (omega (arith, low))
one-gone (b ∷ bs) zero low some rest = by (stays b) refl
  where
    none : list_any has_ended bs ≡ false
    none = any-none has_ended bs (λ j d lt. rest (suc j) d (omega (arith, lt)) (λ e. omega (arith, e)))

    by : (t : Bool) → stays b ≡ t → bs ≡ cond (stays b) (b ∷ filter stays bs) (filter stays bs)
    by true is = absurd (true≢false (sym some ∙ ap (λ t. not t || list_any has_ended bs) is ∙ none))
    by false is = sym (ap (λ t. cond t (b ∷ filter stays bs) (filter stays bs)) is ∙ all-stay bs none)
one-gone (b ∷ bs) (suc i) low some rest =
    let here : has_ended b ≡ false = rest zero b (omega arith) (λ e. omega (arith, e)) in
    let more : list_any has_ended bs ≡ true = sym (ap (λ t. t || list_any has_ended bs) here) ∙ some in
    let z : suc i + 1 ≡ suc (i + 1) = omega arith in
    ap (λ k. b ∷ take i bs ++ drop k (b ∷ bs)) z
    ∙ ap (λ l. b ∷ l) (one-gone bs i (omega (arith, low)) more (λ j d lt n. rest (suc j) d (omega (arith, lt)) (λ e. n (omega (arith, e)))))
    ∙ sym (ap (λ t. cond t (b ∷ filter stays bs) (filter stays bs)) (there b here))
  where
    there : (x : Both) → has_ended x ≡ false → stays x ≡ true
    there x e = by (stays x) e
      where
        by : (t : Bool) → not t ≡ false → t ≡ true
        by true f = refl
        by false f = absurd (true≢false f)
