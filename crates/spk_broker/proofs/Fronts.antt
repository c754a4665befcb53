-- What the front that a filter and a topic share tells of whether they match.
use Rattle.std.proofs.Common.{◌≡◌, ◌⊎◌, ◌≢◌, ℕ, suc, ◌+◌, ◌<◌, Bool, true, false, cond, nat_eq, List, [], ◌∷◌, drop, get_or, length, refl, sym, ap, ◌∙◌, eq-eqb, arith, inl, inr}
use Rattle.std.specs.Prelude.{not, ◌&&◌, ◌||◌}
use Rattle.std.specs.Str.{bytes_eq}
use Rattle.std.proofs.lemmas.Bool.{eqb-true}
use Rattle.std.proofs.lemmas.Bool.Decides.{eqb_tells}
use Rattle.std.proofs.lemmas.List.{drop_more}
use Rattle.spk_topics.specs.Fitting.{begins_with_dollar, fits, is_barred, is_match, starts_with_wildcard}
use Rattle.spk_topics.specs.Levels.{is_empty, levels, widened}
use Rattle.spk_topics.specs.Text.{holds, is_plain}
use Rattle.spk_broker.specs.Fronts.{begin_alike, fits_at, fits_from, fits_within, is_alike, is_start, is_wild}

-- ---- tests

pub or_none : (a b : Bool) → (a || b) ≡ false → (a ≡ false) × (b ≡ false)
or_none true b h = cc
or_none false b h = (refl, h)

and-true : (a b : Bool) → (a && b) ≡ true → (a ≡ true) × (b ≡ true)
and-true true b h = (refl, h)
and-true false b h = cc

not-true : (b : Bool) → not b ≡ true → b ≡ false
not-true true h = cc
not-true false h = refl

-- ---- levels

some : (t : Bool) (b : ℕ) (ls : List (List ℕ)) → is_empty ls ≡ false → is_empty (cond t ([] ∷ ls) (widened b ls)) ≡ false
some true b ls h = refl
some false b [] h = refl
some false b (l ∷ ls) h = refl

-- a text has a level
some-level : (text : List ℕ) → is_empty (levels text) ≡ false
some-level [] = refl
some-level (b ∷ text) = some (nat_eq b 47) b (levels text) (some-level text)

-- ---- the same byte

step-levels : (q s : Bool) (b : ℕ) (F T : List (List ℕ)) → is_wild b ≡ false → is_empty F ≡ false → is_empty T ≡ false
    → fits_at s (cond q ([] ∷ F) (widened b F)) (cond q ([] ∷ T) (widened b T)) ≡ fits_at q F T
step-levels true true b F T w f t = refl
step-levels true false b F T w f t = refl
step-levels false s b [] T w f t = cc
step-levels false s b (l ∷ F) [] w f t = cc
step-levels false true b (l ∷ F) (n ∷ T) w f t =
    let (plus, hash) = or_none (nat_eq b 43) (nat_eq b 35) w in
    rw (plus, hash, eq-eqb b b refl) refl
step-levels false false b (l ∷ F) (n ∷ T) w f t = rw (eq-eqb b b refl) refl

pub step : (s : Bool) (b : ℕ) (f t : List ℕ) → is_wild b ≡ false → fits_from s (b ∷ f) (b ∷ t) ≡ fits_from (nat_eq b 47) f t
step s b f t w = step-levels (nat_eq b 47) s b (levels f) (levels t) w (some-level f) (some-level t)

-- ---- where the filter ends

end-levels : (q s : Bool) (b : ℕ) (T : List (List ℕ)) → is_empty T ≡ false → fits_at s ([] ∷ []) (cond q ([] ∷ T) (widened b T)) ≡ false
end-levels true true b T t = t
end-levels true false b T t = t
end-levels false s b [] t = cc
end-levels false true b (n ∷ T) t = refl
end-levels false false b (n ∷ T) t = refl

pub filter-ends : (s : Bool) (t : List ℕ) → fits_from s [] t ≡ is_empty t
filter-ends true [] = refl
filter-ends false [] = refl
filter-ends s (b ∷ t) = end-levels (nat_eq b 47) s b (levels t) (some-level t)

-- ---- where they part

apart-levels : (q r s : Bool) (a b : ℕ) (F T : List (List ℕ)) → nat_eq a 47 ≡ q → nat_eq b 47 ≡ r → is_wild a ≡ false → nat_eq a b ≡ false
    → fits_at s (cond q ([] ∷ F) (widened a F)) (cond r ([] ∷ T) (widened b T)) ≡ false
apart-levels true true s a b F T p o w e =
    let same : nat_eq a b ≡ true = eq-eqb a b (eqb-true a 47 p ∙ sym (eqb-true b 47 o)) in cc
apart-levels true false true a b F [] p o w e = refl
apart-levels true false true a b F (n ∷ T) p o w e = refl
apart-levels true false false a b F [] p o w e = refl
apart-levels true false false a b F (n ∷ T) p o w e = refl
apart-levels false true true a b [] T p o w e =
    let (plus, hash) = or_none (nat_eq a 43) (nat_eq a 35) w in
    rw (plus, hash) refl
apart-levels false true true a b (l ∷ F) T p o w e =
    let (plus, hash) = or_none (nat_eq a 43) (nat_eq a 35) w in
    rw (plus, hash) refl
apart-levels false true false a b [] T p o w e = refl
apart-levels false true false a b (l ∷ F) T p o w e = refl
apart-levels false false true a b [] [] p o w e =
    let (plus, hash) = or_none (nat_eq a 43) (nat_eq a 35) w in
    rw (plus, hash, e) refl
apart-levels false false true a b [] (n ∷ T) p o w e =
    let (plus, hash) = or_none (nat_eq a 43) (nat_eq a 35) w in
    rw (plus, hash, e) refl
apart-levels false false true a b (l ∷ F) [] p o w e =
    let (plus, hash) = or_none (nat_eq a 43) (nat_eq a 35) w in
    rw (plus, hash, e) refl
apart-levels false false true a b (l ∷ F) (n ∷ T) p o w e =
    let (plus, hash) = or_none (nat_eq a 43) (nat_eq a 35) w in
    rw (plus, hash, e) refl
apart-levels false false false a b [] [] p o w e = rw e refl
apart-levels false false false a b [] (n ∷ T) p o w e = rw e refl
apart-levels false false false a b (l ∷ F) [] p o w e = rw e refl
apart-levels false false false a b (l ∷ F) (n ∷ T) p o w e = rw e refl

pub apart : (s : Bool) (a b : ℕ) (f t : List ℕ) → is_wild a ≡ false → nat_eq a b ≡ false → fits_from s (a ∷ f) (b ∷ t) ≡ false
apart s a b f t w e = apart-levels (nat_eq a 47) (nat_eq b 47) s a b (levels f) (levels t) refl refl w e

-- ---- where the topic ends

over-levels : (s : Bool) (a : ℕ) (F : List (List ℕ)) → is_wild a ≡ false → fits_at s (widened a F) ([] ∷ []) ≡ false
over-levels true a [] w = let (plus, hash) = or_none (nat_eq a 43) (nat_eq a 35) w in rw (plus, hash) refl
over-levels true a (l ∷ F) w = let (plus, hash) = or_none (nat_eq a 43) (nat_eq a 35) w in rw (plus, hash) refl
over-levels false a [] w = refl
over-levels false a (l ∷ F) w = refl

pub topic-ends : (s : Bool) (a : ℕ) (f : List ℕ) → is_wild a ≡ false → nat_eq a 47 ≡ false → fits_from s (a ∷ f) [] ≡ false
topic-ends s a f w n = ap (λ q. fits_at s (cond q ([] ∷ levels f) (widened a (levels f))) ([] ∷ [])) n ∙ over-levels s a (levels f) w

-- ---- the bar

plain-start : (q : Bool) (a : ℕ) (F : List (List ℕ)) → is_wild a ≡ false → starts_with_wildcard (cond q ([] ∷ F) (widened a F)) ≡ false
plain-start true a F w = refl
plain-start false a [] w = let (plus, hash) = or_none (nat_eq a 43) (nat_eq a 35) w in rw (plus, hash) refl
plain-start false a (l ∷ F) w = let (plus, hash) = or_none (nat_eq a 43) (nat_eq a 35) w in rw (plus, hash) refl

-- a filter that begins without a wildcard is barred from nothing
pub open-front : (f t : List ℕ) → begin_alike f t ≡ true → is_barred f t ≡ false
open-front [] t h = cc
open-front (a ∷ f) [] h = cc
open-front (a ∷ f) (b ∷ t) h =
    let (same, plain) = and-true (nat_eq a b) (not (is_wild a)) h in
    ap (λ x. x && begins_with_dollar (b ∷ t)) (plain-start (nat_eq a 47) a (levels f) (not-true (is_wild a) plain))

-- ---- along the front

-- both begin alike behind so many bytes
pub alike-at : (f t : List ℕ) (i : ℕ) → i < length f → i < length t → begin_alike (drop i f) (drop i t) ≡ is_alike (get_or f i 0) (get_or t i 0)
alike-at f t i lf lt = rw (drop_more f i 0 lf, drop_more t i 0 lt) refl

pub along : (s : Bool) (f t : List ℕ) (i : ℕ) → i < length f → i < length t → is_alike (get_or f i 0) (get_or t i 0) ≡ true
    → fits_from (is_start s i f) (drop i f) (drop i t) ≡ fits_from (is_start s (i + 1) f) (drop (i + 1) f) (drop (i + 1) t)
along s f t i lf lt h =
    let (same, plain) = and-true (nat_eq (get_or f i 0) (get_or t i 0)) (not (is_wild (get_or f i 0))) h in
    let e : get_or t i 0 ≡ get_or f i 0 = sym (eqb-true (get_or f i 0) (get_or t i 0) same) in
    let n : i + 1 ≡ suc i = omega arith in
    ap (λ l. fits_from (is_start s i f) l (drop i t)) (drop_more f i 0 lf)
    ∙ ap (λ l. fits_from (is_start s i f) (get_or f i 0 ∷ drop (i + 1) f) l) (drop_more t i 0 lt ∙ ap (λ x. x ∷ drop (i + 1) t) e)
    ∙ step (is_start s i f) (get_or f i 0) (drop (i + 1) f) (drop (i + 1) t) (not-true (is_wild (get_or f i 0)) plain)
    ∙ ap (λ k. fits_from (is_start s k f) (drop (i + 1) f) (drop (i + 1) t)) (sym n)

-- the filter isn't barred once a byte was passed
pub open-on : (f t : List ℕ) (i : ℕ) → (i ≡ 0) ⊎ (is_barred f t ≡ false) → i < length f → i < length t → is_alike (get_or f i 0) (get_or t i 0) ≡ true
    → is_barred f t ≡ false
open-on f t i (inl z) lf lt h =
    open-front f t (ap (λ k. begin_alike (drop k f) (drop k t)) (sym z) ∙ alike-at f t i lf lt ∙ h)
open-on f t i (inr o) lf lt h = o

-- ---- what is left

pub unequal : (a b : ℕ) → a ≢ b → nat_eq a b ≡ false
unequal a b h = elim (eqb_tells a b) [ inl x ↦ absurd (h x.1) | inr x ↦ x.0 ]

pub nothing-left : (s : Bool) (f t : List ℕ) (b : Bool) → length f < 1 → b ≡ nat_eq (length t) 0 → b ≡ fits_from s f t
nothing-left s [] [] b h e = e ∙ sym (filter-ends s [])
nothing-left s [] (x ∷ t) b h e =
    e ∙ unequal (length (x ∷ t)) 0 (λ z. omega arith) ∙ sym (filter-ends s (x ∷ t))
nothing-left s (x ∷ f) t b h e = absurd (omega arith)

-- ---- a level that is `+`

-- a byte that is no slash belongs to the level
pub any-more : (F : List (List ℕ)) (b : ℕ) (t : List ℕ) → nat_eq b 47 ≡ false → fits ((43 ∷ []) ∷ F) (levels (b ∷ t)) ≡ fits ((43 ∷ []) ∷ F) (levels t)
any-more F b t n = ap (λ q. fits ((43 ∷ []) ∷ F) (cond q ([] ∷ levels t) (widened b (levels t)))) n ∙ by (levels t) (some-level t)
  where
    by : (T : List (List ℕ)) → is_empty T ≡ false → fits ((43 ∷ []) ∷ F) (widened b T) ≡ fits ((43 ∷ []) ∷ F) T
    by [] e = cc
    by (n ∷ T) e = refl

-- along a level of the topic
pub passing : (F : List (List ℕ)) (t : List ℕ) (i : ℕ) → i < length t → nat_eq (get_or t i 0) 47 ≡ false
    → fits ((43 ∷ []) ∷ F) (levels (drop i t)) ≡ fits ((43 ∷ []) ∷ F) (levels (drop (i + 1) t))
passing F t i lt n = ap (λ l. fits ((43 ∷ []) ∷ F) (levels l)) (drop_more t i 0 lt) ∙ any-more F (get_or t i 0) (drop (i + 1) t) n

-- ---- a filter without wildcards matches itself alone

hashless : (q : Bool) (a : ℕ) (F : List (List ℕ)) → nat_eq a 35 ≡ false → fits (cond q ([] ∷ F) (widened a F)) [] ≡ false
hashless true a F h = refl
hashless false a [] h = rw h refl
hashless false a (l ∷ F) h = rw h refl

no-hash : (f : List ℕ) → holds 35 f ≡ false → fits (levels f) [] ≡ false
no-hash [] h = refl
no-hash (a ∷ f) h = hashless (nat_eq a 47) a (levels f) (or_none (nat_eq a 35) (holds 35 f) h).0

over : (q s : Bool) (a : ℕ) (f : List ℕ) → nat_eq a 47 ≡ q → is_wild a ≡ false → holds 35 f ≡ false → fits_from s (a ∷ f) [] ≡ false
over true true a f e w h = ap (λ q. fits (cond q ([] ∷ levels f) (widened a (levels f))) ([] ∷ [])) e ∙ no-hash f h
over true false a f e w h = ap (λ q. fits_within (cond q ([] ∷ levels f) (widened a (levels f))) ([] ∷ [])) e ∙ no-hash f h
over false s a f e w h = topic-ends s a f w e

none-wild : (a : ℕ) (f : List ℕ) → holds 43 (a ∷ f) ≡ false → holds 35 (a ∷ f) ≡ false → is_wild a ≡ false
none-wild a f p h = rw ((or_none (nat_eq a 43) (holds 43 f) p).0, (or_none (nat_eq a 35) (holds 35 f) h).0) refl

plain-fits : (s : Bool) (f t : List ℕ) → holds 43 f ≡ false → holds 35 f ≡ false → fits_from s f t ≡ bytes_eq f t
plain-fits s [] [] p h = filter-ends s []
plain-fits s [] (b ∷ t) p h = filter-ends s (b ∷ t)
plain-fits s (a ∷ f) [] p h = over (nat_eq a 47) s a f refl (none-wild a f p h) (or_none (nat_eq a 35) (holds 35 f) h).1
plain-fits s (a ∷ f) (b ∷ t) p h =
    by (nat_eq a b) refl (plain-fits (nat_eq a 47) f t (or_none (nat_eq a 43) (holds 43 f) p).1 (or_none (nat_eq a 35) (holds 35 f) h).1)
  where
    by : (r : Bool) → nat_eq a b ≡ r → fits_from (nat_eq a 47) f t ≡ bytes_eq f t → fits_from s (a ∷ f) (b ∷ t) ≡ bytes_eq (a ∷ f) (b ∷ t)
    by true e rest =
        ap (λ x. fits_from s (a ∷ f) (x ∷ t)) (sym (eqb-true a b e)) ∙ step s a f t (none-wild a f p h) ∙ rest ∙ sym (ap (λ x. x && bytes_eq f t) e)
    by false e rest = apart s a b f t (none-wild a f p h) e ∙ sym (ap (λ x. x && bytes_eq f t) e)

plain-bar : (f t : List ℕ) → holds 43 f ≡ false → holds 35 f ≡ false → is_barred f t ≡ false
plain-bar [] t p h = refl
plain-bar (a ∷ f) t p h = ap (λ x. x && begins_with_dollar t) (plain-start (nat_eq a 47) a (levels f) (none-wild a f p h))

pub plain-match : (f t : List ℕ) → is_plain f ≡ true → is_match f t ≡ bytes_eq f t
plain-match f t h =
    let (plus, hash) = and-true (not (holds 43 f)) (not (holds 35 f)) h in
    let p : holds 43 f ≡ false = not-true (holds 43 f) plus in
    let k : holds 35 f ≡ false = not-true (holds 35 f) hash in
    ap (λ x. not x && fits (levels f) (levels t)) (plain-bar f t p k) ∙ plain-fits true f t p k
