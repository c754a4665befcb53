-- Sessions stand in the order of their numbers, and each number at one place.
use Rattle.std.proofs.Common.{◌≡◌, ℕ, zero, suc, ◌+◌, ◌<◌, ◌≤◌, Bool, true, false, ◌&&◌, ◌||◌, eqb, List, [], ◌∷◌, ◌++◌, length, map, get_or, is_some, refl, sym, ap, ◌∙◌, Result, Ok, Err, arith, true≢false, eq-eqb}
use Rattle.std.specs.List.Sorted.{IsBinarySearchResult, IsNonDecreasingBy, IsStrictlyIncreasing}
use Rattle.std.specs.declared.cmp.Ordering.TheVariants.{Equal}
use Rattle.std.specs.Ordering.{nat_cmp, ordering_index}
use Rattle.std.proofs.lemmas.Bool.{cases_lt}
use Rattle.std.proofs.lemmas.Bool.Decides.{nat_tests}
use Rattle.std.proofs.lemmas.Cmp.{ranked}
use Rattle.std.proofs.lemmas.List.{get_or-map, length-map}
use Rattle.std.proofs.lemmas.List.Folds.{list_any-append}
use Rattle.std.proofs.lemmas.List.Kept.{AllPairs-from_increasing}
use mathlib.Core.Logic.{⊎_elim}
use Rattle.spk_broker_rules.specs.Lawful.{Rises}
use Rattle.spk_broker_rules.proofs.Lists.{eqb-is}
use Rattle.spk_broker.specs.Both.{Both}
use Rattle.spk_broker.specs.Called.{AreOrdered, IsPast, is_place, is_there}
use Rattle.spk_broker.proofs.Places.{unequal}

pub was-above : (bs : List Both) (low top j : ℕ) (d : Both) → Rises low top (map (λ (b : Both). b.was) bs) → j < length bs → low < (get_or bs j d).was.key
was-above [] low top j d r lt = absurd (omega (arith, lt))
was-above (b ∷ bs) low top zero d r lt = r.0
was-above (b ∷ bs) low top (suc j) d r lt =
    let up = was-above bs b.was.key top j d r.1 (omega (arith, lt)) in
    let here : low < b.was.key = r.0 in
    omega (arith, up, here)

was-lt : (bs : List Both) (low top i j : ℕ) (d : Both) → Rises low top (map (λ (b : Both). b.was) bs) → i < j → j < length bs → (get_or bs i d).was.key < (get_or bs j d).was.key
was-lt [] low top i j d r less lt = absurd (omega (arith, lt))
was-lt (b ∷ bs) low top i zero d r less lt = absurd (omega (arith, less))
was-lt (b ∷ bs) low top zero (suc j) d r less lt = was-above bs b.was.key top j d r.1 (omega (arith, lt))
was-lt (b ∷ bs) low top (suc i) (suc j) d r less lt = was-lt bs b.was.key top i j d r.1 (omega (arith, less)) (omega (arith, lt))

pub ordered-lt : (bs : List Both) → AreOrdered bs → (i j : ℕ) (d : Both) → i < j → j < length bs → (get_or bs i d).was.key < (get_or bs j d).was.key
ordered-lt bs o i j d less lt = was-lt bs o.0 o.1 i j d o.2 less lt

-- two places of one number are one
pub was-same : (bs : List Both) → AreOrdered bs → (i j : ℕ) (d : Both) → i < length bs → j < length bs → (get_or bs i d).was.key ≡ (get_or bs j d).was.key → i ≡ j
was-same bs o i j d ilow jlow same =
    ⊎_elim
    (λ lt. let up = ordered-lt bs o i j d lt jlow in absurd (omega (arith, up, same)))
    (λ le. ⊎_elim
    (λ lt. let up = ordered-lt bs o j i d lt ilow in absurd (omega (arith, up, same)))
    (λ ge. omega (arith, le, ge))
    (cases_lt j i))
    (cases_lt i j)

ordered-le : (bs : List Both) → AreOrdered bs → (i j : ℕ) (d : Both) → i ≤ j → j < length bs → (get_or bs i d).was.key ≤ (get_or bs j d).was.key
ordered-le bs o i j d le lt =
    ⊎_elim
    (λ less. let up = ordered-lt bs o i j d less lt in omega (arith, up))
    (λ ge. let one : i ≡ j = omega (arith, le, ge) in let same = ap (λ n. (get_or bs n d).was.key) one in omega (arith, same))
    (cases_lt i j)

rise : (bs : List Both) (key : ℕ) → AreOrdered bs → IsNonDecreasingBy (λ (b : Both). ordering_index (nat_cmp b.was.key key)) bs
rise bs key o i j d le lt = let up = ordered-le bs o i j d le lt in by (get_or bs i d).was.key (get_or bs j d).was.key up
  where
    by : (a b : ℕ) → a ≤ b → ordering_index (nat_cmp a key) ≤ ordering_index (nat_cmp b key)
    by a b up = grind (arith, nat_tests, up)

-- what a binary search by the numbers answers
pub found-there : (bs : List Both) (key p : ℕ) → p < length bs → ((d : Both) → nat_cmp (get_or bs p d).was.key key ≡ Equal) → AreOrdered bs → (i : ℕ) (d : Both) → i < length bs → (get_or bs i d).was.key ≡ key → i ≡ p
found-there bs key p plow at o i d low is = was-same bs o i p d low plow (is ∙ sym (ranked (get_or bs p d).was.key key _ (sym (at d))))

pub missed-there : (bs : List Both) (key p : ℕ) (r : Result ℕ ℕ) → r ≡ Err p → IsBinarySearchResult (λ (b : Both). nat_cmp b.was.key key) bs r → AreOrdered bs → (i : ℕ) (d : Both) → i < length bs → (get_or bs i d).was.key ≡ key → i ≡ p
missed-there bs key p (Ok q) e result o i d low is = absurd (none e)
  where
    none : {X Y : Type 0} {x : X} {y : Y} → Ok x ≡ Err y → ⊥
    none e = cc
missed-there bs key p (Err q) e result o i d low is =
    let parts = result (rise bs key o) in
    ⊎_elim
    (λ lt. let up : (get_or bs i d).was.key < key = ranked (get_or bs i d).was.key key _ (sym (parts.0 i d (omega arith) lt)) in absurd (omega (arith, up, is)))
    (λ ge. let down : key < (get_or bs i d).was.key = ranked (get_or bs i d).was.key key _ (sym (parts.1 i d ge low)) in absurd (omega (arith, down, is)))
    (cases_lt i q)

-- ---- the places of the numbers that were found

-- the others stand no further ahead than here
abbrev pub AreBehind : List (ℕ × ℕ) → ℕ → ℕ → List Both → Type 0
AreBehind found j from sessions = AreOrdered sessions → IsStrictlyIncreasing (map (λ g. g.0) found)
    → (i : ℕ) (d : Both) (m : ℕ) (e : ℕ × ℕ) → i < from → j ≤ m → m < length found → is_there (get_or found m e).0 (get_or sessions i d) ≡ false

rising : (found : List (ℕ × ℕ)) → IsStrictlyIncreasing (map (λ g. g.0) found) → (i j : ℕ) (e : ℕ × ℕ) → i < j → j < length found → (get_or found i e).0 < (get_or found j e).0
rising found up i j e less low =
    let long = length-map found (λ (g : ℕ × ℕ). g.0) in
    let lt = AllPairs-from_increasing (map (λ (g : ℕ × ℕ). g.0) found) up i j e.0 less (omega (arith, low, long)) in
    let one = get_or-map (λ (g : ℕ × ℕ). g.0) found i e e.0 (omega (arith, less, low)) in
    let two = get_or-map (λ (g : ℕ × ℕ). g.0) found j e e.0 low in
    omega (arith, lt, one, two)

and-second : (a b : Bool) → a && b ≡ true → b ≡ true
and-second true b e = e
and-second false b e = absurd (true≢false (sym e))

and-false : (a b : Bool) → b ≡ false → a && b ≡ false
and-false true b e = e
and-false false b e = refl

pub behind-start : (found : List (ℕ × ℕ)) (sessions : List Both) → AreBehind found 0 0 sessions
behind-start found sessions o up i d m e low le within = absurd (omega (arith, low))

pub behind-more : (found : List (ℕ × ℕ)) (j p : ℕ) (sessions : List Both) → p < length sessions → ((e : ℕ × ℕ) (d : Both) → is_there (get_or found j e).0 (get_or sessions p d) ≡ true) → AreBehind found (j + 1) (p + 1) sessions
behind-more found j p sessions plow here o up i d m e low le within =
    let at : (get_or sessions p d).was.key ≡ (get_or found j e).0 = eqb-is (get_or sessions p d).was.key (get_or found j e).0 (and-second (is_some (get_or sessions p d).now) (eqb (get_or sessions p d).was.key (get_or found j e).0) (here e d)) in
    let before = ordered-le sessions o i p d (omega (arith, low)) plow in
    let more = rising found up j m e (omega (arith, le)) within in
    and-false (is_some (get_or sessions i d).now) (eqb (get_or sessions i d).was.key (get_or found m e).0)
    (unequal (get_or sessions i d).was.key (get_or found m e).0 (λ same. omega (arith, same, at, before, more)))

-- where one of them is gone
pub behind-past : (found : List (ℕ × ℕ)) (j from : ℕ) (sessions : List Both) → AreBehind found j from sessions → AreBehind found (j + 1) from sessions
behind-past found j from sessions behind o up i d m e low le within = behind o up i d m e low (omega (arith, le)) within

-- where the first ones are, is a place
abbrev pub AreMet : List (ℕ × ℕ) → ℕ → List ℕ → List Both → Type 0
AreMet found j ps sessions = AreOrdered sessions → IsStrictlyIncreasing (map (λ g. g.0) found)
    → (k : ℕ) (e : ℕ × ℕ) (i : ℕ) (d : Both) → k < j → k < length found → i < length sessions → is_there (get_or found k e).0 (get_or sessions i d) ≡ true → is_place i ps ≡ true

pub none-met : (found : List (ℕ × ℕ)) (ps : List ℕ) (sessions : List Both) → AreMet found 0 ps sessions
none-met found ps sessions o up k e i d low within ilow there = absurd (omega (arith, low))

either-true : (a b : Bool) → a ≡ true → a || b ≡ true
either-true a b e = ap (λ x. x || b) e

or-true : (a b : Bool) → b ≡ true → a || b ≡ true
or-true true b e = refl
or-true false b e = e

more-place : (ps : List ℕ) (p i : ℕ) → is_place i (ps ++ p ∷ []) ≡ is_place i ps || (eqb p i || false)
more-place ps p i = list_any-append (λ q. eqb q i) ps (p ∷ [])

pub met-more : (found : List (ℕ × ℕ)) (j p : ℕ) (ps : List ℕ) (sessions : List Both) → AreMet found j ps sessions → p < length sessions
    → ((e : ℕ × ℕ) (d : Both) → is_there (get_or found j e).0 (get_or sessions p d) ≡ true) → AreMet found (j + 1) (ps ++ p ∷ []) sessions
met-more found j p ps sessions old plow here o up k e i d low within ilow there =
    more-place ps p i
    ∙ ⊎_elim
    (λ less. either-true (is_place i ps) (eqb p i || false) (old o up k e i d less within ilow there))
    (λ ge.
    let last : k ≡ j = omega (arith, ge, low) in
    let one : (get_or sessions i d).was.key ≡ (get_or found k e).0 = eqb-is (get_or sessions i d).was.key (get_or found k e).0 (and-second (is_some (get_or sessions i d).now) (eqb (get_or sessions i d).was.key (get_or found k e).0) there) in
    let two : (get_or sessions p d).was.key ≡ (get_or found j e).0 = eqb-is (get_or sessions p d).was.key (get_or found j e).0 (and-second (is_some (get_or sessions p d).now) (eqb (get_or sessions p d).was.key (get_or found j e).0) (here e d)) in
    let same : i ≡ p = was-same sessions o i p d ilow plow (one ∙ ap (λ n. (get_or found n e).0) last ∙ sym two) in
    or-true (is_place i ps) (eqb p i || false) (either-true (eqb p i) false (eq-eqb p i (sym same))))
    (cases_lt k j)

pub met-past : (found : List (ℕ × ℕ)) (j from : ℕ) (key : ℕ) (ps : List ℕ) (sessions : List Both) → AreMet found j ps sessions → AreBehind found j from sessions
    → ((e : ℕ × ℕ) → key ≡ (get_or found j e).0) → (AreOrdered sessions → IsPast key from sessions) → AreMet found (j + 1) ps sessions
met-past found j from key ps sessions old behind is past o up k e i d low within ilow there =
    ⊎_elim
    (λ less. old o up k e i d less within ilow there)
    (λ ge.
    let last : k ≡ j = omega (arith, ge, low) in
    let gone : is_there (get_or found k e).0 (get_or sessions i d) ≡ false =
    ⊎_elim
    (λ lt. behind o up i d k e lt (omega (arith, ge)) within)
    (λ le. ap (λ n. is_there (get_or found n e).0 (get_or sessions i d)) last ∙ ap (λ n. is_there n (get_or sessions i d)) (sym (is e)) ∙ past o i d le ilow)
    (cases_lt i from) in
    absurd (true≢false (sym there ∙ gone)))
    (cases_lt k j)
