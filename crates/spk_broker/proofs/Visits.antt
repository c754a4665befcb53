-- A message calls at some places alone: to the sessions in between it does nothing.
use Rattle.std.proofs.Common.{◌≡◌, ℕ, zero, suc, ◌+◌, ◌<◌, ◌≤◌, Bool, true, false, not, ◌&&◌, ◌||◌, eqb, List, [], ◌∷◌, ◌++◌, length, map, take, drop, get_or, set, refl, sym, ap, ◌∙◌, subst, append_assoc, Option, Some, None, arith, true≢false, eq-eqb, Vec, Global}
use Rattle.std.specs.List.{flat_map, list_any}
use Rattle.std.specs.List.Sorted.{IsStrictlyIncreasing}
use Rattle.std.specs.Option.{IfSome, is_some}
use Rattle.spk_topics.specs.Grants.{Grants}
use Rattle.std.proofs.lemmas.List.{get_or-set_other, length-set}
use Rattle.std.proofs.lemmas.Bool.{cases_lt}
use mathlib.Core.Logic.{⊎_elim}
use Rattle.spk_broker_rules.specs.Data as plain
use Rattle.spk_broker_rules.specs.Lawful.{Rises}
use Rattle.spk_broker_rules.specs.Step.{serve}
use Rattle.spk_broker_rules.specs.Table.{Table}
use Rattle.spk_broker_rules.specs.Words.{best, option_list}
use Rattle.spk_broker_rules.proofs.Lists.{eqb-is}
use Rattle.spk_broker.specs.Both.{Both}
use Rattle.spk_broker.specs.Called.{AreAllFound, AreAscending, AreCalled, AreInOrder, AreKeyed, AreOrdered, ArePlaces, IsKeyed, IsPast, is_place, is_there}
use Rattle.spk_broker.specs.Drafts.{Drafted, left_by, served_by}
use Rattle.spk_broker.specs.Filing.{AllOf, ArePassed, has_key, is_passed}
use Rattle.spk_broker.specs.Rounds.{left_of_round, with_round}
use Rattle.spk_broker.specs.View.{session_now, session_was}
use Rattle.spk_broker.proofs.Counts.{any-default}
use Rattle.spk_broker.proofs.Near.{any-at}
use Rattle.spk_broker.proofs.Ordered.{AreBehind, AreMet, behind-more, behind-past, behind-start, met-more, met-past, none-met}
use Rattle.spk_broker.proofs.Passing.{idle-drafted, idle-left, passed-at}
use Rattle.spk_broker.proofs.Rounds.{drafted-end, drafted-whole, left_all, left_so_far, left-end, left-whole, round_all, round-step}

-- ---- places

pub not-place : (i : ℕ) (ps : List ℕ) → ((k : ℕ) → k < length ps → get_or ps k 0 ≡ i → ⊥) → is_place i ps ≡ false
not-place i [] h = refl
not-place i (p ∷ ps) h = by (eqb p i) refl (not-place i ps (λ k low e. h (suc k) (omega (arith, low)) e))
  where
    by : (b : Bool) → eqb p i ≡ b → is_place i ps ≡ false → eqb p i || is_place i ps ≡ false
    by true e rest = absurd (h zero (omega arith) (eqb-is p i e))
    by false e rest = ap (λ b. b || is_place i ps) e ∙ rest

pub place-is : (ps : List ℕ) (k i : ℕ) → k < length ps → get_or ps k 0 ≡ i → is_place i ps ≡ true
place-is [] k i low e = absurd (omega (arith, low))
place-is (p ∷ ps) zero i low e = ap (λ b. b || is_place i ps) (eq-eqb p i e)
place-is (p ∷ ps) (suc k) i low e = ap (λ b. eqb p i || b) (place-is ps k i (omega (arith, low)) e) ∙ either (eqb p i)
  where
    either : (b : Bool) → b || true ≡ true
    either true = refl
    either false = refl

-- where a number was found
key-at : (found : List (ℕ × ℕ)) (key : ℕ) → has_key key found ≡ true → (k : ℕ) × (k < length found) × ((e : ℕ × ℕ) → (get_or found k e).0 ≡ key)
key-at [] key h = absurd (true≢false (sym h))
key-at (g ∷ gs) key h = by (eqb g.0 key) refl h (λ r. key-at gs key r)
  where
    by : (b : Bool) → eqb g.0 key ≡ b → b || has_key key gs ≡ true → (has_key key gs ≡ true → (k : ℕ) × (k < length gs) × ((e : ℕ × ℕ) → (get_or gs k e).0 ≡ key))
        → (k : ℕ) × (k < length (g ∷ gs)) × ((e : ℕ × ℕ) → (get_or (g ∷ gs) k e).0 ≡ key)
    by true e r rest = (zero, omega arith, λ d. eqb-is g.0 key e)
    by false e r rest = let at = rest r in let low = at.1 in (suc at.0, omega (arith, low), at.2)

-- the places of the first numbers
pub record Placed (ps : List ℕ) (from : ℕ) (sessions : List Both) : Type 0 where
  pub places : ArePlaces ps sessions
  pub under : (k : ℕ) → k < length ps → get_or ps k 0 < from

-- who has a number is there
keyed-there : (b : Both) (s : plain.Session) → b.now ≡ Some s → IsKeyed b → is_there s.key b ≡ true
keyed-there b s is keyed =
    let same : s.key ≡ b.was.key = subst (λ (o : Option plain.Session). IfSome o (λ (x : plain.Session). x.key ≡ b.was.key)) is keyed in
    ap (λ (o : Option plain.Session). is_some o && eqb b.was.key s.key) is ∙ eq-eqb b.was.key s.key (sym same)

pub all-found : (found : List (ℕ × ℕ)) (j : ℕ) (ps : List ℕ) (sessions : List Both) → AreMet found j ps sessions → length found ≤ j
    → AreOrdered sessions → AreKeyed sessions → IsStrictlyIncreasing (map (λ g. g.0) found) → AreAllFound found ps sessions
all-found found j ps sessions met whole ordered keyed up i d s ilow is out = by (has_key s.key found) refl
  where
    by : (b : Bool) → has_key s.key found ≡ b → has_key s.key found ≡ false
    by true e =
        let at = key-at found s.key e in
        let low = at.1 in
        let there : is_there (get_or found at.0 (zero, zero)).0 (get_or sessions i d) ≡ true =
        ap (λ n. is_there n (get_or sessions i d)) (at.2 (zero, zero)) ∙ keyed-there (get_or sessions i d) s is (keyed i d ilow) in
        absurd (true≢false (sym (met ordered up at.0 (zero, zero) i d (omega (arith, low, whole)) low ilow there) ∙ out))
    by false e = e

-- what holds of each holds of the one at a place
pass-at : (Q : ℕ → Table ℕ → Type 0) (bs : List Both) (i : ℕ) (d : Both) (s : plain.Session) → i < length bs → (get_or bs i d).now ≡ Some s → AllOf Q (flat_map session_now bs) → Q s.key s.grants
pass-at Q [] i d s low is all = absurd (omega (arith, low))
pass-at Q (b ∷ bs) zero d s low is all = passed-at Q (b ∷ bs) zero d s low is all
pass-at Q (b ∷ bs) (suc i) d s low is all = by b.now all (λ rest. pass-at Q bs i d s (omega (arith, low)) is rest)
  where
    by : (o : Option plain.Session) → AllOf Q (option_list o ++ flat_map session_now bs) → (AllOf Q (flat_map session_now bs) → Q s.key s.grants) → Q s.key s.grants
    by None h rest = rest h
    by (Some x) h rest = rest h.1

-- who stands elsewhere has no grant that fits
pub found-called : (ps : List ℕ) (f : Option (Vec (ℕ × ℕ) Global)) (found : Vec (ℕ × ℕ) Global) (l : List (ℕ × ℕ)) (sessions : List Both) → f ≡ Some found → l ≡ found.items
    → (AreOrdered sessions → AreKeyed sessions → IsStrictlyIncreasing (map (λ g. g.0) l) → AreAllFound l ps sessions)
    → (topic : List ℕ) → AreOrdered sessions → AreKeyed sessions → AreAscending f → ArePassed f topic (flat_map session_now sessions) → AreCalled topic ps sessions
found-called ps f found l sessions is same h topic ordered keyed up passed i d s ilow here out =
    let rise : IsStrictlyIncreasing (map (λ (g : ℕ × ℕ). g.0) found.items) = subst AreAscending is up in
    let all = h ordered keyed (subst (λ (x : List (ℕ × ℕ)). IsStrictlyIncreasing (map (λ (g : ℕ × ℕ). g.0) x)) (sym same) rise) in
    let none : has_key s.key found.items ≡ false = ap (has_key s.key) (sym same) ∙ all i d s ilow here out in
    pass-at (λ key grants. is_passed f key ≡ true → best topic grants ≡ None) sessions i d s ilow here passed (ap (λ q. is_passed q s.key) is ∙ ap (λ b. not b) none)

-- ---- the places of the numbers that were found, one after the other

pub push-long : (ps : List ℕ) (p : ℕ) → length (ps ++ p ∷ []) ≡ length ps + 1
push-long [] p = refl
push-long (x ∷ ps) p = let rest = push-long ps p in omega (arith, rest)

pub push-old : (ps : List ℕ) (p k : ℕ) → k < length ps → get_or (ps ++ p ∷ []) k 0 ≡ get_or ps k 0
push-old [] p k low = absurd (omega (arith, low))
push-old (x ∷ ps) p zero low = refl
push-old (x ∷ ps) p (suc k) low = push-old ps p k (omega (arith, low))

pub push-new : (ps : List ℕ) (p k : ℕ) → k ≡ length ps → get_or (ps ++ p ∷ []) k 0 ≡ p
push-new [] p zero e = refl
push-new [] p (suc k) e = absurd (omega (arith, e))
push-new (x ∷ ps) p zero e = absurd (omega (arith, e))
push-new (x ∷ ps) p (suc k) e = push-new ps p k (omega (arith, e))

pub placed-more : (ps : List ℕ) (from : ℕ) (sessions : List Both) (p : ℕ) → Placed ps from sessions → p < length sessions → from < p + 1 → Placed (ps ++ p ∷ []) (p + 1) sessions
placed-more ps from sessions p c plow behind =
    let long = push-long ps p in
    let old : (k : ℕ) → k < length ps → get_or (ps ++ p ∷ []) k 0 < p = λ k low. let up = c.under k low in let same = push-old ps p k low in omega (arith, up, same, behind) in
    record {
      places = record {
        rise = λ a b lt within.
            ⊎_elim
            (λ low. let one = push-old ps p a (omega (arith, lt, low)) in let two = push-old ps p b low in let up = c.places.rise a b lt low in omega (arith, one, two, up))
            (λ ge. let last : b ≡ length ps = omega (arith, ge, within, long) in let two = push-new ps p b last in let up = old a (omega (arith, lt, last)) in omega (arith, two, up))
            (cases_lt b (length ps));
        low = λ k within.
            ⊎_elim
            (λ low. let one = push-old ps p k low in let up = c.places.low k low in omega (arith, one, up))
            (λ ge. let last : k ≡ length ps = omega (arith, ge, within, long) in let one = push-new ps p k last in omega (arith, one, plow))
            (cases_lt k (length ps));
      };
      under = λ k within.
          ⊎_elim
          (λ low. let up = old k low in omega (arith, up))
          (λ ge. let last : k ≡ length ps = omega (arith, ge, within, long) in let one = push-new ps p k last in omega (arith, one))
          (cases_lt k (length ps));
    }

-- one of those that were found is at each
abbrev pub AreOf : List (ℕ × ℕ) → List ℕ → List Both → Type 0
AreOf found ps sessions = (k : ℕ) (d : Both) → k < length ps → list_any (λ g. is_there g.0 (get_or sessions (get_or ps k 0) d)) found ≡ true

pub of-more : (found : List (ℕ × ℕ)) (j : ℕ) (e : ℕ × ℕ) (ps : List ℕ) (p : ℕ) (sessions : List Both) → AreOf found ps sessions → j < length found → ((d : Both) → is_there (get_or found j e).0 (get_or sessions p d) ≡ true)
    → AreOf found (ps ++ p ∷ []) sessions
of-more found j e ps p sessions old low here k d within =
    let long = push-long ps p in
    ⊎_elim
    (λ less. subst (λ q. list_any (λ (g : ℕ × ℕ). is_there g.0 (get_or sessions q d)) found ≡ true) (sym (push-old ps p k less)) (old k d less))
    (λ ge. let last : k ≡ length ps = omega (arith, ge, within, long) in
    subst (λ q. list_any (λ (g : ℕ × ℕ). is_there g.0 (get_or sessions q d)) found ≡ true) (sym (push-new ps p k last))
    (any-at (λ (g : ℕ × ℕ). is_there g.0 (get_or sessions p d)) found j e low (here d)))
    (cases_lt k (length ps))

-- those of the first that were found
pub record Met (found : List (ℕ × ℕ)) (j : ℕ) (ps : List ℕ) (from : ℕ) (sessions : List Both) : Type 0 where
  pub placed : Placed ps from sessions
  pub of : AreOf found ps sessions
  pub met : AreMet found j ps sessions
  pub behind : AreBehind found j from sessions

pub met-start : (found : List (ℕ × ℕ)) (sessions : List Both) → Met found 0 [] 0 sessions
met-start found sessions = record {
  placed = record {
    places = record { rise = λ i j lt within. absurd (omega (arith, within)); low = λ k within. absurd (omega (arith, within)) };
    under = λ k within. absurd (omega (arith, within));
  };
  of = λ k d within. absurd (omega (arith, within));
  met = none-met found [] sessions;
  behind = behind-start found sessions;
}

-- the next one is there
pub met-found : (found : List (ℕ × ℕ)) (j : ℕ) (e : ℕ × ℕ) (ps : List ℕ) (from p : ℕ) (sessions : List Both) → Met found j ps from sessions → j < length found → p < length sessions → from < p + 1
    → ((d : Both) → is_there (get_or found j e).0 (get_or sessions p d) ≡ true) → Met found (j + 1) (ps ++ p ∷ []) (p + 1) sessions
met-found found j e ps from p sessions m low plow behind here =
    let there : (x : ℕ × ℕ) (d : Both) → is_there (get_or found j x).0 (get_or sessions p d) ≡ true =
    λ x d. ap (λ (g : ℕ × ℕ). is_there g.0 (get_or sessions p d)) (any-default found j x e low) ∙ here d in
    record {
      placed = placed-more ps from sessions p m.placed plow behind;
      of = of-more found j e ps p sessions m.of low here;
      met = met-more found j p ps sessions m.met plow there;
      behind = behind-more found j p sessions plow there;
    }

-- the next one is gone
pub met-gone : (found : List (ℕ × ℕ)) (j : ℕ) (e : ℕ × ℕ) (ps : List ℕ) (from : ℕ) (sessions : List Both) → Met found j ps from sessions → j < length found
    → (AreOrdered sessions → IsPast (get_or found j e).0 from sessions) → Met found (j + 1) ps from sessions
met-gone found j e ps from sessions m low past = record {
  placed = m.placed;
  of = m.of;
  met = met-past found j from (get_or found j e).0 ps sessions m.met m.behind (λ x. ap (λ (g : ℕ × ℕ). g.0) (any-default found j e x low)) past;
  behind = behind-past found j from sessions m.behind;
}

-- ---- sessions stay in the order of their numbers

pub keyed-set : (bs : List Both) (p : ℕ) (x : Both) → IsKeyed x → AreKeyed bs → AreKeyed (set bs p x)
keyed-set [] p x is all i d low = all i d low
keyed-set (b ∷ bs) zero x is all zero d low = is
keyed-set (b ∷ bs) zero x is all (suc i) d low = all (suc i) d low
keyed-set (b ∷ bs) (suc p) x is all zero d low = all zero d (omega arith)
keyed-set (b ∷ bs) (suc p) x is all (suc i) d low = keyed-set bs p x is (λ k y lt. all (suc k) y (omega (arith, lt))) i d (omega (arith, low))

pub keyed-at : (bs : List Both) (p : ℕ) (x d : Both) → IsKeyed (get_or (set bs p x) p d) → AreKeyed bs → AreKeyed (set bs p x)
keyed-at [] p x e is all i d low = all i d low
keyed-at (b ∷ bs) zero x e is all zero d low = is
keyed-at (b ∷ bs) zero x e is all (suc i) d low = all (suc i) d low
keyed-at (b ∷ bs) (suc p) x e is all zero d low = all zero d (omega arith)
keyed-at (b ∷ bs) (suc p) x e is all (suc i) d low = keyed-at bs p x e is (λ k y lt. all (suc k) y (omega (arith, lt))) i d (omega (arith, low))

pub order-as : (index : Option Grants) (old new : List Both) → map session_was new ≡ map session_was old → (AreKeyed old → AreKeyed new) → AreInOrder index old → AreInOrder index new
order-as None old new was keyed h = tt
order-as (Some index) old new was keyed h = ((h.0.0, h.0.1, subst (Rises h.0.0 h.0.1) (sym was) h.0.2), keyed h.1)

pub some-order : (index : Option Grants) (bs : List Both) (top : ℕ) → Rises 0 top (map session_was bs) → AreKeyed bs → AreInOrder index bs
some-order None bs top r keyed = tt
some-order (Some index) bs top r keyed = ((0, top, r), keyed)

-- ---- nothing is done in between

pub record Skipped (m : plain.AppMessage) (cur : List Both) (n p : ℕ) : Type 0 where
  pub left : left_so_far (serve m) cur n ≡ left_so_far (serve m) cur p
  pub drafted : (d : Drafted) → round_all (serve m) (drop n cur) d ≡ round_all (serve m) (drop p cur) d

skip : (m : plain.AppMessage) (cur : List Both) (n p : ℕ) → n ≤ p → p ≤ length cur
    → ((i : ℕ) (d : Both) (s : plain.Session) → n ≤ i → i < p → (get_or cur i d).now ≡ Some s → best m.topic s.grants ≡ None) → Skipped m cur n p
skip m cur zero zero le within idle = record { left = refl; drafted = λ d. refl }
skip m cur (suc n) zero le within idle = absurd (omega (arith, le))
skip m [] n (suc p) le within idle = absurd (omega (arith, within))
skip m (c ∷ cs) zero (suc p) le within idle =
    let rest = skip m cs zero p (omega arith) (omega (arith, within)) (λ i d s a b is. idle (suc i) d s (omega arith) (omega (arith, b)) is) in
    let none : (s : plain.Session) → c.now ≡ Some s → best m.topic s.grants ≡ None = λ s is. idle zero c s (omega arith) (omega arith) is in
    record {
      left = ap (λ l. l ++ left_all (serve m) cs) (sym (idle-left m c.now none))
          ∙ ap (λ l. session_now c ++ l) rest.left
          ∙ sym (append_assoc (session_now c) (flat_map session_now (take p cs)) (left_all (serve m) (drop p cs)));
      drafted = λ d. ap (round_all (serve m) cs) (idle-drafted m c.now d none) ∙ rest.drafted d;
    }
skip m (c ∷ cs) (suc n) (suc p) le within idle =
    let rest = skip m cs n p (omega (arith, le)) (omega (arith, within)) (λ i d s a b is. idle (suc i) d s (omega (arith, a)) (omega (arith, b)) is) in
    record {
      left = append_assoc (session_now c) (flat_map session_now (take n cs)) (left_all (serve m) (drop n cs))
          ∙ ap (λ l. session_now c ++ l) rest.left
          ∙ sym (append_assoc (session_now c) (flat_map session_now (take p cs)) (left_all (serve m) (drop p cs)));
      drafted = rest.drafted;
    }

-- the sessions at the first j places are as the message leaves them, and those up to n
pub record Calling (m : plain.AppMessage) (ps : List ℕ) (j : ℕ) (start cur : List Both) (from to : Drafted) : Type 0 where
  pub was : map session_was cur ≡ map session_was start
  pub n : ℕ
  pub within : n ≤ length cur
  pub left : left_so_far (serve m) cur n ≡ left_all (serve m) start
  pub drafted : round_all (serve m) (drop n cur) to ≡ round_all (serve m) start from
  pub behind : (k : ℕ) → k < j → get_or ps k 0 < n
  pub ahead : (k : ℕ) → j ≤ k → k < length ps → n ≤ get_or ps k 0
  pub idle : (i : ℕ) (d : Both) (s : plain.Session) → n ≤ i → i < length cur → (get_or cur i d).now ≡ Some s → is_place i ps ≡ false → best m.topic s.grants ≡ None

pub calling-start : (m : plain.AppMessage) (ps : List ℕ) (start : List Both) (from : Drafted) → AreCalled m.topic ps start → Calling m ps 0 start start from from
calling-start m ps start from idle = record {
  was = refl;
  n = zero;
  within = omega arith;
  left = refl;
  drafted = refl;
  behind = λ k low. absurd (omega (arith, low));
  ahead = λ k le low. omega arith;
  idle = λ i d s le low is out. idle i d s low is out;
}

length-was : (bs : List Both) → length (map session_was bs) ≡ length bs
length-was [] = refl
length-was (b ∷ bs) = ap suc (length-was bs)

pub calling-length : (cur start : List Both) → map session_was cur ≡ map session_was start → length cur ≡ length start
calling-length cur start e = sym (length-was cur) ∙ ap length e ∙ length-was start

pub calling-step : (m : plain.AppMessage) (ps : List ℕ) (j : ℕ) (start cur : List Both) (from to next : Drafted) (e x new : Both) → Calling m ps j start cur from to → ArePlaces ps start → j < length ps
    → x ≡ get_or cur (get_or ps j 0) e → new.was ≡ x.was → option_list new.now ≡ left_by (serve m) x.now → next ≡ served_by (serve m) x.now to
    → Calling m ps (j + 1) start (set cur (get_or ps j 0) new) from next
calling-step m ps j start cur from to next e x new c places low is was left drafted =
    let p = get_or ps j 0 in
    let same = calling-length cur start c.was in
    let plow = places.low j low in
    let below : p < length cur = omega (arith, same, plow) in
    let ahead = c.ahead j (omega arith) low in
    let out : (i : ℕ) → c.n ≤ i → i < p → is_place i ps ≡ false = λ i a b.
    not-place i ps (λ k klow at.
    ⊎_elim
    (λ lt. let under = c.behind k lt in omega (arith, under, at, a))
    (λ ge. ⊎_elim (λ gt. let up = places.rise j k gt klow in omega (arith, up, at, b)) (λ le. let one : k ≡ j = omega (arith, ge, le) in let there : get_or ps k 0 ≡ p = ap (λ q. get_or ps q 0) one in omega (arith, there, at, b)) (cases_lt j k))
    (cases_lt k j)) in
    let over = skip m cur c.n p ahead (omega (arith, below)) (λ i d s a b there. c.idle i d s a (omega (arith, b, below)) there (out i a b)) in
    let step = round-step (serve m) cur p e x new below is was left in
    record {
      was = step.was ∙ c.was;
      n = p + 1;
      within = let long = length-set cur p new in omega (arith, below, long);
      left = step.left ∙ sym over.left ∙ c.left;
      drafted = ap (round_all (serve m) (drop (p + 1) (set cur p new))) drafted ∙ step.drafted to ∙ sym (over.drafted to) ∙ c.drafted;
      behind = λ k lt. ⊎_elim
          (λ old. let under = c.behind k old in omega (arith, under, ahead))
          (λ ge. let one : k ≡ j = omega (arith, ge, lt) in let there : get_or ps k 0 ≡ p = ap (λ q. get_or ps q 0) one in omega (arith, there))
          (cases_lt k j);
      ahead = λ k le klow. let up = places.rise j k (omega (arith, le)) klow in omega (arith, up);
      idle = λ i d s le ilow there elsewhere.
          let long = length-set cur p new in
          c.idle i d s (omega (arith, le, ahead)) (omega (arith, ilow, long)) (ap (λ (b : Both). b.now) (sym (get_or-set_other cur p i new d (λ q. omega (arith, q, le)))) ∙ there) elsewhere;
    }

pub calling-end : (m : plain.AppMessage) (ps : List ℕ) (j : ℕ) (start cur : List Both) (from to : Drafted) → Calling m ps j start cur from to → length ps ≤ j
    → (flat_map session_now cur ≡ left_of_round (serve m) (flat_map session_now start)) × (to ≡ with_round (serve m) (flat_map session_now start) from)
calling-end m ps j start cur from to c whole =
    let out : (i : ℕ) → c.n ≤ i → is_place i ps ≡ false = λ i a. not-place i ps (λ k klow at. let under = c.behind k (omega (arith, klow, whole)) in omega (arith, under, at, a)) in
    let over = skip m cur c.n (length cur) c.within (omega arith) (λ i d s a b there. c.idle i d s a b there (out i a)) in (
      sym (left-end (serve m) cur (length cur) (omega arith)) ∙ sym over.left ∙ c.left ∙ left-whole (serve m) start,
      sym (drafted-end (serve m) cur (length cur) to (omega arith)) ∙ sym (over.drafted to) ∙ c.drafted ∙ drafted-whole (serve m) start from,
    )
