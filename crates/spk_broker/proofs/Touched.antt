-- Sessions at a few places are changed, and all others are as before the call.
use Rattle.std.proofs.Common.{◌≡◌, ℕ, zero, suc, ◌+◌, ◌<◌, ◌≤◌, Bool, true, false, not, ◌||◌, eqb, List, [], ◌∷◌, ◌++◌, length, map, get_or, set, refl, sym, ap, ◌∙◌, subst, Option, Some, None, arith, true≢false, Vec, Global}
use Rattle.std.specs.List.{flat_map, list_any}
use Rattle.std.specs.Option.{IfSome, is_some}
use Rattle.std.proofs.lemmas.List.{get_or-set_other, get_or-set_same, length-set}
use Rattle.std.proofs.lemmas.Bool.{cases_eq, cases_lt}
use mathlib.Core.Logic.{⊎_elim}
use Rattle.spk_broker_rules.specs.Data as plain
use Rattle.spk_broker_rules.specs.Words.{option_list}
use Rattle.spk_broker_rules.proofs.Lists.{eqb-is}
use Rattle.spk_broker.specs.Asking.{place_in}
use Rattle.spk_broker.specs.Both.{Both}
use Rattle.spk_broker.specs.Called.{AreKeyed, ArePlaces, IsKeyed, is_place}
use Rattle.spk_broker.specs.Entering.{whole}
use Rattle.spk_broker.specs.Settling.{has_ended, session_left}
use Rattle.spk_broker.specs.Touched.{AreTouched, AreVisited, IsAlone, OnlyAt}
use Rattle.spk_broker.specs.View.{IsSettled, newcomer_now, newcomer_was, session_now, session_was}
use Rattle.spk_broker.specs.declared.state.State.{State}
use Rattle.spk_broker.specs.declared.newcomer.Newcomer.{Newcomer}
use Rattle.spk_broker.specs.declared.session.Session.{Session}
use Rattle.spk_broker.proofs.Changes.{whole-at}
use Rattle.spk_broker.proofs.Near.{any-at, found-sits}
use Rattle.spk_broker.proofs.Visits.{calling-length, place-is, push-long, push-new, push-old}

-- ---- places

-- another place than one of these
pub no-place : (ps : List ℕ) (k i : ℕ) → k < length ps → is_place i ps ≡ false → i ≡ get_or ps k 0 → ⊥
no-place ps k i low out e = true≢false (sym (place-is ps k i low (sym e)) ∙ out)

-- where a place stands among these
pub place-at : (i : ℕ) (ps : List ℕ) → is_place i ps ≡ true → (k : ℕ) × (k < length ps) × (get_or ps k 0 ≡ i)
place-at i [] e = absurd (true≢false (sym e))
place-at i (p ∷ ps) e = by (eqb p i) refl e (λ f. place-at i ps f)
  where
    by : (b : Bool) → eqb p i ≡ b → b || is_place i ps ≡ true → (is_place i ps ≡ true → (k : ℕ) × (k < length ps) × (get_or ps k 0 ≡ i))
        → (k : ℕ) × (k < length (p ∷ ps)) × (get_or (p ∷ ps) k 0 ≡ i)
    by true is f rest = (zero, omega arith, eqb-is p i is)
    by false is f rest = let at = rest f in let low = at.1 in (suc at.0, omega (arith, low), at.2)

-- one place more
more-low : (ps : List ℕ) (p n : ℕ) → ((k : ℕ) → k < length ps → get_or ps k 0 < n) → p < n → (k : ℕ) → k < length (ps ++ p ∷ []) → get_or (ps ++ p ∷ []) k 0 < n
more-low [] p n low here zero lt = here
more-low [] p n low here (suc k) lt = absurd (omega (arith, lt))
more-low (q ∷ ps) p n low here zero lt = low zero (omega arith)
more-low (q ∷ ps) p n low here (suc k) lt = more-low ps p n (λ j less. low (suc j) (omega (arith, less))) here k (omega (arith, lt))

more-out : (ps : List ℕ) (p i : ℕ) → is_place i (ps ++ p ∷ []) ≡ false → (is_place i ps ≡ false) × (is_place i (p ∷ []) ≡ false)
more-out [] p i e = (refl, e)
more-out (q ∷ ps) p i e = by (eqb q i) e (λ f. more-out ps p i f)
  where
    by : (b : Bool) → b || is_place i (ps ++ p ∷ []) ≡ false → (is_place i (ps ++ p ∷ []) ≡ false → (is_place i ps ≡ false) × (is_place i (p ∷ []) ≡ false))
        → (b || is_place i ps ≡ false) × (is_place i (p ∷ []) ≡ false)
    by true f rest = absurd (true≢false f)
    by false f rest = rest f

-- what is read where something stands
pub same-read : {X : Type 0} (xs : List X) (i : ℕ) (d e : X) → i < length xs → get_or xs i d ≡ get_or xs i e
same-read [] i d e lt = absurd (omega (arith, lt))
same-read (x ∷ xs) zero d e lt = refl
same-read (x ∷ xs) (suc i) d e lt = same-read xs i d e (omega (arith, lt))

-- ---- who was changed

-- one session more than none
pub touched-set : (bs : List Both) (p : ℕ) (x : Both) → AreTouched (p ∷ []) bs → AreTouched (p ∷ []) (set bs p x)
touched-set bs p x t =
    let long = length-set bs p x in
    record {
      low = λ k lt. let low = t.low k lt in omega (arith, long, low);
      rest = λ i d lt out.
          subst (λ (b : Both). b ≡ whole b.was) (sym (get_or-set_other bs p i x d (no-place (p ∷ []) 0 i (omega arith) out)))
          (t.rest i d (omega (arith, long, lt)) out);
    }

pub only-set : (d0 d1 : State) (p : ℕ) (x : Both) → d1.sessions.items ≡ set d0.sessions.items p x → d1.newcomers ≡ d0.newcomers → OnlyAt (p ∷ []) d0 → OnlyAt (p ∷ []) d1
only-set d0 d1 p x sessions newcomers o = record {
  sessions = subst (AreTouched (p ∷ [])) (sym sessions) (touched-set d0.sessions.items p x o.sessions);
  newcomers = subst (λ (g : Vec Newcomer Global). flat_map newcomer_now g.items ≡ map newcomer_was g.items) (sym newcomers) o.newcomers;
}

-- between calls each has its number
pub settled-keyed : (d : State) → IsSettled d → AreKeyed d.sessions.items
settled-keyed d e i x lt = subst IsKeyed (sym (whole-at d.sessions.items i x (ap (λ (b : plain.Broker). b.sessions) e) lt)) refl

-- of a settled state none has changed
pub settled-alone : (d : State) (conn : ℕ) (o : Option ℕ) → IsSettled d → place_in conn d.sessions.items ≡ o → IsAlone o d
settled-alone d conn None e f = tt
settled-alone d conn (Some p) e f = record {
  sessions = record { low = first; rest = λ i x lt out. whole-at d.sessions.items i x (ap (λ (b : plain.Broker). b.sessions) e) lt };
  newcomers = ap (λ (b : plain.Broker). b.newcomers) e;
}
  where
    first : (k : ℕ) → k < length (p ∷ []) → get_or (p ∷ []) k 0 < length d.sessions.items
    first zero lt = (found-sits conn d.sessions.items p f).0
    first (suc k) lt = absurd (omega (arith, lt))

-- the same of a state with the same sessions and connections
-- a place among some is one among the same
pub low-as : (o : Option ℕ) (l m : List Both) → l ≡ m → IfSome o (λ p. (p ≡ 0) × (p < length l)) → IfSome o (λ p. p < length m)
low-as None l m e h = tt
low-as (Some p) l m e h = subst (λ (xs : List Both). p < length xs) e h.1

-- of a settled state none has changed, so not the one at a place
pub settled-at : (d : State) (o : Option ℕ) → IsSettled d → IfSome o (λ p. p < length d.sessions.items) → IsAlone o d
settled-at d None e low = tt
settled-at d (Some p) e low = record {
  sessions = record { low = first; rest = λ i x lt out. whole-at d.sessions.items i x (ap (λ (b : plain.Broker). b.sessions) e) lt };
  newcomers = ap (λ (b : plain.Broker). b.newcomers) e;
}
  where
    first : (k : ℕ) → k < length (p ∷ []) → get_or (p ∷ []) k 0 < length d.sessions.items
    first zero lt = low
    first (suc k) lt = absurd (omega (arith, lt))

pub alone-as : (o : Option ℕ) (d0 d1 : State) → d1.sessions ≡ d0.sessions → d1.newcomers ≡ d0.newcomers → IsAlone o d0 → IsAlone o d1
alone-as None d0 d1 sessions newcomers h = tt
alone-as (Some p) d0 d1 sessions newcomers h = record {
  sessions = subst (λ (v : Vec Session Global). AreTouched (p ∷ []) v.items) (sym sessions) h.sessions;
  newcomers = subst (λ (g : Vec Newcomer Global). flat_map newcomer_now g.items ≡ map newcomer_was g.items) (sym newcomers) h.newcomers;
}

-- and then those at which a message called
pub touched-more : (ps : List ℕ) (p : ℕ) (old new : List Both) → AreTouched (p ∷ []) old → AreVisited ps old new → AreTouched (ps ++ p ∷ []) new
touched-more ps p old new t v =
    let long = v.long in
    let here = t.low 0 (omega arith) in
    record {
      low = more-low ps p (length new) v.low (omega (arith, here, long));
      rest = λ i d lt out.
          let outs = more-out ps p i out in
          subst (λ (b : Both). b ≡ whole b.was) (sym (v.rest i d outs.0)) (t.rest i d (omega (arith, lt, long)) outs.1);
    }

pub few-touched : (sender : Option ℕ) (places : Option (Vec ℕ Global)) (p : ℕ) (ps : Vec ℕ Global) (old new : State) → sender ≡ Some p → places ≡ Some ps
    → IsAlone sender old → IfSome places (λ (l : Vec ℕ Global). AreVisited l.items old.sessions.items new.sessions.items) → new.newcomers ≡ old.newcomers → OnlyAt (ps.items ++ p ∷ []) new
few-touched sender places p ps old new e f here there same =
    let alone : OnlyAt (p ∷ []) old = subst (λ o. IsAlone o old) e here in
    record {
      sessions = touched-more ps.items p old.sessions.items new.sessions.items alone.sessions
          (subst (λ o. IfSome o (λ (l : Vec ℕ Global). AreVisited l.items old.sessions.items new.sessions.items)) f there);
      newcomers = subst (λ (g : Vec Newcomer Global). flat_map newcomer_now g.items ≡ map newcomer_was g.items) (sym same) alone.newcomers;
    }

-- ---- a message calls at places

abbrev pub IsApart : List ℕ → List Both → List Both → Type 0
IsApart ps old new = (i : ℕ) (d : Both) → is_place i ps ≡ false → get_or new i d ≡ get_or old i d

pub apart-start : (ps : List ℕ) (bs : List Both) → IsApart ps bs bs
apart-start ps bs i d out = refl

pub apart-step : (ps : List ℕ) (j : ℕ) (start cur : List Both) (x : Both) → j < length ps → IsApart ps start cur → IsApart ps start (set cur (get_or ps j 0) x)
apart-step ps j start cur x low h i d out = get_or-set_other cur (get_or ps j 0) i x d (no-place ps j i low out) ∙ h i d out

pub visited : (ps : List ℕ) (old new : List Both) → map session_was new ≡ map session_was old → ArePlaces ps old → IsApart ps old new → AreVisited ps old new
visited ps old new was places apart =
    let long = calling-length new old was in
    record {
      long = long;
      low = λ k lt. let low = places.low k lt in omega (arith, low, long);
      rest = apart;
    }

pub visited-as : (o : Option (Vec ℕ Global)) (a b c d : List Both) → a ≡ b → c ≡ d → IfSome o (λ ps. AreVisited ps.items a c) → IfSome o (λ ps. AreVisited ps.items b d)
visited-as o a b c d e f h =
    subst (λ x. IfSome o (λ ps. AreVisited ps.items b x)) f (subst (λ x. IfSome o (λ ps. AreVisited ps.items x c)) e h)

-- ---- the sessions at places are settled

-- those at the first j places are
pub record Settling (ps : List ℕ) (j : ℕ) (start cur : List Both) (ended : Bool) : Type 0 where
  pub long : length cur ≡ length start
  pub now : (i : ℕ) (d : Both) → i < length start → (get_or cur i d).now ≡ (get_or start i d).now
  pub left : (k : ℕ) (d : Both) → k < j → k < length ps → session_left (get_or cur (get_or ps k 0) d) ≡ option_list (get_or start (get_or ps k 0) d).now
  pub apart : IsApart ps start cur
  pub there : ended ≡ false → (k : ℕ) (d : Both) → k < j → k < length ps → is_some (get_or cur (get_or ps k 0) d).now ≡ true
  pub gone : ended ≡ true → (k : ℕ) × (k < j) × (k < length ps) × ((d : Both) → has_ended (get_or start (get_or ps k 0) d) ≡ true)

pub settling-start : (ps : List ℕ) (start : List Both) → Settling ps 0 start start false
settling-start ps start = record {
  long = refl;
  now = λ i d lt. refl;
  left = λ k d lt low. absurd (omega (arith, lt));
  apart = apart-start ps start;
  there = λ e k d lt low. absurd (omega (arith, lt));
  gone = λ e. absurd (true≢false (sym e));
}

either-true : (a b : Bool) (P : Type 0) → a || b ≡ true → (a ≡ true → P) → (b ≡ true → P) → P
either-true true b P e left right = left refl
either-true false b P e left right = right e

either-false : (a b : Bool) → a || b ≡ false → (a ≡ false) × (b ≡ false)
either-false true b e = absurd (true≢false e)
either-false false b e = (refl, e)

stays-there : (o : Option plain.Session) → not (is_some o) ≡ false → is_some o ≡ true
stays-there None e = absurd (true≢false e)
stays-there (Some s) e = refl

-- what is read after one was written
set-cases : (cur : List Both) (p : ℕ) (new : Both) (i : ℕ) (d : Both) → p < length cur → (P : Both → Type 0) → (i ≡ p → P new) → ((i ≡ p → ⊥) → P (get_or cur i d)) → P (get_or (set cur p new) i d)
set-cases cur p new i d below P here other =
    ⊎_elim
    (λ e. subst (λ n. P (get_or (set cur p new) n d)) (sym e) (subst P (sym (get_or-set_same cur p new d below)) (here e)))
    (λ ne. subst P (sym (get_or-set_other cur p i new d ne)) (other ne))
    (cases_eq i p)

pub settling-step : (ps : List ℕ) (j : ℕ) (start cur : List Both) (ended gone : Bool) (e new : Both) → Settling ps j start cur ended → AreTouched ps start → j < length ps
    → new.now ≡ (get_or cur (get_or ps j 0) e).now → session_left new ≡ option_list (get_or cur (get_or ps j 0) e).now → gone ≡ has_ended new
    → Settling ps (j + 1) start (set cur (get_or ps j 0) new) (ended || gone)
settling-step ps j start cur ended gone e new c t low now left is =
    let p = get_or ps j 0 in
    let long = c.long in
    let plow = t.low j low in
    let below : p < length cur = omega (arith, long, plow) in
    let one : (d : Both) → new.now ≡ (get_or start p d).now = λ d. now ∙ c.now p e plow ∙ ap (λ (b : Both). b.now) (same-read start p e d plow) in
    record {
      long = length-set cur p new ∙ long;
      now = λ i d lt. set-cases cur p new i d below (λ b. b.now ≡ (get_or start i d).now)
          (λ same. subst (λ n. new.now ≡ (get_or start n d).now) (sym same) (one d)) (λ ne. c.now i d lt);
      left = λ k d lt klow. set-cases cur p new (get_or ps k 0) d below (λ b. session_left b ≡ option_list (get_or start (get_or ps k 0) d).now)
          (λ same. subst (λ n. session_left new ≡ option_list (get_or start n d).now) (sym same) (left ∙ ap option_list (sym now ∙ one d)))
          (λ ne. ⊎_elim (λ old. c.left k d old klow) (λ ge. let last : k ≡ j = omega (arith, ge, lt) in absurd (ne (ap (λ q. get_or ps q 0) last))) (cases_lt k j));
      apart = apart-step ps j start cur new low c.apart;
      there = λ f k d lt klow.
          let parts = either-false ended gone f in
          set-cases cur p new (get_or ps k 0) d below (λ b. is_some b.now ≡ true)
          (λ same. stays-there new.now (sym is ∙ parts.1))
          (λ ne. ⊎_elim (λ old. c.there parts.0 k d old klow) (λ ge. let last : k ≡ j = omega (arith, ge, lt) in absurd (ne (ap (λ q. get_or ps q 0) last))) (cases_lt k j));
      gone = λ f. either-true ended gone _ f
          (λ old. let at = c.gone old in let before = at.1 in (at.0, omega (arith, before), at.2, at.3))
          (λ last. (j, omega arith, low, λ d. ap (λ o. not (is_some o)) (sym (one d)) ∙ sym is ∙ last));
    }

-- the same at a place that is written otherwise
settling-next : (ps : List ℕ) (j p : ℕ) (start cur : List Both) (ended gone : Bool) (e new : Both) → p ≡ get_or ps j 0 → Settling ps j start cur ended → AreTouched ps start → j < length ps
    → new.now ≡ (get_or cur p e).now → session_left new ≡ option_list (get_or cur p e).now → gone ≡ has_ended new
    → Settling ps (j + 1) start (set cur p new) (ended || gone)
settling-next ps j p start cur ended gone e new at c t low now left is =
    subst (λ q. Settling ps (j + 1) start (set cur q new) (ended || gone)) (sym at)
    (settling-step ps j start cur ended gone e new c t low
    (subst (λ q. new.now ≡ (get_or cur q e).now) at now)
    (subst (λ q. session_left new ≡ option_list (get_or cur q e).now) at left) is)

-- of these places and one behind them the next, and then the last
pub settling-front : (ps : List ℕ) (p j : ℕ) (start cur : List Both) (ended gone : Bool) (e new : Both) → Settling (ps ++ p ∷ []) j start cur ended → AreTouched (ps ++ p ∷ []) start → j < length ps
    → new.now ≡ (get_or cur (get_or ps j 0) e).now → session_left new ≡ option_list (get_or cur (get_or ps j 0) e).now → gone ≡ has_ended new
    → Settling (ps ++ p ∷ []) (j + 1) start (set cur (get_or ps j 0) new) (ended || gone)
settling-front ps p j start cur ended gone e new c t low now left is =
    let more = push-long ps p in
    settling-next (ps ++ p ∷ []) j (get_or ps j 0) start cur ended gone e new (sym (push-old ps p j low)) c t (omega (arith, low, more)) now left is

pub settling-last : (ps : List ℕ) (p j : ℕ) (start cur : List Both) (ended gone : Bool) (e new : Both) → Settling (ps ++ p ∷ []) j start cur ended → AreTouched (ps ++ p ∷ []) start → length ps ≤ j → j ≤ length ps
    → new.now ≡ (get_or cur p e).now → session_left new ≡ option_list (get_or cur p e).now → gone ≡ has_ended new
    → Settling (ps ++ p ∷ []) (j + 1) start (set cur p new) (ended || gone)
settling-last ps p j start cur ended gone e new c t above under now left is =
    let more = push-long ps p in
    let last : j ≡ length ps = omega (arith, above, under) in
    settling-next (ps ++ p ∷ []) j p start cur ended gone e new (sym (push-new ps p j last)) c t (omega (arith, under, more)) now left is

pub all-places : (ps : List ℕ) (p j : ℕ) → length ps ≤ j → length (ps ++ p ∷ []) ≤ j + 1
all-places ps p j above = let more = push-long ps p in omega (arith, above, more)

-- sessions stand there
pub front-low : (ps : List ℕ) (p k : ℕ) (start cur : List Both) → AreTouched (ps ++ p ∷ []) start → length cur ≡ length start → k < length ps → get_or ps k 0 < length cur
front-low ps p k start cur t long low =
    let more = push-long ps p in
    let here = t.low k (omega (arith, low, more)) in
    let same = push-old ps p k low in
    omega (arith, here, same, long)

pub last-low : (ps : List ℕ) (p : ℕ) (start cur : List Both) → AreTouched (ps ++ p ∷ []) start → length cur ≡ length start → p < length cur
last-low ps p start cur t long =
    let more = push-long ps p in
    let here = t.low (length ps) (omega (arith, more)) in
    let same = push-new ps p (length ps) refl in
    omega (arith, here, same, long)

-- ---- at the end

flat-at : {X Y : Type 0} (f g : X → List Y) (xs ys : List X) → length xs ≡ length ys → ((i : ℕ) (d : X) → i < length xs → f (get_or xs i d) ≡ g (get_or ys i d)) → flat_map f xs ≡ flat_map g ys
flat-at f g [] [] e h = refl
flat-at f g [] (y ∷ ys) e h = absurd (omega (arith, e))
flat-at f g (x ∷ xs) [] e h = absurd (omega (arith, e))
flat-at f g (x ∷ xs) (y ∷ ys) e h =
    ap (λ l. l ++ flat_map f xs) (h zero x (omega arith)) ∙ ap (λ l. g y ++ l) (flat-at f g xs ys (omega (arith, e)) (λ i d lt. h (suc i) d (omega (arith, lt))))

pub any-none : {X : Type 0} (p : X → Bool) (xs : List X) → ((i : ℕ) (d : X) → i < length xs → p (get_or xs i d) ≡ false) → list_any p xs ≡ false
any-none p [] h = refl
any-none p (x ∷ xs) h = ap (λ b. b || list_any p xs) (h zero x (omega arith)) ∙ any-none p xs (λ i d lt. h (suc i) d (omega (arith, lt)))

-- what holds of those at places, and of those that are as before the call, holds of each
each : (ps : List ℕ) (i : ℕ) (P : Type 0) → (is_place i ps ≡ true → P) → (is_place i ps ≡ false → P) → P
each ps i P here other = by (is_place i ps) refl
  where
    by : (b : Bool) → is_place i ps ≡ b → P
    by true e = here e
    by false e = other e

pub settled-now : (ps : List ℕ) (j : ℕ) (start cur : List Both) (ended : Bool) → Settling ps j start cur ended → flat_map session_now cur ≡ flat_map session_now start
settled-now ps j start cur ended c =
    let long = c.long in
    flat-at session_now session_now cur start c.long (λ i d lt. ap option_list (c.now i d (omega (arith, lt, long))))

pub settled-left : (ps : List ℕ) (j : ℕ) (start cur : List Both) (ended : Bool) → Settling ps j start cur ended → AreTouched ps start → length ps ≤ j → flat_map session_left cur ≡ flat_map session_now start
settled-left ps j start cur ended c t whole-list =
    let long = c.long in
    flat-at session_left session_now cur start c.long
    (λ i d lt. each ps i (session_left (get_or cur i d) ≡ option_list (get_or start i d).now)
    (λ in-it. let at = place-at i ps in-it in let low = at.1 in
    subst (λ n. session_left (get_or cur n d) ≡ option_list (get_or start n d).now) at.2 (c.left at.0 d (omega (arith, low, whole-list)) low))
    (λ out. let rest = t.rest i d (omega (arith, lt, long)) out in
    ap session_left (c.apart i d out ∙ rest) ∙ sym (ap (λ (b : Both). option_list b.now) rest)))

settled-there : (ps : List ℕ) (j : ℕ) (start cur : List Both) (ended : Bool) → Settling ps j start cur ended → AreTouched ps start → length ps ≤ j → ended ≡ false → list_any has_ended cur ≡ false
settled-there ps j start cur ended c t whole-list none =
    let long = c.long in
    any-none has_ended cur
    (λ i d lt. each ps i (has_ended (get_or cur i d) ≡ false)
    (λ in-it. let at = place-at i ps in-it in let low = at.1 in
    subst (λ n. has_ended (get_or cur n d) ≡ false) at.2 (ap not (c.there none at.0 d (omega (arith, low, whole-list)) low)))
    (λ out. ap has_ended (c.apart i d out ∙ t.rest i d (omega (arith, lt, long)) out)))

-- and none that stands elsewhere did
pub settled-stay : (ps : List ℕ) (j : ℕ) (start cur : List Both) (ended : Bool) → Settling ps j start cur ended → AreTouched ps start → (i : ℕ) (d : Both) → i < length cur
    → is_place i ps ≡ false → has_ended (get_or cur i d) ≡ false
settled-stay ps j start cur ended c t i d lt out = let long = c.long in ap has_ended (c.apart i d out ∙ t.rest i d (omega (arith, lt, long)) out)

-- whether one of them ended
pub settled-ended : (ps : List ℕ) (j : ℕ) (start cur : List Both) (ended : Bool) → Settling ps j start cur ended → AreTouched ps start → length ps ≤ j → ended ≡ list_any has_ended cur
settled-ended ps j start cur ended c t whole-list = by ended refl
  where
    some : (bs : List Both) (p : ℕ) → p < length bs → ((d : Both) → has_ended (get_or bs p d) ≡ true) → list_any has_ended bs ≡ true
    some [] p low at = absurd (omega (arith, low))
    some (b ∷ bs) p low at = any-at has_ended (b ∷ bs) p b low (at b)

    by : (b : Bool) → ended ≡ b → b ≡ list_any has_ended cur
    by false e = sym (settled-there ps j start cur ended c t whole-list e)
    by true e =
        let at = c.gone e in
        let long = c.long in
        let plow = t.low at.0 at.2 in
        sym (some cur (get_or ps at.0 0) (omega (arith, long, plow)) (λ d. ap (λ o. not (is_some o)) (c.now (get_or ps at.0 0) d plow) ∙ at.3 d))
