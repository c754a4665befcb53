-- A message that isn't an NBIRTH and comes while the host doesn't follow does nothing. What is handed is lawful without these.
use Rattle.std.proofs.Common.{◌≡◌, ◌∙◌, sym, ap, refl, subst, inl, inr, ◌⊎◌, ℕ, ◌+◌, ◌≤◌, max, Bool, true, false, true≢false, ◌&&◌, ◌||◌, not, cond, List, [], ◌∷◌, ◌++◌, Some, arith}
use Rattle.spk_sequence.specs.declared.answer.Step.{Step}
use Rattle.spk_sequence.specs.declared.answer.Step.TheVariants as step
use Rattle.spk_sequence.specs.declared.message.Kind.TheVariants.{Birth, Other}
use Rattle.spk_sequence.specs.Calls.{Stepped, after_call}
use Rattle.spk_sequence.specs.Claims.{AfterGap, HasCause, IsLawful, IsLiveByPositions, TakesBirth}
use Rattle.spk_sequence.specs.Data.{Standing}
use Rattle.spk_sequence.specs.Following.{contains, following, is_session_dead, is_session_of, taken, takes}
use Rattle.spk_sequence.specs.HostRecord.{Done, HostRecord, Input, MessageComes, DeathComes, TickComes, call_of, consumed_by, done_at, kind_of, next_after, reach, record_of, standing_of}
use Rattle.spk_sequence.specs.NodeRecord.{NodeRecord, Numbering, Restarts, RunsOn, Setting, opens, session_at, stamp_at, start_of, written_number, written_session}
use Rattle.spk_sequence.specs.Positions.{is_of_dead, is_taken_before}
use Rattle.spk_sequence.specs.Step.{hand, is_live}
use Rattle.spk_sequence.specs.Window.{AllNearDeaths, IsAfterBirth, IsAfterOwnBirth, IsNearBirth, IsNearDeath, IsNearTo, IsToldApart, MayCome, NumbersFit}
use Rattle.spk_handed.specs.Handed.{AreRising, IsHanded, past_newest, positions_in}
use Rattle.spk_handed.proofs.Agreeing.{Agree, agree_after, agree_without, done_same, nothing, passed_over}

-- what the laws of `spk_sequence` say
pub record Laws : Type 0 where
  pub live : (s : Setting) (is : List Input) → IsLawful s is → IsLiveByPositions s is
  pub start_opens : (published : NodeRecord) (p : ℕ) → opens published (start_of published p) ≡ true

-- the inputs js are lawful, and to the host they are as the inputs `is` that were handed
pub record Left (s : Setting) (is js : List Input) : Type 0 where
  pub lawful : IsLawful s js
  pub agree : Agree s (record_of s is) (record_of s js)
  pub standing : standing_of s is ≡ standing_of s js
  pub below : reach (record_of s js) ≤ past_newest (positions_in is)
  pub reached : (following s (record_of s is)).on ≡ true → reach (record_of s js) ≡ past_newest (positions_in is)
  pub near : AllNearDeaths s is → AllNearDeaths s js

-- ---- of fewer inputs

pub fewer : (s : Setting) (i : Input) (is : List Input) → IsHanded s (i ∷ is) → IsHanded s is
fewer s i is r = record {
  node = r.node;
  some_places = r.some_places;
  few_places = r.few_places;
  published = r.published.1;
  rising = rising i r.rising;
  few = r.few.1;
  deaths = r.deaths.1;
  births = λ e. (r.births e).1;
  near = λ e. (r.near e).1;
}
  where
    rising : (i : Input) → AreRising (positions_in (i ∷ is)) → AreRising (positions_in is)
    rising (MessageComes p now) h = h.1
    rising (DeathComes session now) h = h
    rising (TickComes now) h = h

pub before : (s : Setting) (later is : List Input) → IsHanded s (later ++ is) → IsHanded s is
before s [] is r = r
before s (i ∷ later) is r = before s later is (fewer s i (later ++ is) r)

-- ---- an input that is kept

first_true : (a b c : Bool) → (a && b && c) ≡ true → a ≡ true
first_true true b c e = refl
first_true false b c e = e

same_done : (s : Setting) (is js : List Input) (i : Input) → Left s is js
    → done_at s (record_of s is) (standing_of s is) i ≡ done_at s (record_of s js) (standing_of s js) i
same_done s is js i l = ap (λ d. done_at s (record_of s is) d i) l.standing ∙ done_same s (record_of s is) (record_of s js) (standing_of s js) i l.agree

near_same : (s : Setting) (is js : List Input) (i : Input) → Left s is js → IsNearBirth s (record_of s is) i → IsNearBirth s (record_of s js) i
near_same s is js (MessageComes p now) l near = λ o. subst (λ t. IsNearTo s t (session_at s.published p)) l.agree.taken (near o)
near_same s is js (DeathComes session now) l near = tt
near_same s is js (TickComes now) l near = tt

near_death_same : (s : Setting) (is js : List Input) (i : Input) → Left s is js → IsNearDeath s (record_of s is) i → IsNearDeath s (record_of s js) i
near_death_same s is js (MessageComes p now) l near = tt
near_death_same s is js (DeathComes session now) l near = subst (λ t. IsNearTo s t session) l.agree.taken near
near_death_same s is js (TickComes now) l near = tt

may_come : (s : Setting) (is js : List Input) (i : Input) → IsHanded s (i ∷ is) → Left s is js → MayCome s (record_of s js) i
may_come s is js (MessageComes p now) r l =
    let low = l.below in
    let rising = r.rising.0 in
    record {
      published = r.published.0;
      not_far_behind = omega (arith, low, rising);
      not_far_ahead = λ on.
          let follows = l.agree.on ∙ on in
          let same = l.reached follows in
          let few = r.few.0 follows in
          omega (arith, rising, same, few);
    }
may_come s is js (DeathComes session now) r l = λ on. subst (λ t. IsToldApart s t session) l.agree.taken (r.deaths.0 (l.agree.on ∙ on))
may_come s is js (TickComes now) r l = tt

numbered : (s : Setting) (is js : List Input) (i : Input) → IsHanded s (i ∷ is) → Left s is js
    → (s.numbering ≡ Restarts → IsAfterOwnBirth s (record_of s js) i) → NumbersFit s.numbering s (i ∷ js)
numbered s is js i r l own = go s.numbering refl l.lawful.numbered
  where
    go : (n : Numbering) → s.numbering ≡ n → NumbersFit n s js → NumbersFit n s (i ∷ js)
    go RunsOn e fit = tt
    go Restarts e fit = (own e, near_same s is js i l ((r.near e).0), fit)

below_same : (s : Setting) (is js : List Input) (i : Input) → IsHanded s (i ∷ is) → Left s is js → reach (record_of s (i ∷ js)) ≤ past_newest (positions_in (i ∷ is))
below_same s is js (MessageComes p now) r l = let low = l.below in let rising = r.rising.0 in most p (reach (record_of s js)) (past_newest (positions_in is)) low rising
  where
    most : (p m n : ℕ) → m ≤ n → n ≤ p → max (p + 1) m ≤ p + 1
    most p m n low rising = omega (arith, low, rising)
below_same s is js (DeathComes session now) r l = l.below
below_same s is js (TickComes now) r l = l.below

reached_same : (s : Setting) (is js : List Input) (i : Input) → IsHanded s (i ∷ is) → Left s is js
    → (following s (record_of s (i ∷ is))).on ≡ true → reach (record_of s (i ∷ js)) ≡ past_newest (positions_in (i ∷ is))
reached_same s is js (MessageComes p now) r l on = most p (reach (record_of s js)) (past_newest (positions_in is)) l.below r.rising.0
  where
    most : (p m n : ℕ) → m ≤ n → n ≤ p → max (p + 1) m ≡ p + 1
    most p m n low rising = omega (arith, low, rising)
reached_same s is js (DeathComes session now) r l on = l.reached (first_true (following s (record_of s is)).on _ _ on)
reached_same s is js (TickComes now) r l on = l.reached (first_true (following s (record_of s is)).on _ _ on)

keep : (s : Setting) (is js : List Input) (i : Input) → IsHanded s (i ∷ is) → Left s is js
    → (s.numbering ≡ Restarts → IsAfterOwnBirth s (record_of s js) i) → Left s (i ∷ is) (i ∷ js)
keep s is js i r l own = record {
  lawful = record {
    node = r.node;
    some_places = r.some_places;
    few_places = r.few_places;
    may_come = (may_come s is js i r l, l.lawful.may_come);
    numbered = numbered s is js i r l own;
  };
  agree = subst (λ e. Agree s (e ∷ record_of s is) (record_of s (i ∷ js))) (sym (same_done s is js i l))
      (agree_after s (record_of s is) (record_of s js) (done_at s (record_of s js) (standing_of s js) i) l.agree);
  standing = ap (λ d. after_call d (call_of s i)) l.standing;
  below = below_same s is js i r l;
  reached = reached_same s is js i r l;
  near = λ all. (near_death_same s is js i l all.0, l.near all.1);
}

-- ---- an input that does nothing

cond_true : {X : Type 0} (b : Bool) (x y : X) → b ≡ true → cond b x y ≡ x
cond_true true x y e = refl
cond_true false x y e = absurd (true≢false (sym e))

-- a message that isn't an NBIRTH, while the phase isn't Live
quiet : (s : Setting) (d : Standing) (p now : ℕ) → is_live d.phase ≡ false → opens s.published p ≡ false
    → hand d (written_number s p) (kind_of s p) now ≡ (step.NotLive, d)
quiet s d p now off other =
    ap (λ b. hand d (written_number s p) (cond b (Birth (stamp_at s.published p) (written_session s (session_at s.published p))) (Other (Some (stamp_at s.published p)))) now) other
    ∙ cond_true (not (is_live d.phase)) (step.NotLive, d) _ (ap not off)

quiet_done : (s : Setting) (h : HostRecord) (d : Standing) (p now : ℕ) → is_live d.phase ≡ false → opens s.published p ≡ false
    → done_at s h d (MessageComes p now) ≡ passed_over p now
quiet_done s h d p now off other =
    ap (λ (x : Step × Standing). record { input = MessageComes p now; reply = Stepped x.0; consumed = consumed_by s h (MessageComes p now) (Stepped x.0) }) (quiet s d p now off other)

-- an NBIRTH comes
abbrev pub opens_by : Setting → Input → Bool
opens_by s (MessageComes p now) = opens s.published p
opens_by s (DeathComes session now) = false
opens_by s (TickComes now) = false

pub record Skips (s : Setting) (is js : List Input) (i : Input) : Type 0 where
  pub other : opens_by s i ≡ false
  pub nothing : (done_at s (record_of s is) (standing_of s is) i).consumed ≡ []
  pub left : Left s (i ∷ is) js

skip : Laws → (s : Setting) (is js : List Input) (p now : ℕ) → IsHanded s (MessageComes p now ∷ is) → Left s is js
    → (following s (record_of s is)).on ≡ false → opens s.published p ≡ false → Skips s is js (MessageComes p now)
skip laws s is js p now r l off other =
    let phase : is_live (standing_of s is).phase ≡ false = ap (λ (d : Standing). is_live d.phase) l.standing ∙ (laws.live s js l.lawful).live ∙ sym l.agree.on ∙ off in
    let done = quiet_done s (record_of s is) (standing_of s is) p now phase other in
    let agree : Agree s (record_of s (MessageComes p now ∷ is)) (record_of s js) =
    subst (λ e. Agree s (e ∷ record_of s is) (record_of s js)) (sym done) (agree_without s (record_of s is) (record_of s js) p now l.agree off other) in
    let low = l.below in
    let rising = r.rising.0 in
    record {
      other = other;
      nothing = ap (λ (e : Done). e.consumed) done;
      left = record {
        lawful = l.lawful;
        agree = agree;
        standing = ap (λ (x : Step × Standing). x.1) (quiet s (standing_of s is) p now phase other) ∙ l.standing;
        below = omega (arith, low, rising);
        reached = λ on. absurd (true≢false (sym on ∙ agree.on ∙ sym l.agree.on ∙ off));
        near = λ all. l.near all.1;
      };
    }

-- ---- either

abbrev pub Goes : Setting → List Input → List Input → Input → Type 0
Goes s is js i = Left s (i ∷ is) (i ∷ js) ⊎ Skips s is js i

pub goes : Laws → (s : Setting) (is js : List Input) (i : Input) → IsHanded s (i ∷ is) → Left s is js → Goes s is js i
goes laws s is js (DeathComes session now) r l = inl (keep s is js (DeathComes session now) r l (λ e. tt))
goes laws s is js (TickComes now) r l = inl (keep s is js (TickComes now) r l (λ e. tt))
goes laws s is js (MessageComes p now) r l = by_kind (opens s.published p) refl (following s (record_of s is)).on refl
  where
    behind : s.numbering ≡ Restarts → (following s (record_of s is)).on ≡ true → IsAfterBirth s (record_of s js) p
    behind e on = elim ((r.births e).0 on) [
      | inl opening ↦ inl opening
      | inr came ↦ inr (sym (l.agree.births (start_of s.published p) (laws.start_opens s.published p)) ∙ came)
    ]

    by_kind : (o : Bool) → opens s.published p ≡ o → (on : Bool) → (following s (record_of s is)).on ≡ on → Goes s is js (MessageComes p now)
    by_kind true o on f = inl (keep s is js (MessageComes p now) r l (λ e. inl o))
    by_kind false o true f = inl (keep s is js (MessageComes p now) r l (λ e. behind e f))
    by_kind false o false f = inr (skip laws s is js p now r l f o)

-- what the inputs leave
pub left_of : Laws → (s : Setting) (is : List Input) → IsHanded s is → (js : List Input) × Left s is js
left_of laws s [] r = (
  [],
  record {
    lawful = record { node = r.node; some_places = r.some_places; few_places = r.few_places; may_come = tt; numbered = none s.numbering };
    agree = nothing s;
    standing = refl;
    below = omega arith;
    reached = λ on. refl;
    near = λ all. tt;
  },
)
  where
    none : (n : Numbering) → NumbersFit n s []
    none RunsOn = tt
    none Restarts = tt
left_of laws s (i ∷ is) r = let rest = left_of laws s is (fewer s i is r) in more rest.0 (goes laws s is rest.0 i r rest.1)
  where
    more : (js : List Input) → Goes s is js i → (ks : List Input) × Left s (i ∷ is) ks
    more js (inl l) = (i ∷ js, l)
    more js (inr k) = (js, k.left)

-- ---- what follows

pub after_gap : Laws → ((s : Setting) (is : List Input) (i : Input) → IsLawful s (i ∷ is) → AfterGap s (record_of s is) (done_at s (record_of s is) (standing_of s is) i))
    → (s : Setting) (is : List Input) (i : Input) → IsHanded s (i ∷ is) → AfterGap s (record_of s is) (done_at s (record_of s is) (standing_of s is) i)
after_gap laws law s is i r off = let rest = left_of laws s is (fewer s i is r) in by_way rest.0 rest.1 (goes laws s is rest.0 i r rest.1)
  where
    by_way : (js : List Input) → Left s is js → Goes s is js i → ((done_at s (record_of s is) (standing_of s is) i).consumed ≡ [])
        ⊎ ((p : ℕ) × ((done_at s (record_of s is) (standing_of s is) i).consumed ≡ p ∷ []) × (opens s.published p ≡ true) × (is_taken_before (taken s (record_of s is)) p ≡ false))
    by_way js l (inr k) = inl k.nothing
    by_way js l (inl kept) = elim (law s js i kept.lawful (sym l.agree.on ∙ off)) [
      | inl none ↦ inl (ap (λ (e : Done). e.consumed) (same_done s is js i l) ∙ none)
      | inr some ↦ inr (some.0, ap (λ (e : Done). e.consumed) (same_done s is js i l) ∙ some.1, some.2, ap (λ t. is_taken_before t some.0) l.agree.taken ∙ some.3)
    ]

pub cause : Laws → ((s : Setting) (is : List Input) → IsLawful s is → HasCause s (record_of s is)) → (s : Setting) (is : List Input) → IsHanded s is → HasCause s (record_of s is)
cause laws law s is r on =
    let rest = left_of laws s is r in
    let a : Agree s (record_of s is) (record_of s rest.0) = rest.1.agree in
    ap (λ n. contains n (following s (record_of s is)).handed) a.next ∙ ap (contains (next_after (record_of s rest.0))) a.handed ∙ law s rest.0 rest.1.lawful (sym a.on ∙ on)

pub births : Laws → ((s : Setting) (is : List Input) (p now : ℕ) → IsLawful s (MessageComes p now ∷ is) → AllNearDeaths s (MessageComes p now ∷ is)
    → IsNearBirth s (record_of s is) (MessageComes p now) → TakesBirth s (record_of s is) p (done_at s (record_of s is) (standing_of s is) (MessageComes p now)))
    → (s : Setting) (is : List Input) (p now : ℕ) → IsHanded s (MessageComes p now ∷ is) → AllNearDeaths s is → IsNearBirth s (record_of s is) (MessageComes p now)
    → TakesBirth s (record_of s is) p (done_at s (record_of s is) (standing_of s is) (MessageComes p now))
births laws law s is p now r deaths near opening = let rest = left_of laws s is (fewer s (MessageComes p now) is r) in by_way rest.0 rest.1 (goes laws s is rest.0 (MessageComes p now) r rest.1)
  where
    by_way : (js : List Input) → Left s is js → Goes s is js (MessageComes p now)
        → takes s (done_at s (record_of s is) (standing_of s is) (MessageComes p now)) ≡ not (is_taken_before (taken s (record_of s is)) p || is_of_dead s (record_of s is) p)
    by_way js l (inr k) = absurd (true≢false (sym opening ∙ k.other))
    by_way js l (inl kept) =
        ap (takes s) (same_done s is js (MessageComes p now) l)
        ∙ law s js p now kept.lawful (tt, l.near deaths) (near_same s is js (MessageComes p now) l near) opening
        ∙ ap (λ t. not (is_taken_before t p || (is_session_dead s (record_of s js) && is_session_of s t (session_at s.published p)))) (sym l.agree.taken)
        ∙ ap (λ b. not (is_taken_before (taken s (record_of s is)) p || (b && is_session_of s (taken s (record_of s is)) (session_at s.published p)))) (sym l.agree.dead)
