-- What is relayed so is inside the window.
use Rattle.std.proofs.Common.{◌≡◌, ◌∙◌, sym, ap, refl, subst, inl, inr, ℕ, ◌+◌, ◌-◌, ◌*◌, ◌%◌, ◌<◌, ◌≤◌, max, Bool, true, false, ◌&&◌, true≢false, List, [], ◌∷◌, ◌++◌, length, Option, Some, None, arith}
use Rattle.std.proofs.lemmas.Bool.{cases_lt}
use Rattle.std.proofs.lemmas.List.{get_or_past}
use Rattle.spk_sequence.specs.Claims.{IsLawful}
use Rattle.spk_sequence.specs.Following.{following, taken}
use Rattle.spk_sequence.specs.HostRecord.{Input, MessageComes, DeathComes, TickComes, reach, record_of}
use Rattle.spk_sequence.specs.NodeRecord.{NodeRecord, Setting, session_at}
use Rattle.spk_sequence.specs.Window.{AllMayCome, AllNearDeaths, IsNearBirth, IsNearDeath, IsNearTo, IsToldApart, MayCome, NumbersFit}
use Rattle.spk_plant_relay.specs.Relayed.{AreEarlyDeaths, AreRising, HasFewSessions, IsRelayed, missing, oldest_of, past_newest, positions_in}

-- ---- of fewer inputs

pub missing-fewer : (p : ℕ) (ps : List ℕ) → AreRising (p ∷ ps) → missing ps ≤ missing (p ∷ ps)
missing-fewer p [] rising = omega arith
missing-fewer p (q ∷ qs) rising = let low = rising.0 in omega (arith, low)

pub relayed-fewer : (s : Setting) (i : Input) (is : List Input) → IsRelayed s (i ∷ is) → IsRelayed s is
relayed-fewer s i is r = record {
  node = r.node;
  some_places = r.some_places;
  few_places = r.few_places;
  runs_on = r.runs_on;
  published = r.published.1;
  rising = rising i r.rising;
  few = few i r.rising r.few;
  sessions = r.sessions;
  deaths = r.deaths.1;
}
  where
    rising : (i : Input) → AreRising (positions_in (i ∷ is)) → AreRising (positions_in is)
    rising (MessageComes p now) h = h.1
    rising (DeathComes session now) h = h
    rising (TickComes now) h = h

    few : (i : Input) → AreRising (positions_in (i ∷ is)) → missing (positions_in (i ∷ is)) < 256 - 2 * s.width → missing (positions_in is) < 256 - 2 * s.width
    few (MessageComes p now) h low = let less = missing-fewer p (positions_in is) h in omega (arith, less, low)
    few (DeathComes session now) h low = low
    few (TickComes now) h low = low

pub relayed-before : (s : Setting) (later is : List Input) → IsRelayed s (later ++ is) → IsRelayed s is
relayed-before s [] is r = r
relayed-before s (i ∷ later) is r = relayed-before s later is (relayed-fewer s i (later ++ is) r)

-- ---- how far the host has come

reach-is : (s : Setting) (is : List Input) → AreRising (positions_in is) → reach (record_of s is) ≡ past_newest (positions_in is)
reach-is s [] h = refl
reach-is s (MessageComes p now ∷ is) h =
    let same = reach-is s is h.1 in
    let low = h.0 in
    past p (reach (record_of s is)) (past_newest (positions_in is)) same low
  where
    past : (p m n : ℕ) → m ≡ n → n ≤ p → max (p + 1) m ≡ p + 1
    past p m n same low = omega (arith, same, low)
reach-is s (DeathComes session now ∷ is) h = reach-is s is h
reach-is s (TickComes now ∷ is) h = reach-is s is h

no-position : (p : ℕ) (ps : List ℕ) → p ∷ ps ≡ [] → ⊥
no-position p ps e = cc

-- before any position came nothing was taken
not-following : (s : Setting) (is : List Input) → positions_in is ≡ [] → (following s (record_of s is)).on ≡ false
not-following s [] e = refl
not-following s (MessageComes p now ∷ is) e = absurd (no-position p (positions_in is) e)
not-following s (DeathComes session now ∷ is) e = stays _ _ _ (not-following s is e)
  where
    stays : (a b c : Bool) → a ≡ false → (a && b && c) ≡ false
    stays false b c e = refl
    stays true b c e = absurd (true≢false e)
not-following s (TickComes now ∷ is) e = stays _ _ _ (not-following s is e)
  where
    stays : (a b c : Bool) → a ≡ false → (a && b && c) ≡ false
    stays false b c e = refl
    stays true b c e = absurd (true≢false e)

not-far : (w p : ℕ) (ps : List ℕ) (on : Bool) → (ps ≡ [] → on ≡ false) → AreRising (p ∷ ps) → missing (p ∷ ps) < 256 - 2 * w → on ≡ true
    → p < past_newest ps + (256 - 2 * w)
not-far w p [] on none rising few is = absurd (true≢false (sym is ∙ none refl))
not-far w p (q ∷ qs) on none rising few is =
    let low = rising.0 in
    let old = oldest-low q qs rising.1 in
    omega (arith, low, old, few)
  where
    -- the oldest and as many as came aren't past the newest
    oldest-low : (q : ℕ) (qs : List ℕ) → AreRising (q ∷ qs) → oldest_of q qs + length (q ∷ qs) ≤ q + 1
    oldest-low q [] h = omega arith
    oldest-low q (r ∷ rs) h = let low = h.0 in let old = oldest-low r rs h.1 in omega (arith, low, old)

-- ---- sessions

session-low : (published : NodeRecord) (p : ℕ) → HasFewSessions published → session_at published p < 256
session-low published p few = elim (cases_lt p (length published)) [
  | inl inside ↦ few p inside
  | inr past ↦ subst (λ (m : _). m < 256) (sym (ap (λ m. m.session) (get_or_past published p _ past))) (omega arith)
]

near-to : (s : Setting) (o : Option ℕ) (session : ℕ) → HasFewSessions s.published → session < 256 → IsNearTo s o session
near-to s None session few low = tt
near-to s (Some b) session few low = let own = session-low s.published b few in (omega (arith, low, own), omega (arith, low, own))

told-apart : (s : Setting) (o : Option ℕ) (session : ℕ) → HasFewSessions s.published → session < 256 → IsToldApart s o session
told-apart s None session few low = tt
told-apart s (Some b) session few low = λ same. apart s.bd session (session_at s.published b) low (session-low s.published b few) same
  where
    apart : (bd x y : ℕ) → x < 256 → y < 256 → (bd + x) % 256 ≡ (bd + y) % 256 → x ≡ y
    apart bd x y lx ly same = omega arith

pub near-birth : (s : Setting) (is : List Input) (i : Input) → IsRelayed s (i ∷ is) → IsNearBirth s (record_of s is) i
near-birth s is (MessageComes p now) r = λ opening. near-to s (taken s (record_of s is)) (session_at s.published p) r.sessions (session-low s.published p r.sessions)
near-birth s is (DeathComes session now) r = tt
near-birth s is (TickComes now) r = tt

pub near-deaths : (s : Setting) (is : List Input) → IsRelayed s is → AllNearDeaths s is
near-deaths s [] r = tt
near-deaths s (i ∷ is) r = (one i r.deaths.0, near-deaths s is (relayed-fewer s i is r))
  where
    one : (i : Input) → Rattle.spk_plant_relay.specs.Relayed.IsEarlyDeath i → IsNearDeath s (record_of s is) i
    one (MessageComes p now) e = tt
    one (DeathComes session now) e = near-to s (taken s (record_of s is)) session r.sessions e
    one (TickComes now) e = tt

-- ---- all of it

may-come : (s : Setting) (is : List Input) (i : Input) → IsRelayed s (i ∷ is) → MayCome s (record_of s is) i
may-come s is (MessageComes p now) r =
    let reached = reach-is s is r.rising.1 in
    let low = r.rising.0 in
    record {
      published = r.published.0;
      not_far_behind = omega (arith, reached, low);
      not_far_ahead = λ on.
          let far = not-far s.width p (positions_in is) (following s (record_of s is)).on (not-following s is) r.rising r.few on in
          omega (arith, reached, far);
    }
may-come s is (DeathComes session now) r = λ on. told-apart s (taken s (record_of s is)) session r.sessions r.deaths.0
may-come s is (TickComes now) r = tt

all-may-come : (s : Setting) (is : List Input) → IsRelayed s is → AllMayCome s is
all-may-come s [] r = tt
all-may-come s (i ∷ is) r = (may-come s is i r, all-may-come s is (relayed-fewer s i is r))

pub lawful : (s : Setting) (is : List Input) → IsRelayed s is → IsLawful s is
lawful s is r = record {
  node = r.node;
  some_places = r.some_places;
  few_places = r.few_places;
  may_come = all-may-come s is r;
  numbered = subst (λ n. NumbersFit n s is) (sym r.runs_on) tt;
}
