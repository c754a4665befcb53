-- What holds of a log of a plant's broker at every moment: of what was shown to the host of one node, and of what is offered and told.
use Rattle.std.proofs.Common.{◌≡◌, ◌⊎◌, inl, inr, sym, ap, refl, subst, ◌∙◌, ℕ, ◌+◌, ◌-◌, ◌<◌, ◌≤◌, max, Bool, true, false, ◌&&◌, cond, eqb, List, [], ◌∷◌, ◌++◌, length, Some, None, arith, eq-eqb}
use Rattle.std.proofs.lemmas.Bool.{and_left}
use Rattle.spk_broker_rules.specs.Step.{after, drops_in}
use Rattle.spk_plant_broker.specs.Data.{Offer, Room}
use Rattle.spk_plant_broker.specs.Step.{conn_at}
use Rattle.spk_plant_relay.specs.Relayed.{AreRising, missing, oldest_of, past_newest}
use Rattle.spk_plant_relay.proofs.Base.{AllJoined, Base, Hears}
use Rattle.spk_plant_relay.proofs.Offers.{Aim, aimed, aimed-snoc, aimed_at, aimed_at-snoc, fewer-at, goes, no-yes}

-- ---- how many there may be

-- From the oldest shown on at most x are missing, of so many that were taken.
abbrev pub Covers : List ℕ → (taken x : ℕ) → Type 0
Covers [] n x = Unit {0}
Covers (p ∷ ps) n x = n ≤ oldest_of p ps + length (p ∷ ps) + x

pub covers-more : (ps : List ℕ) (n x y : ℕ) → Covers ps n x → x ≤ y → Covers ps n y
covers-more [] n x y h more = tt
covers-more (p ∷ ps) n x y h more = omega (arith, h, more)

pub covers-next : (ps : List ℕ) (n x y : ℕ) → Covers ps n x → x + 1 ≤ y → Covers ps (n + 1) y
covers-next [] n x y h more = tt
covers-next (p ∷ ps) n x y h more = omega (arith, h, more)

covers-shown : (ps : List ℕ) (n x : ℕ) → 0 < n → Covers ps n (1 + x) → Covers ((n - 1) ∷ ps) n x
covers-shown [] n x some h = omega (arith, some)
covers-shown (p ∷ ps) n x some h = omega (arith, some, h)

few-shown : (ps : List ℕ) (n x limit : ℕ) → 0 < n → Covers ((n - 1) ∷ ps) n x → x < limit → missing ((n - 1) ∷ ps) < limit
few-shown ps n x limit some h low = omega (arith, some, h, low)

-- ---- the state

-- the broker closed the node, and its connection is gone
abbrev pub IsFinished : ℕ → ℕ → Room → Type 0
IsFinished limit k r = (r.closed k ≡ true) × (conn_at limit r k ≡ None)

-- the host's ring stands, and the node isn't finished
pub record IsLive (limit h k : ℕ) (r : Room) : Type 0 where
  pub standing : r.closed h ≡ false
  pub ringing : r.over ≡ false
  pub unfinished : IsFinished limit k r → ⊥

-- how many offers of a numbered message are still to be made to the host
abbrev pub waiting : ℕ → Bool → List Offer → ℕ
waiting h busy os = cond busy (aimed h os) 0

pub record Kept (limit : ℕ) (on : List ℕ → Bool) (h : ℕ) (r : Room) (ps : List ℕ) (n : ℕ) (busy : Bool) : Type 0 where
  pub conn : ℕ
  pub hears : Hears limit on r h conn
  pub covers : Covers ps n (waiting h busy r.pending + aimed_at h conn r.untold + drops_in conn (after limit r.events))

-- something was shown, or will be
abbrev pub IsBegun : List ℕ → ℕ → Type 0
IsBegun ps x = (ps ≡ [] → ⊥) ⊎ (0 < x)

pub record State (limit : ℕ) (on : List ℕ → Bool) (h k : ℕ) (r : Room) (ps : List ℕ) (n : ℕ) (busy : Bool) : Type 0 where
  pub base : Base limit on r
  pub joined : AllJoined (after limit r.events)
  pub rising : AreRising ps
  pub within : past_newest ps ≤ n
  pub few : missing ps < max 1 limit
  pub one : busy ≡ true → aimed h r.pending + aimed h r.untold ≤ 1
  pub aims : busy ≡ true → (c : ℕ) → r.last h ≡ Some c → Aim h c r.pending
  pub ready : busy ≡ true → 0 < aimed h r.pending → IsLive limit h k r × (past_newest ps < n)
  pub kept : IsLive limit h k r → IsBegun ps (waiting h busy r.pending) → Kept limit on h r ps n busy

-- ---- offers that are made

live-same : (limit h k : ℕ) (r : Room) (pending untold : List Offer) → IsLive limit h k r → IsLive limit h k (record r { pending = pending; untold = untold })
live-same limit h k r pending untold l = record { standing = l.standing; ringing = l.ringing; unfinished = l.unfinished }

live-back : (limit h k : ℕ) (r : Room) (pending untold : List Offer) → IsLive limit h k (record r { pending = pending; untold = untold }) → IsLive limit h k r
live-back limit h k r pending untold l = record { standing = l.standing; ringing = l.ringing; unfinished = l.unfinished }

-- an offer that isn't the host's
pub other-made : (limit : ℕ) (on : List ℕ → Bool) (h k : ℕ) (r : Room) (ps : List ℕ) (n : ℕ) (busy : Bool) (o : Offer) (rest more : List Offer) →
    goes h o ≡ false → (more ≡ r.untold) ⊎ (more ≡ r.untold ++ o ∷ []) →
    State limit on h k (record r { pending = o ∷ rest }) ps n busy → State limit on h k (record r { pending = rest; untold = more }) ps n busy
other-made limit on h k r ps n busy o rest more away grown st = record {
  base = st.base;
  joined = st.joined;
  rising = st.rising;
  within = st.within;
  few = st.few;
  one = λ b. let a = st.one b in omega (arith, a, same, untold-same);
  aims = λ b c e. (st.aims b c e).1;
  ready = λ b low. let x = st.ready b (subst (λ m. 0 < m) (sym same) low) in (live-same limit h k (record r { pending = o ∷ rest }) rest more x.0, x.1);
  kept = λ live begun.
      let x = st.kept (live-same limit h k (record r { pending = rest; untold = more }) (o ∷ rest) r.untold live) (begun-before begun) in
      record {
        conn = x.conn;
        hears = x.hears;
        covers = covers-more ps n _ _ x.covers (no-less x.conn);
      };
}
  where
    same : aimed h (o ∷ rest) ≡ aimed h rest
    same = ap (λ b. cond b (aimed h rest + 1) (aimed h rest)) away

    untold-same : aimed h more ≡ aimed h r.untold
    untold-same = elim grown [
      | inl e ↦ ap (aimed h) e
      | inr e ↦ ap (aimed h) e ∙ aimed-snoc h r.untold o ∙ ap (λ b. cond b (aimed h r.untold + 1) (aimed h r.untold)) away
    ]

    untold-at : (c : ℕ) → aimed_at h c more ≡ aimed_at h c r.untold
    untold-at c = elim grown [
      | inl e ↦ ap (aimed_at h c) e
      | inr e ↦ ap (aimed_at h c) e ∙ aimed_at-snoc h c r.untold o ∙ ap (λ b. cond b (aimed_at h c r.untold + 1) (aimed_at h c r.untold)) (and_left _ _ away)
    ]

    waits : waiting h busy (o ∷ rest) ≡ waiting h busy rest
    waits = ap (λ m. cond busy m 0) same

    begun-before : IsBegun ps (waiting h busy rest) → IsBegun ps (waiting h busy (o ∷ rest))
    begun-before (inl e) = inl e
    begun-before (inr low) = inr (subst (λ m. 0 < m) (sym waits) low)

    no-less : (c : ℕ) → waiting h busy (o ∷ rest) + aimed_at h c r.untold + drops_in c (after limit r.events)
        ≤ waiting h busy rest + aimed_at h c more + drops_in c (after limit r.events)
    no-less c = let u = untold-at c in let w = waits in omega (arith, u, w)

-- the host's ring takes an offer of what isn't the node's numbered message
pub plain-accepted : (limit : ℕ) (on : List ℕ → Bool) (h k : ℕ) (r : Room) (ps : List ℕ) (n : ℕ) (o : Offer) (rest : List Offer) →
    State limit on h k (record r { pending = o ∷ rest }) ps n false → State limit on h k (record r { pending = rest }) ps n false
plain-accepted limit on h k r ps n o rest st = record {
  base = st.base;
  joined = st.joined;
  rising = st.rising;
  within = st.within;
  few = st.few;
  one = λ b. absurd (no-yes b);
  aims = λ b. absurd (no-yes b);
  ready = λ b. absurd (no-yes b);
  kept = λ live begun.
      let x = st.kept (live-same limit h k (record r { pending = rest }) (o ∷ rest) r.untold live) begun in
      record { conn = x.conn; hears = x.hears; covers = x.covers };
}

-- it takes one of a numbered message
pub accepted-here : (limit : ℕ) (on : List ℕ → Bool) (h k : ℕ) (r : Room) (ps : List ℕ) (n : ℕ) (o : Offer) (rest : List Offer) →
    ((c : ℕ) → Hears limit on r h c → drops_in c (after limit r.events) < max 1 limit) →
    goes h o ≡ true → State limit on h k (record r { pending = o ∷ rest }) ps n true →
    State limit on h k (record r { pending = rest }) ((n - 1) ∷ ps) n true
accepted-here limit on h k r ps n o rest fewer here st = record {
  base = st.base;
  joined = st.joined;
  rising = (omega (arith, past), st.rising);
  within = omega (arith, some);
  few = few-shown ps n (drops_in start.conn (after limit r.events)) (max 1 limit) some covers (fewer start.conn start.hears);
  one = λ b. omega (arith, only);
  aims = λ b c e. (st.aims refl c e).1;
  ready = λ b low. absurd (omega (arith, only, low));
  kept = λ live begun. record { conn = start.conn; hears = start.hears; covers = covers-more ((n - 1) ∷ ps) n _ _ covers (omega arith) };
}
  where
    one-more : aimed h (o ∷ rest) ≡ aimed h rest + 1
    one-more = ap (λ b. cond b (aimed h rest + 1) (aimed h rest)) here

    only : aimed h rest + aimed h r.untold ≤ 0
    only = let a = st.one refl in let m = one-more in omega (arith, a, m)

    first : 0 < aimed h (o ∷ rest)
    first = let m = one-more in omega (arith, m)

    past : past_newest ps < n
    past = (st.ready refl first).1

    some : 0 < n
    some = let p = past in omega (arith, p)

    start : Kept limit on h (record r { pending = o ∷ rest }) ps n true
    start = st.kept (st.ready refl first).0 (inr first)

    covers : Covers ((n - 1) ∷ ps) n (drops_in start.conn (after limit r.events))
    covers =
        let m = one-more in
        let u = fewer-at h start.conn r.untold in
        let z = only in
        covers-shown ps n (drops_in start.conn (after limit r.events)) some (covers-more ps n _ _ start.covers (omega (arith, m, u, z)))

-- it refuses one
pub refused-here : (limit : ℕ) (on : List ℕ → Bool) (h k : ℕ) (r : Room) (ps : List ℕ) (n : ℕ) (busy : Bool) (o : Offer) (rest : List Offer) →
    goes h o ≡ true → State limit on h k (record r { pending = o ∷ rest }) ps n busy →
    State limit on h k (record r { pending = rest; untold = r.untold ++ o ∷ [] }) ps n busy
refused-here limit on h k r ps n busy o rest here st = record {
  base = st.base;
  joined = st.joined;
  rising = st.rising;
  within = st.within;
  few = st.few;
  one = λ b. let a = st.one b in let m = one-more in let u = more-untold in omega (arith, a, m, u);
  aims = λ b c e. (st.aims b c e).1;
  ready = λ b low. let x = st.ready b first in (live-same limit h k (record r { pending = o ∷ rest }) rest (r.untold ++ o ∷ []) x.0, x.1);
  kept = λ live begun.
      let x = st.kept (live-same limit h k (record r { pending = rest; untold = r.untold ++ o ∷ [] }) (o ∷ rest) r.untold live) (begun-before busy begun) in
      record { conn = x.conn; hears = x.hears; covers = covers-more ps n _ _ x.covers (no-less busy (λ b. (st.aims b x.conn x.hears.last).0 here)) };
}
  where
    one-more : aimed h (o ∷ rest) ≡ aimed h rest + 1
    one-more = ap (λ b. cond b (aimed h rest + 1) (aimed h rest)) here

    first : 0 < aimed h (o ∷ rest)
    first = let m = one-more in omega (arith, m)

    more-untold : aimed h (r.untold ++ o ∷ []) ≡ aimed h r.untold + 1
    more-untold = aimed-snoc h r.untold o ∙ ap (λ b. cond b (aimed h r.untold + 1) (aimed h r.untold)) here

    begun-before : (b : Bool) → IsBegun ps (waiting h b rest) → IsBegun ps (waiting h b (o ∷ rest))
    begun-before b (inl e) = inl e
    begun-before true (inr low) = inr first
    begun-before false (inr low) = inr low

    at-here : (c : ℕ) (x : Bool) (m : ℕ) → m ≤ cond x (m + 1) m
    at-here c true m = omega arith
    at-here c false m = omega arith

    no-less : {c : ℕ} (b : Bool) → (b ≡ true → o.conn ≡ c) → waiting h b (o ∷ rest) + aimed_at h c r.untold + drops_in c (after limit r.events)
        ≤ waiting h b rest + aimed_at h c (r.untold ++ o ∷ []) + drops_in c (after limit r.events)
    no-less {c} true on_it =
        let m = one-more in
        let both : (goes h o && eqb o.conn c) ≡ true = ap (λ x. x && eqb o.conn c) here ∙ eq-eqb o.conn c (on_it refl) in
        let u : aimed_at h c (r.untold ++ o ∷ []) ≡ aimed_at h c r.untold + 1 = aimed_at-snoc h c r.untold o ∙ ap (λ x. cond x (aimed_at h c r.untold + 1) (aimed_at h c r.untold)) both in
        omega (arith, m, u)
    no-less {c} false on_it =
        let u = aimed_at-snoc h c r.untold o in
        let a = at-here c (goes h o && eqb o.conn c) (aimed_at h c r.untold) in
        omega (arith, u, a)
