-- What stands for a turn stands for the next one after an act.
use Rattle.std.proofs.Common.{◌≡◌, ℕ, ◌≤◌, max, Bool, true, List, [], ◌∷◌, ◌++◌, length, map, get_or, set, refl, sym, ap, subst, ◌∙◌, Option, Some, None, arith}
use Rattle.std.specs.List.{flat_map, position}
use Rattle.std.proofs.lemmas.List.{map-append}
use Rattle.indexmap.specs.IndexMap.{spare}
use Rattle.spk_broker_rules.specs.Data as plain
use Rattle.spk_broker_rules.specs.Lawful.{IsLawful, Rises}
use Rattle.spk_broker_rules.specs.Plan.{At, Hear, Drop, Leave}
use Rattle.spk_broker_rules.specs.Step.{Turn, act, begun, newcomer_dropped, newcomer_heard, leave_at, left_behind, other_newcomers, session_by, sits, swap, will_at}
use Rattle.spk_broker_rules.specs.Words.{option_list}
use Rattle.spk_broker_rules.proofs.Places.{lawful-act}
use Rattle.spk_broker_rules.proofs.Lists.{found-passes}
use Rattle.spk_broker.specs.Asking.{passes, session_here, sessions_now}
use Rattle.spk_broker.specs.Both.{Both}
use Rattle.spk_broker.specs.declared.state.State.{State}
use Rattle.spk_broker.specs.declared.out.Draft.{Draft}
use Rattle.spk_broker.specs.Drafts.{Drafted, draft_view, empty_draft}
use Rattle.spk_broker.specs.Sessions.{session_dropped, session_heard}
use Rattle.spk_broker.specs.Sent.{outgoing}
use Rattle.spk_broker.specs.View.{Stands, state_now, newcomer_now, session_now, with_keeps}
use Rattle.spk_broker.proofs.Alive.{found-alive, lost-alive, place-find}
use Rattle.spk_broker.proofs.Places.{swap-at}

-- ---- the beginning

pub begun-stands : (d : State) (x : Draft) (b : plain.Broker) → state_now d ≡ b → draft_view x ≡ empty_draft → IsLawful b → Stands d x (begun b)
begun-stands d x b e f lawful = record {
  broker = ap (λ (y : Drafted). with_keeps y.keeps (state_now d)) f ∙ e;
  sends = ap (λ (y : Drafted). y.sends) f;
  closes = ap (λ (y : Drafted). y.closes) f;
  waiting = ap (λ (y : Drafted). y.waiting) f;
  room = subst (λ (y : Drafted). length y.keeps ≤ spare d.retained) (sym f) (omega arith);
  lawful = lawful;
}

-- ---- a change of the data alone

-- a change that neither reads nor changes what is retained
abbrev pub KeepsOff : (plain.Broker → plain.Broker) → Type 0
KeepsOff g = (ks : List plain.AppMessage) (b : plain.Broker) → with_keeps ks (g b) ≡ g (with_keeps ks b)

pub stands-move : (d0 d1 : State) (x : Draft) (t : Turn) (g : plain.Broker → plain.Broker) → KeepsOff g → state_now d1 ≡ g (state_now d0) → d1.retained ≡ d0.retained
    → IsLawful (g t.broker) → Stands d0 x t → Stands d1 x (record t { broker = g t.broker })
stands-move d0 d1 x t g off e same lawful s = record {
  broker = ap (with_keeps (draft_view x).keeps) e ∙ off (draft_view x).keeps (state_now d0) ∙ ap g s.broker;
  sends = s.sends;
  closes = s.closes;
  waiting = s.waiting;
  room = subst (λ r. length (draft_view x).keeps ≤ spare r) (sym same) s.room;
  lawful = lawful;
}

abbrev at_of : ℕ → plain.Broker → plain.Broker
at_of moment b = record b { clock = max b.clock moment }

pub at-stands : (d0 : State) (clock moment : ℕ) → clock ≡ max d0.clock moment → (x : Draft) (t : Turn) → Stands d0 x t → Stands (record d0 { clock = clock }) x (act (At moment) t)
at-stands d0 clock moment e x t s =
    stands-move d0 (record d0 { clock = clock }) x t (at_of moment) (λ ks b. refl) (ap (λ k. record (state_now d0) { clock = k }) e) refl (lawful-act (At moment) t s.lawful) s

abbrev heard_of : ℕ → plain.Broker → plain.Broker
heard_of conn b = record b { newcomers = map (newcomer_heard conn b.clock) b.newcomers; sessions = map (session_heard conn b.clock) b.sessions }

abbrev dropped_of : ℕ → plain.Broker → plain.Broker
dropped_of conn b = record b { newcomers = map (newcomer_dropped conn) b.newcomers; sessions = map (session_dropped conn) b.sessions }

-- both lists of connections are changed
connections-changed : (b : plain.Broker) (g h : List plain.Newcomer) (s r : List plain.Session) → g ≡ h → s ≡ r → record b { newcomers = g; sessions = s } ≡ record b { newcomers = h; sessions = r }
connections-changed b g h s r e f = ap (λ l. record b { newcomers = l; sessions = s }) e ∙ ap (λ l. record b { newcomers = h; sessions = l }) f

pub hear-stands : (d0 d1 : State) (conn : ℕ) → state_now d1 ≡ record (state_now d0) { newcomers = flat_map newcomer_now d1.newcomers.items; sessions = flat_map session_now d1.sessions.items }
    → flat_map newcomer_now d1.newcomers.items ≡ map (newcomer_heard conn d0.clock) (flat_map newcomer_now d0.newcomers.items)
    → flat_map session_now d1.sessions.items ≡ map (session_heard conn d0.clock) (flat_map session_now d0.sessions.items) → d1.retained ≡ d0.retained
    → (x : Draft) (t : Turn) → Stands d0 x t → Stands d1 x (act (Hear conn) t)
hear-stands d0 d1 conn shape e f same x t s =
    stands-move d0 d1 x t (heard_of conn) (λ ks b. refl) (shape ∙ connections-changed (state_now d0) _ _ _ _ e f) same (lawful-act (Hear conn) t s.lawful) s

pub drop-stands : (d0 d1 : State) (conn : ℕ) → state_now d1 ≡ record (state_now d0) { newcomers = flat_map newcomer_now d1.newcomers.items; sessions = flat_map session_now d1.sessions.items }
    → flat_map newcomer_now d1.newcomers.items ≡ map (newcomer_dropped conn) (flat_map newcomer_now d0.newcomers.items)
    → flat_map session_now d1.sessions.items ≡ map (session_dropped conn) (flat_map session_now d0.sessions.items) → d1.retained ≡ d0.retained
    → (x : Draft) (t : Turn) → Stands d0 x t → Stands d1 x (act (Drop conn) t)
drop-stands d0 d1 conn shape e f same x t s =
    stands-move d0 d1 x t (dropped_of conn) (λ ks b. refl) (shape ∙ connections-changed (state_now d0) _ _ _ _ e f) same (lawful-act (Drop conn) t s.lawful) s

-- ---- a change of the draft alone

pub say-stands : (d : State) (x0 x1 : Draft) (t : Turn) (p : plain.Send) → draft_view x1 ≡ record (draft_view x0) { sends = (draft_view x0).sends ++ outgoing p ∷ [] }
    → Stands d x0 t → Stands d x1 (record t { sends = t.sends ++ p ∷ [] })
say-stands d x0 x1 t p e s = record {
  broker = ap (λ (y : Drafted). with_keeps y.keeps (state_now d)) e ∙ s.broker;
  sends = ap (λ (y : Drafted). y.sends) e ∙ ap (λ l. l ++ outgoing p ∷ []) s.sends ∙ sym (map-append outgoing t.sends (p ∷ []));
  closes = ap (λ (y : Drafted). y.closes) e ∙ s.closes;
  waiting = ap (λ (y : Drafted). y.waiting) e ∙ s.waiting;
  room = subst (λ (y : Drafted). length y.keeps ≤ spare d.retained) (sym e) s.room;
  lawful = s.lawful;
}

pub tell-stands : (d : State) (x0 x1 : Draft) (t : Turn) (c : ℕ) → draft_view x1 ≡ record (draft_view x0) { closes = (draft_view x0).closes ++ c ∷ [] }
    → Stands d x0 t → Stands d x1 (record t { closes = t.closes ++ c ∷ [] })
tell-stands d x0 x1 t c e s = record {
  broker = ap (λ (y : Drafted). with_keeps y.keeps (state_now d)) e ∙ s.broker;
  sends = ap (λ (y : Drafted). y.sends) e ∙ s.sends;
  closes = ap (λ (y : Drafted). y.closes) e ∙ ap (λ l. l ++ c ∷ []) s.closes;
  waiting = ap (λ (y : Drafted). y.waiting) e ∙ s.waiting;
  room = subst (λ (y : Drafted). length y.keeps ≤ spare d.retained) (sym e) s.room;
  lawful = s.lawful;
}

pub queue-stands : (d : State) (x0 x1 : Draft) (t : Turn) (ms : List plain.AppMessage) → draft_view x1 ≡ record (draft_view x0) { waiting = (draft_view x0).waiting ++ ms }
    → Stands d x0 t → Stands d x1 (record t { waiting = t.waiting ++ ms })
queue-stands d x0 x1 t ms e s = record {
  broker = ap (λ (y : Drafted). with_keeps y.keeps (state_now d)) e ∙ s.broker;
  sends = ap (λ (y : Drafted). y.sends) e ∙ s.sends;
  closes = ap (λ (y : Drafted). y.closes) e ∙ s.closes;
  waiting = ap (λ (y : Drafted). y.waiting) e ∙ ap (λ l. l ++ ms) s.waiting;
  room = subst (λ (y : Drafted). length y.keeps ≤ spare d.retained) (sym e) s.room;
  lawful = s.lawful;
}

-- ---- a connection leaves

abbrev without_newcomer : ℕ → plain.Broker → plain.Broker
without_newcomer conn b = record b { newcomers = other_newcomers conn b.newcomers }

pub newcomer-leaves : (d0 d1 : State) (conn : ℕ) (wills : Bool) → position (passes (sits conn)) d0.sessions.items ≡ None
    → state_now d1 ≡ record (state_now d0) { newcomers = flat_map newcomer_now d1.newcomers.items }
    → flat_map newcomer_now d1.newcomers.items ≡ other_newcomers conn (flat_map newcomer_now d0.newcomers.items) → d1.retained ≡ d0.retained
    → (x : Draft) (t : Turn) → Stands d0 x t → Stands d1 x (act (Leave conn wills) t)
newcomer-leaves d0 d1 conn wills none shape e same x t s =
    let at : session_by conn t.broker.sessions ≡ None = ap (λ (b : plain.Broker). session_by conn b.sessions) (sym s.broker) ∙ lost-alive session_here (sits conn) d0.sessions.items none in
    let is : act (Leave conn wills) t ≡ leave_at None conn wills t = ap (λ o. leave_at o conn wills t) at in
    subst (λ u. Stands d1 x u) (sym is)
    (stands-move d0 d1 x t (without_newcomer conn) (λ ks b. refl) (shape ∙ ap (λ l. record (state_now d0) { newcomers = l }) e) same
    (subst (λ (u : Turn). IsLawful u.broker) is (lawful-act (Leave conn wills) t s.lawful)) s)

abbrev vacated : plain.Session → plain.Broker → plain.Broker
vacated s b = record b { sessions = swap s.key (left_behind s) b.sessions }

-- what passes is there
there : (conn : ℕ) (b : Both) → passes (sits conn) b ≡ true → (s : plain.Session) × (b.now ≡ Some s)
there conn b e = by b.now e
  where
    by : (o : Option plain.Session) → passes (sits conn) (record b { now = o }) ≡ true → (s : plain.Session) × (o ≡ Some s)
    by None h = absurd (let z : ⊥ = cc in z)
    by (Some s) h = (s, refl)

last-one : {X : Type 0} (xs : List X) → xs ++ [] ≡ xs
last-one [] = refl
last-one (x ∷ xs) = ap (λ l. x ∷ l) (last-one xs)

pub session-leaves : (d0 d1 : State) (x0 x1 : Draft) (conn i : ℕ) (wills : Bool) (d new : Both) → position (passes (sits conn)) d0.sessions.items ≡ Some i
    → state_now d1 ≡ record (state_now d0) { sessions = sessions_now (set d0.sessions.items i new) } → d1.retained ≡ d0.retained
    → option_list new.now ≡ flat_map left_behind (option_list (get_or d0.sessions.items i d).now)
    → draft_view x1 ≡ record (draft_view x0) { waiting = (draft_view x0).waiting ++ flat_map (will_at wills) (option_list (get_or d0.sessions.items i d).now) }
    → (t : Turn) → Stands d0 x0 t → Stands d1 x1 (act (Leave conn wills) t)
session-leaves d0 d1 x0 x1 conn i wills d new found shape same left drafted t s =
    let bs = d0.sessions.items in
    let place = place-find (passes (sits conn)) bs i d found in
    let who = there conn (get_or bs i d) (found-passes (passes (sits conn)) bs (get_or bs i d) place.1) in
    let session = who.0 in
    let at : session_by conn t.broker.sessions ≡ Some session = ap (λ (b : plain.Broker). session_by conn b.sessions) (sym s.broker) ∙ (found-alive session_here (sits conn) bs i d found).1 ∙ who.1 in
    let is : act (Leave conn wills) t ≡ leave_at (Some session) conn wills t = ap (λ o. leave_at o conn wills t) at in
    let keys : Rises 0 t.broker.made (sessions_now bs) = subst (λ (l : List plain.Session). Rises 0 t.broker.made l) (sym (ap (λ (b : plain.Broker). b.sessions) s.broker)) s.lawful.keys in
    let swapped = swap-at bs i d new session 0 t.broker.made keys place.0 who.1 in
    let fits : option_list new.now ≡ left_behind session = left ∙ ap (λ o. flat_map left_behind (option_list o)) who.1 ∙ last-one (left_behind session) in
    let moved : Stands d1 x0 (record t { broker = vacated session t.broker }) =
    stands-move d0 d1 x0 t (vacated session) (λ ks b. refl)
    (shape ∙ ap (λ l. record (state_now d0) { sessions = l }) (sym swapped ∙ ap (λ l. swap session.key l (sessions_now bs)) fits)) same
    (subst (λ (u : Turn). IsLawful u.broker) is (lawful-act (Leave conn wills) t s.lawful)) s in
    subst (λ u. Stands d1 x1 u) (sym is)
    (queue-stands d1 x0 x1 (record t { broker = vacated session t.broker }) (will_at wills session)
    (drafted ∙ ap (λ o. record (draft_view x0) { waiting = (draft_view x0).waiting ++ flat_map (will_at wills) (option_list o) }) who.1
    ∙ ap (λ l. record (draft_view x0) { waiting = (draft_view x0).waiting ++ l }) (last-one (will_at wills session))) moved)
