-- What stands for a turn goes on standing for it while messages are routed.
use Rattle.std.proofs.Common.{◌≡◌, ◌+◌, ◌≤◌, Bool, true, false, cond, List, [], ◌∷◌, ◌++◌, length, map, refl, sym, ap, subst, ◌∙◌, arith}
use Rattle.std.specs.List.{flat_map, fold}
use Rattle.std.proofs.lemmas.List.{map-append}
use Rattle.indexmap.specs.IndexMap.{spare}
use Rattle.spk_broker_rules.specs.Data as plain
use Rattle.spk_broker_rules.specs.Plan.{Route}
use Rattle.spk_broker_rules.specs.Step.{Turn, act, retained_with, route, route_one, serve}
use Rattle.spk_broker_rules.specs.Table.{Table}
use Rattle.spk_broker_rules.proofs.Places.{lawful-one}
use Rattle.spk_broker_rules.proofs.Routing.{fewer, route-done, route-next}
use Rattle.spk_broker.specs.declared.state.State.{State}
use Rattle.spk_broker.specs.declared.out.Draft.{Draft}
use Rattle.spk_broker.specs.Drafts.{Drafted, draft_view}
use Rattle.spk_broker.specs.Rounds.{kept_with, left_of_round, with_round}
use Rattle.spk_broker.specs.Sent.{outgoing}
use Rattle.spk_broker.specs.Parts.{retained_view}
use Rattle.spk_broker.specs.View.{Stands, state_now, session_now, with_keeps}

-- ---- what is to be retained

fold-more : {X Y : Type 0} (f : X → Y → X) (a : X) (ys : List Y) (y : Y) → fold f a (ys ++ y ∷ []) ≡ f (fold f a ys) y
fold-more f a [] y = refl
fold-more f a (x ∷ ys) y = fold-more f (f a x) ys y

keeps-more : (table : Table plain.Stored) (keeps : List plain.AppMessage) (m : plain.AppMessage) → fold retained_with table (kept_with m keeps) ≡ retained_with (fold retained_with table keeps) m
keeps-more table keeps m = by m.retain refl
  where
    by : (b : Bool) → m.retain ≡ b → fold retained_with table (kept_with m keeps) ≡ retained_with (fold retained_with table keeps) m
    by true is = ap (λ b. fold retained_with table (cond b (keeps ++ m ∷ []) keeps)) is ∙ fold-more retained_with table keeps m
    by false is = rw is refl

-- ---- one message

-- the data after it, but for the room
pub record RoutedOne (m : plain.AppMessage) (d0 d1 : State) (x0 x1 : Draft) : Type 0 where
  pub shape : state_now d1 ≡ record (state_now d0) { sessions = flat_map session_now d1.sessions.items; retained = map retained_view d1.retained.entries }
  pub sessions : flat_map session_now d1.sessions.items ≡ left_of_round (serve m) (flat_map session_now d0.sessions.items)
  pub retained : d1.retained.entries ≡ d0.retained.entries
  pub drafted : draft_view x1 ≡ record (with_round (serve m) (flat_map session_now d0.sessions.items) (draft_view x0)) { keeps = kept_with m (draft_view x0).keeps }
  pub room : length (draft_view x0).keeps ≤ spare d0.retained → length (draft_view x1).keeps ≤ spare d1.retained

abbrev one_of : plain.AppMessage → plain.Broker → plain.Broker
one_of m b = record b { sessions = left_of_round (serve m) b.sessions; retained = retained_with b.retained m }

abbrev sends_of : plain.AppMessage → List plain.Session → List plain.Send
sends_of m ss = flat_map (λ (s : plain.Session). (serve m s).sends) ss

pub one-stands : (m : plain.AppMessage) (d0 d1 : State) (x0 x1 : Draft) → RoutedOne m d0 d1 x0 x1 → (t : Turn) → Stands d0 x0 t → Stands d1 x1 (route_one m t)
one-stands m d0 d1 x0 x1 r t s =
    let keeps = (draft_view x0).keeps in
    let ss = flat_map session_now d0.sessions.items in
    let same : ss ≡ t.broker.sessions = ap (λ (b : plain.Broker). b.sessions) s.broker in
    record {
      broker = ap (λ (x : Drafted). with_keeps x.keeps (state_now d1)) r.drafted
          ∙ ap (with_keeps (kept_with m keeps)) r.shape
          ∙ ap (λ l. with_keeps (kept_with m keeps) (record (state_now d0) { sessions = l; retained = map retained_view d1.retained.entries })) r.sessions
          ∙ ap (λ l. with_keeps (kept_with m keeps) (record (state_now d0) { sessions = left_of_round (serve m) ss; retained = map retained_view l })) r.retained
          ∙ ap (λ l. record (state_now d0) { sessions = left_of_round (serve m) ss; retained = l }) (keeps-more (state_now d0).retained keeps m)
          ∙ ap (one_of m) s.broker;
      sends = ap (λ (x : Drafted). x.sends) r.drafted
          ∙ ap (λ l. l ++ map outgoing (sends_of m ss)) s.sends
          ∙ ap (λ l. map outgoing t.sends ++ map outgoing (sends_of m l)) same
          ∙ sym (map-append outgoing t.sends (sends_of m t.broker.sessions));
      closes = ap (λ (x : Drafted). x.closes) r.drafted
          ∙ ap (λ l. l ++ flat_map (λ (s : plain.Session). (serve m s).closes) ss) s.closes
          ∙ ap (λ l. t.closes ++ flat_map (λ (s : plain.Session). (serve m s).closes) l) same;
      waiting = ap (λ (x : Drafted). x.waiting) r.drafted
          ∙ ap (λ l. l ++ flat_map (λ (s : plain.Session). (serve m s).wills) ss) s.waiting
          ∙ ap (λ l. t.waiting ++ flat_map (λ (s : plain.Session). (serve m s).wills) l) same;
      room = r.room s.room;
      lawful = lawful-one m t s.lawful;
    }

abbrev waits : Turn → List plain.AppMessage → Turn
waits t ms = record t { waiting = ms }

-- a turn of these sessions and messages
abbrev turn_with : State → List plain.AppMessage → Turn
turn_with d ms = record { broker = state_now d; sends = []; closes = []; waiting = ms }

pub one-fewer : (m : plain.AppMessage) (d0 d1 : State) (x0 x1 : Draft) → RoutedOne m d0 d1 x0 x1
    → length (draft_view x1).waiting + length (flat_map session_now d1.sessions.items) ≤ length (draft_view x0).waiting + length (flat_map session_now d0.sessions.items)
one-fewer m d0 d1 x0 x1 r =
    let ms = (draft_view x0).waiting in
    let less = fewer m ms (turn_with d0 (m ∷ ms)) refl in
    let a = ap (λ (x : Drafted). length x.waiting) r.drafted in
    let b = ap (λ (l : List plain.Session). length l) r.sessions in
    omega arith

-- ---- one after the other

-- where the turn stands that the routing began with
pub record Leads (d0 d1 : State) (x0 x1 : Draft) : Type 0 where
  pub at : (t : Turn) → Stands d0 x0 t → (u : Turn) × Stands d1 x1 u × (route u ≡ route t)

pub leads-begin : (d : State) (x : Draft) → Leads d d x x
leads-begin d x = record { at = λ t s. (t, s, refl) }

-- the first that waits is taken out
taken-out : (d : State) (x0 x1 : Draft) (ms : List plain.AppMessage) → draft_view x1 ≡ record (draft_view x0) { waiting = ms } → (u : Turn) → Stands d x0 u → Stands d x1 (waits u ms)
taken-out d x0 x1 ms e u s = record {
  broker = ap (λ (x : Drafted). with_keeps x.keeps (state_now d)) e ∙ s.broker;
  sends = ap (λ (x : Drafted). x.sends) e ∙ s.sends;
  closes = ap (λ (x : Drafted). x.closes) e ∙ s.closes;
  waiting = ap (λ (x : Drafted). x.waiting) e;
  room = subst (λ (x : Drafted). length x.keeps ≤ spare d.retained) (sym e) s.room;
  lawful = s.lawful;
}

pub leads-on : (d0 d1 d2 : State) (x0 x1 x2 x3 : Draft) (m : plain.AppMessage) (ms : List plain.AppMessage)
    → (draft_view x1).waiting ≡ m ∷ ms → draft_view x2 ≡ record (draft_view x1) { waiting = ms }
    → ((t : Turn) → Stands d1 x2 t → Stands d2 x3 (route_one m t)) → Leads d0 d1 x0 x1 → Leads d0 d2 x0 x3
leads-on d0 d1 d2 x0 x1 x2 x3 m ms first out one l = record {
  at = λ t s.
      let w = l.at t s in
      (route_one m (waits w.0 ms), one (waits w.0 ms) (taken-out d1 x1 x2 ms out w.0 w.1), sym (route-next m ms w.0 (sym w.1.waiting ∙ first)) ∙ w.2);
}

-- a draft that is seen alike stands alike
pub stands-alike : (d : State) (x0 x1 : Draft) (u : Turn) → draft_view x1 ≡ draft_view x0 → Stands d x0 u → Stands d x1 u
stands-alike d x0 x1 u e s = record {
  broker = ap (λ (x : Drafted). with_keeps x.keeps (state_now d)) e ∙ s.broker;
  sends = ap (λ (x : Drafted). x.sends) e ∙ s.sends;
  closes = ap (λ (x : Drafted). x.closes) e ∙ s.closes;
  waiting = ap (λ (x : Drafted). x.waiting) e ∙ s.waiting;
  room = subst (λ (x : Drafted). length x.keeps ≤ spare d.retained) (sym e) s.room;
  lawful = s.lawful;
}

pub leads-end : (d0 d1 : State) (x0 x1 x2 : Draft) → (draft_view x1).waiting ≡ [] → draft_view x2 ≡ draft_view x1
    → Leads d0 d1 x0 x1 → (t : Turn) → Stands d0 x0 t → Stands d1 x2 (act Route t)
leads-end d0 d1 x0 x1 x2 none same l t s =
    let w = l.at t s in
    subst (λ u. Stands d1 x2 u) (sym (route-done w.0 (sym w.1.waiting ∙ none)) ∙ w.2) (stands-alike d1 x1 x2 w.0 same w.1)
