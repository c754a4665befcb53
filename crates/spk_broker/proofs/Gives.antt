-- A SUBSCRIBE: the grants, SUBACK, and then the offers.
use Rattle.std.proofs.Common.{◌≡◌, ℕ, ◌<◌, ◌≤◌, Bool, ◌||◌, cond, List, [], ◌∷◌, ◌++◌, map, length, length-set, get_or, get_or-set_same, set, refl, sym, ap, subst, ◌∙◌, Option, Some, None, Global, is_some}
use Rattle.std.proofs.lemmas.List.{map-append}
use Rattle.std.specs.List.{flat_map, fold, list_any, position}
use Rattle.std.specs.Option.{IfSome}
use Rattle.indexmap.specs.IndexMap.{spare}
use Rattle.spk_packets.specs.Message.{SubAck}
use Rattle.spk_topics.specs.Text.{filter_refusal}
use Rattle.spk_broker_rules.specs.Data as plain
use Rattle.spk_broker_rules.specs.Lawful.{Rises}
use Rattle.spk_broker_rules.specs.Plan.{Give, Route, Seen, shut, subscribe}
use Rattle.spk_broker_rules.specs.Step.{Turn, act, acts, give_at, heavy_at, heavy_in, offer, other_grants, retained_with, session_by, sits, swap, with_sessions}
use Rattle.spk_broker_rules.specs.Words.{codes_of, granted_of, is_heavy, offers_to, option_list, with_entry}
use Rattle.spk_broker_rules.proofs.Places.{lawful-found}
use Rattle.spk_broker.specs.Asking.{passes, session_here, sessions_now}
use Rattle.spk_broker.specs.Both.{Both}
use Rattle.spk_broker.specs.Drafts.{Drafted, draft_view}
use Rattle.spk_broker.specs.Endings.{Leads}
use Rattle.spk_broker.specs.Granting.{Grown, granting_view, grown_by}
use Rattle.spk_broker.specs.Offering.{IsOf, Offering}
use Rattle.spk_broker.specs.Parts.{grant_view, retained_view}
use Rattle.spk_broker.specs.Sent.{outgoing}
use Rattle.spk_broker.specs.View.{Stands, state_now, with_keeps}
use Rattle.spk_broker.specs.declared.state.State.{State}
use Rattle.spk_broker.specs.declared.packet_end.Ending.{Ending}
use Rattle.spk_broker.specs.declared.grant_changes.Granting.{Granting}
use Rattle.spk_broker.specs.declared.out.Draft.{Draft}
use Rattle.spk_broker.proofs.Alive.{found-alive}
use Rattle.spk_broker.proofs.Places.{swap-at}

-- the session has its grants, and SUBACK is sent
abbrev pub given_turn : plain.Session → List (List ℕ × ℕ) → List ℕ → ℕ → ℕ → Turn → Turn
given_turn session grants codes conn id t =
    record (with_sessions (swap session.key ((record session { grants = grants }) ∷ []) t.broker.sessions) t) {
      sends = t.sends ++ (record { conn = conn; packet = SubAck id codes }) ∷ [];
    }

pub begins : (d0 d1 : State) (x0 x1 : Draft) (place : ℕ) (e b : Both) (conn id : ℕ) (session : plain.Session) (grants : List (List ℕ × ℕ)) (codes : List ℕ) (t : Turn)
    → position (passes (sits conn)) d0.sessions.items ≡ Some place → (get_or d0.sessions.items place e).now ≡ Some session
    → d1.sessions.items ≡ set d0.sessions.items place b → b.now ≡ Some (record session { grants = grants })
    → state_now d1 ≡ record (state_now d0) { sessions = sessions_now d1.sessions.items } → d1.retained ≡ d0.retained
    → draft_view x1 ≡ record (draft_view x0) { sends = (draft_view x0).sends ++ outgoing (record { conn = conn; packet = SubAck id codes }) ∷ [] }
    → Stands d0 x0 t → Offering d1 x1 place session.key (given_turn session grants codes conn id t)
begins d0 d1 x0 x1 place e b conn id session grants codes t found here sessions now state retained view s =
    let at = found-alive session_here (sits conn) d0.sessions.items place e found in
    let low : place < length d0.sessions.items = at.0 in
    let same : sessions_now d0.sessions.items ≡ t.broker.sessions = ap (λ (c : plain.Broker). c.sessions) s.broker in
    let rises : Rises 0 t.broker.made (sessions_now d0.sessions.items) = subst (Rises 0 t.broker.made) (sym same) s.lawful.keys in
    let sitting : session_by conn t.broker.sessions ≡ Some session = ap (session_by conn) (sym same) ∙ at.1 ∙ here in
    let swapped : sessions_now d1.sessions.items ≡ swap session.key ((record session { grants = grants }) ∷ []) t.broker.sessions =
    ap sessions_now sessions ∙ sym (swap-at d0.sessions.items place e b session 0 t.broker.made rises low here)
    ∙ ap (λ o. swap session.key (option_list o) (sessions_now d0.sessions.items)) now ∙ ap (swap session.key ((record session { grants = grants }) ∷ [])) same in
    let placed : (d : Both) → get_or d1.sessions.items place d ≡ b = λ d. ap (λ ss. get_or ss place d) sessions ∙ get_or-set_same d0.sessions.items place b d low in
    record {
      stands = record {
        broker = ap (λ (y : Drafted). with_keeps y.keeps (state_now d1)) view
            ∙ ap (with_keeps (draft_view x0).keeps) (state ∙ ap (λ ss. record (state_now d0) { sessions = ss }) swapped)
            ∙ ap (λ (c : plain.Broker). record c { sessions = swap session.key ((record session { grants = grants }) ∷ []) t.broker.sessions }) s.broker;
        sends = ap (λ (y : Drafted). y.sends) view ∙ ap (λ l. l ++ outgoing (record { conn = conn; packet = SubAck id codes }) ∷ []) s.sends
            ∙ sym (map-append outgoing t.sends ((record { conn = conn; packet = SubAck id codes }) ∷ []));
        closes = ap (λ (y : Drafted). y.closes) view ∙ s.closes;
        waiting = ap (λ (y : Drafted). y.waiting) view ∙ s.waiting;
        room = subst (λ (y : Drafted). length y.keeps ≤ spare d1.retained) (sym view) (subst (λ r. length (draft_view x0).keeps ≤ spare r) (sym retained) s.room);
        lawful = lawful-found conn t session (record session { grants = grants }) refl refl s.lawful sitting;
      };
      low = subst (λ n. place < n) (sym (ap length sessions ∙ length-set d0.sessions.items place b)) low;
      here = λ d. subst (λ (o : Option plain.Session). IsOf session.key o (swap session.key ((record session { grants = grants }) ∷ []) t.broker.sessions))
          (sym (ap (λ (x : Both). x.now) (placed d) ∙ now)) refl;
    }

pub gives : (conn id : ℕ) (entries : List (List ℕ × ℕ)) (t : Turn) (session : plain.Session) → session_by conn t.broker.sessions ≡ Some session
    → fold (offer session.key)
    (given_turn session (fold (with_entry (other_grants session t.broker.sessions)) session.grants entries) (codes_of (other_grants session t.broker.sessions) session.grants entries) conn id t)
    (flat_map (offers_to t.broker.retained) (granted_of (other_grants session t.broker.sessions) session.grants entries))
    ≡ act (Give conn id entries) t
gives conn id entries t session e = ap (λ o. give_at o conn id entries t) (sym e)

-- what was weighed is what the rules ask
pub heavy-is : (d : State) (x : Draft) (t : Turn) (conn : ℕ) (entries : List (List ℕ × ℕ)) (session : plain.Session) (g : Granting) → (draft_view x).keeps ≡ [] → Stands d x t
    → session_by conn t.broker.sessions ≡ Some session → granting_view g ≡ grown_by (other_grants session t.broker.sessions) session.grants entries
    → is_heavy (map (retained_view {A = Global}) d.retained.entries) (map grant_view g.given.items) ≡ heavy_in conn entries t.broker
heavy-is d x t conn entries session g keeps s sitting grown =
    ap (λ r. is_heavy r (map grant_view g.given.items))
    (ap (fold retained_with (map (retained_view {A = Global}) d.retained.entries)) (sym keeps) ∙ ap (λ (b : plain.Broker). b.retained) s.broker)
    ∙ ap (λ (y : Grown). is_heavy t.broker.retained y.given) grown ∙ ap (λ o. heavy_at o entries t.broker) (sym sitting)

-- whether it has a bad filter, and whether it asks for too much
pub subscribe-leads : (d : State) (x : Draft) (e : Ending) (seen : Seen) (conn id : ℕ) (entries : List (List ℕ × ℕ)) (t : Turn) (bad heavy : Bool)
    → list_any (λ (r : List ℕ × ℕ). is_some (filter_refusal r.0)) entries ≡ bad → seen.heavy ≡ heavy
    → Leads d x e (acts (cond (bad || heavy) (shut conn) (Give conn id entries ∷ Route ∷ [])) t) → Leads d x e (acts (subscribe seen conn id entries) t)
subscribe-leads d x e seen conn id entries t bad heavy is too done =
    subst (λ u. Leads d x e u)
    (ap (λ b. acts (cond (b || heavy) (shut conn) (Give conn id entries ∷ Route ∷ [])) t) (sym is)
    ∙ ap (λ b. acts (cond (list_any (λ (r : List ℕ × ℕ). is_some (filter_refusal r.0)) entries || b) (shut conn) (Give conn id entries ∷ Route ∷ [])) t) (sym too)) done

pub gives-none : (conn id : ℕ) (entries : List (List ℕ × ℕ)) (t : Turn) → session_by conn t.broker.sessions ≡ None → t ≡ act (Give conn id entries) t
gives-none conn id entries t e = ap (λ o. give_at o conn id entries t) (sym e)

-- what was counted at the place is what is counted of the session there
pub grown-there : (P : plain.Session → Type 0) (o : Option plain.Session) (s : plain.Session) → o ≡ Some s → IfSome o P → P s
grown-there P o s e h = subst (λ (k : Option plain.Session). IfSome k P) e h
