-- An accepted CONNECT: what is prepared comes to what the rules say.
use Rattle.std.proofs.Common.{◌≡◌, ℕ, ◌+◌, ◌<◌, ◌≤◌, arith, Bool, true, false, not, ◌&&◌, cond, if◌then◌else◌, append-nil, List, [], ◌∷◌, ◌++◌, length, map, get_or, refl, sym, ap, subst, ◌∙◌, Option, Some, None}
use Rattle.std.proofs.lemmas.List.{map-append}
use Rattle.std.proofs.lemmas.List.Quantifiers.{position-Some}
use Rattle.std.specs.List.{find, position}
use Rattle.std.specs.Option.{option_map, option_map_or}
use Rattle.indexmap.specs.IndexMap.{spare}
use Rattle.spk_broker_rules.specs.Data as plain
use Rattle.spk_broker_rules.specs.Lawful.{IsLawful}
use Rattle.spk_broker_rules.specs.Plan.{Accept, Act, Forget, Seen, connect, has_bad_topic, join, shut, take_over, tell_older, turn_away}
use Rattle.spk_broker_rules.specs.Step.{Turn, accept_of, act, acts, away_for, begun, is_newcomer, connection_of, take_up}
use Rattle.spk_packets.specs.Message.{WillData}
use Rattle.spk_packets.specs.Spelling.{is_empty}
use Rattle.spk_broker_rules.specs.Words.{option_list, will_message}
use Rattle.spk_broker.specs.Asking.{newcomer_here, newcomers_now, test_at}
use Rattle.spk_broker.specs.Connecting.{Comes, acts_of, finished, judged}
use Rattle.spk_broker.specs.Drafts.{Drafted, draft_view}
use Rattle.spk_broker.specs.Entering.{entered, taken, with_sends}
use Rattle.spk_broker.specs.Sent.{outgoing}
use Rattle.spk_broker.specs.View.{Stands, state_now, state_was, newcomer_was, with_keeps}
use Rattle.spk_broker.specs.declared.connect.Judged.TheVariants.{Refused, Shut, Joins}
use Rattle.spk_broker.specs.declared.state.State.{State}
use Rattle.spk_broker.specs.declared.newcomer.Newcomer.{Newcomer}
use Rattle.spk_broker.specs.declared.accept.Entry.{Entry}
use Rattle.spk_broker.specs.declared.accept.Entry.TheVariants.{Made, Back}
use Rattle.spk_broker.specs.declared.out.Draft.{Draft}
use Rattle.spk_broker.proofs.Alive.{found-alive, newcomers-alive, lost-alive, plain_of}

-- ---- the newcomer

there : (conn : ℕ) (g : Newcomer) → test_at newcomer_here (is_newcomer conn) g ≡ true → newcomer_here g ≡ Some (plain_of g)
there conn g t = by g.gone t
  where
    by : (b : Bool) → option_map_or (is_newcomer conn) (cond b None (Some (plain_of g))) false ≡ true → cond b None (Some (plain_of g)) ≡ Some (plain_of g)
    by true t = cc
    by false t = refl

pub newcomer-there : (conn : ℕ) (gs : List Newcomer) (i : ℕ) (d : Newcomer) → position (test_at newcomer_here (is_newcomer conn)) gs ≡ Some i
    → find (is_newcomer conn) (newcomers_now gs) ≡ Some (plain_of (get_or gs i d))
newcomer-there conn gs i d e =
    ap (find (is_newcomer conn)) (newcomers-alive gs) ∙ (found-alive newcomer_here (is_newcomer conn) gs i d e).1
    ∙ there conn (get_or gs i d) (position-Some (test_at newcomer_here (is_newcomer conn)) gs i d e).1

pub newcomer-gone : (conn : ℕ) (gs : List Newcomer) → position (test_at newcomer_here (is_newcomer conn)) gs ≡ None → find (is_newcomer conn) (newcomers_now gs) ≡ None
newcomer-gone conn gs e = ap (find (is_newcomer conn)) (newcomers-alive gs) ∙ lost-alive newcomer_here (is_newcomer conn) gs e

-- where there is a newcomer, more numbers were given than sessions made
pub is-lower : (d : State) (conn alive : ℕ) (will : Option plain.AppMessage) (x : plain.Connection) → Some x ≡ option_map (λ g. connection_of g alive will) (find (is_newcomer conn) (newcomers_now d.newcomers.items))
    → IsLawful (state_was d) → d.made < d.given
is-lower d conn alive will x e l = by d.newcomers.items e l.made
  where
    none : {Y : Type 0} {y : Y} → Some y ≡ None → ⊥
    none h = cc

    by : (gs : List Newcomer) → Some x ≡ option_map (λ g. connection_of g alive will) (find (is_newcomer conn) (newcomers_now gs)) → d.made + length (map newcomer_was gs) ≤ d.given → d.made < d.given
    by [] f h = absurd (none f)
    by (g ∷ gs) f h = omega arith

-- ---- retained messages are left alone

entered-keeps : (e : Entry) (b : plain.Broker) (r : List (List ℕ × plain.Stored)) → entered e (record b { retained = r }) ≡ record (entered e b) { retained = r }
entered-keeps (Made key client kept connection ids) b r = refl
entered-keeps (Back client connection) b r = refl

pub record Keeps (client : List ℕ) (kept : Bool) (l : plain.Connection) (b : plain.Broker) (r : List (List ℕ × plain.Stored)) : Type 0 where
  pub broker : (taken client kept l (record b { retained = r })).broker ≡ record (taken client kept l b).broker { retained = r }
  pub sends : (taken client kept l (record b { retained = r })).sends ≡ (taken client kept l b).sends

taken-keeps : (client : List ℕ) (kept : Bool) (l : plain.Connection) (b : plain.Broker) (r : List (List ℕ × plain.Stored)) → Keeps client kept l b r
taken-keeps client kept l b r = record { broker = broker (away_for kept client b.sessions); sends = sends (away_for kept client b.sessions) }
  where
    broker : (o : Option plain.Session) → (take_up o client kept l (begun (record b { retained = r }))).broker ≡ record (take_up o client kept l (begun b)).broker { retained = r }
    broker None = refl
    broker (Some s) = refl

    sends : (o : Option plain.Session) → (take_up o client kept l (begun (record b { retained = r }))).sends ≡ (take_up o client kept l (begun b)).sends
    sends None = refl
    sends (Some s) = refl

-- in a turn, it is put behind what is sent
taken-turn : (client : List ℕ) (kept : Bool) (l : plain.Connection) (t : Turn)
    → take_up (away_for kept client t.broker.sessions) client kept l t
    ≡ record t { broker = (taken client kept l t.broker).broker; sends = t.sends ++ (taken client kept l t.broker).sends }
taken-turn client kept l t = by (away_for kept client t.broker.sessions)
  where
    by : (o : Option plain.Session) → take_up o client kept l t
        ≡ record t { broker = (take_up o client kept l (begun t.broker)).broker; sends = t.sends ++ (take_up o client kept l (begun t.broker)).sends }
    by None = refl
    by (Some s) = refl

-- ---- all together

sent-stands : (d0 d1 : State) (x0 x1 : Draft) (t : Turn) (ss : List plain.Send) → draft_view x1 ≡ with_sends ss (draft_view x0)
    → state_now d1 ≡ state_now d0 → d1.retained ≡ d0.retained → Stands d0 x0 t → Stands d1 x1 (record t { sends = t.sends ++ ss })
sent-stands d0 d1 x0 x1 t ss e same room s = record {
  broker = ap (λ (y : Drafted). with_keeps y.keeps (state_now d1)) e ∙ ap (with_keeps (draft_view x0).keeps) same ∙ s.broker;
  sends = ap (λ (y : Drafted). y.sends) e ∙ ap (λ l. l ++ map outgoing ss) s.sends ∙ sym (map-append outgoing t.sends ss);
  closes = ap (λ (y : Drafted). y.closes) e ∙ s.closes;
  waiting = ap (λ (y : Drafted). y.waiting) e ∙ s.waiting;
  room = subst (λ (y : Drafted). length y.keeps ≤ spare d1.retained) (sym e) (subst (λ r. length (draft_view x0).keeps ≤ spare r) (sym room) s.room);
  lawful = s.lawful;
}

pub accepts : (d0 d1 : State) (x0 x1 : Draft) (t : Turn) (conn : ℕ) (client : List ℕ) (kept : Bool) (alive : ℕ) (will : Option plain.AppMessage) (l : plain.Connection) (e : Entry)
    → Some l ≡ option_map (λ (g : plain.Newcomer). connection_of g alive will) (find (is_newcomer conn) (newcomers_now d0.newcomers.items))
    → entered e (state_now d0) ≡ (taken client kept l (state_now d0)).broker
    → draft_view x1 ≡ with_sends (taken client kept l (state_now d0)).sends (draft_view x0)
    → state_now d1 ≡ state_now d0 → d1.retained ≡ d0.retained → Stands d0 x0 t
    → Comes d1 x1 (Some e) (act (Accept conn client kept alive will) t)
accepts d0 d1 x0 x1 t conn client kept alive will l e found entry sends same room s =
    let b = state_now d0 in
    let r = (with_keeps (draft_view x0).keeps b).retained in
    let k = taken-keeps client kept l b r in
    let comes : entered e t.broker ≡ (taken client kept l t.broker).broker =
    ap (entered e) (sym s.broker) ∙ entered-keeps e b r ∙ ap (λ (c : plain.Broker). record c { retained = r }) entry ∙ sym k.broker
    ∙ ap (λ c. (taken client kept l c).broker) s.broker in
    let said : (taken client kept l b).sends ≡ (taken client kept l t.broker).sends = sym k.sends ∙ ap (λ c. (taken client kept l c).sends) s.broker in
    let newcomers : find (is_newcomer conn) (newcomers_now d0.newcomers.items) ≡ find (is_newcomer conn) t.broker.newcomers =
    ap (λ (c : plain.Broker). find (is_newcomer conn) c.newcomers) s.broker in
    record {
      before = record t { sends = t.sends ++ (taken client kept l b).sends };
      stands = sent-stands d0 d1 x0 x1 t (taken client kept l b).sends sends same room s;
      is = ap (λ c. record t { broker = c; sends = t.sends ++ (taken client kept l b).sends }) comes
          ∙ ap (λ ss. record t { broker = (taken client kept l t.broker).broker; sends = t.sends ++ ss }) said
          ∙ sym (taken-turn client kept l t)
          ∙ last (find (is_newcomer conn) t.broker.newcomers) (found ∙ ap (option_map (λ (g : plain.Newcomer). connection_of g alive will)) newcomers);
    }
  where
    last : (o : Option plain.Newcomer) → Some l ≡ option_map (λ (g : plain.Newcomer). connection_of g alive will) o
        → take_up (away_for kept client t.broker.sessions) client kept l t ≡ accept_of o client kept alive will t
    last None f = cc
    last (Some g) f = let same : l ≡ connection_of g alive will = cc in ap (λ m. take_up (away_for kept client t.broker.sessions) client kept m t) same

-- ---- a list of acts

told-stands : (d : State) (x0 x1 : Draft) (t : Turn) (cs : List ℕ) → draft_view x1 ≡ record (draft_view x0) { closes = (draft_view x0).closes ++ cs }
    → Stands d x0 t → Stands d x1 (record t { closes = t.closes ++ cs })
told-stands d x0 x1 t cs e s = record {
  broker = ap (λ (y : Drafted). with_keeps y.keeps (state_now d)) e ∙ s.broker;
  sends = ap (λ (y : Drafted). y.sends) e ∙ s.sends;
  closes = ap (λ (y : Drafted). y.closes) e ∙ ap (λ l. l ++ cs) s.closes;
  waiting = ap (λ (y : Drafted). y.waiting) e ∙ s.waiting;
  room = subst (λ (y : Drafted). length y.keeps ≤ spare d.retained) (sym e) s.room;
  lawful = s.lawful;
}

pub acts-append : (xs ys : List Act) (t : Turn) → acts (xs ++ ys) t ≡ acts ys (acts xs t)
acts-append [] ys t = refl
acts-append (a ∷ xs) ys t = acts-append xs ys (act a t)

finished-closes : (e : Option Entry) (t : Turn) (cs : List ℕ) → finished e (record t { closes = cs }) ≡ record (finished e t) { closes = cs }
finished-closes None t cs = refl
finished-closes (Some e) t cs = refl

-- the older one is told last
pub tells-older : (older : Option ℕ) (d : State) (x0 x1 : Draft) (e : Option Entry) (t : Turn) → (cs : List ℕ) → cs ≡ option_list older
    → draft_view x1 ≡ record (draft_view x0) { closes = (draft_view x0).closes ++ cs } → Comes d x0 e t → Comes d x1 e (acts (tell_older older) t)
tells-older older d x0 x1 e t cs is v c = record {
  before = record c.before { closes = c.before.closes ++ cs };
  stands = told-stands d x0 x1 c.before cs v c.stands;
  is = finished-closes e c.before (c.before.closes ++ cs) ∙ ap (λ ks. record (finished e c.before) { closes = ks }) (same e)
      ∙ ap (λ (u : Turn). record u { closes = u.closes ++ cs }) c.is ∙ ap (λ ks. record t { closes = t.closes ++ ks }) is ∙ last older;
}
  where
    same : (e : Option Entry) → c.before.closes ++ cs ≡ (finished e c.before).closes ++ cs
    same None = refl
    same (Some x) = refl

    last : (o : Option ℕ) → record t { closes = t.closes ++ option_list o } ≡ acts (tell_older o) t
    last None = ap (λ ks. record t { closes = ks }) (append-nil t.closes)
    last (Some o) = refl

pub joins : (older : Option ℕ) (conn : ℕ) (client : List ℕ) (clean : Bool) (alive : ℕ) (will : Option plain.AppMessage) (t : Turn)
    → acts (tell_older older) (act (Accept conn client (not clean) alive will) (acts (if clean then Forget client ∷ [] else []) (acts (take_over older) t)))
    ≡ acts (join older conn client clean alive will) t
joins older conn client clean alive will t = sym (
    acts-append (take_over older) ((if clean then Forget client ∷ [] else []) ++ Accept conn client (not clean) alive will ∷ tell_older older) t
    ∙ acts-append (if clean then Forget client ∷ [] else []) (Accept conn client (not clean) alive will ∷ tell_older older) (acts (take_over older) t)
    )

-- what is judged is what the rules say
pub connects : (seen : Seen) (conn : ℕ) (client : List ℕ) (clean : Bool) (alive : ℕ) (will : Option WillData)
    → acts_of (judged seen.welcome client clean will) seen.older conn client clean alive (option_map will_message will) ≡ connect seen conn client clean alive will
connects seen conn client clean alive will = by (is_empty client && not clean) (has_bad_topic will) (not clean && not seen.welcome)
  where
    by : (a b c : Bool) → acts_of (if a then Refused 2 else if b then Shut else if c then Refused 3 else Joins) seen.older conn client clean alive (option_map will_message will)
        ≡ (if a then turn_away conn 2 else if b then shut conn else if c then turn_away conn 3 else join seen.older conn client clean alive (option_map will_message will))
    by true b c = refl
    by false true c = refl
    by false false true = refl
    by false false false = refl
