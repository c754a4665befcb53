-- Each act keeps numbers given and sessions in the order in which they were made.
use Rattle.std.proofs.Common.{◌≡◌, ℕ, zero, suc, ◌+◌, ◌<◌, ◌≤◌, Bool, true, false, not, cond, eqb, List, [], ◌∷◌, ◌++◌, map, length, refl, sym, arith, subst, Option, Some, None}
use Rattle.std.specs.List.{find, fold, flat_map, AllByRecursion}
use Rattle.std.specs.Option.{option_map}
use Rattle.spk_session.specs.PacketIds.{next_id}
use Rattle.spk_session.specs.Step.{has_room, one_more}
use Rattle.spk_broker_rules.specs.Data.{AppMessage, Connection, Newcomer, Session, Broker}
use Rattle.spk_broker_rules.specs.Lawful.{IsLow, Rises}
use Rattle.spk_broker_rules.specs.Words.{handed_out, best, level, sent_as, granted_of, offers_to}
use Rattle.spk_broker_rules.specs.Plan.{Act, Opens, At, Hear, Drop, Say, Leave, Tell, Queue, Route, Forget, Accept, Give, Take, Ack}
use Rattle.spk_broker_rules.specs.Step.{Turn, act, acts, opens, on_connections, newcomer_heard, connection_heard, newcomer_dropped, connection_dropped, swap, leave_at, session_by, sits, is_newcomer, is_away, forget_at, connection_of, new_session, take_up, away_for, accept_of, other_grants, give_at, take_at, ack_at, offer, offer_at, with_key, hand, hand_at, serve, serve_at, route_one, route_some, route, numbered, bursts}
use Rattle.spk_broker_rules.proofs.Lists.{eqb-is, found-passes, all-also, all-append, all-filter, all-mapped, all-flat}

-- the data are lawful but for how often a connection stands there
pub record IsOrdered (b : Broker) : Type 0 where
  pub newcomers : AllByRecursion (λ (g : Newcomer). g.conn ≤ b.given) b.newcomers
  pub connections : AllByRecursion (λ (s : Session). IsLow b.given s.here) b.sessions
  pub keys : Rises 0 b.made b.sessions

abbrev AreLow : ℕ → List Session → Type 0
AreLow n ss = AllByRecursion (λ (s : Session). IsLow n s.here) ss

-- what is found is one of the list
pub found-in : {X : Type 0} (P : X → Type 0) (p : X → Bool) (xs : List X) (x : X) → AllByRecursion P xs → find p xs ≡ Some x → P x
found-in P p [] x all e = absurd (none e)
  where
    none : {Y : Type 0} {y : Y} → None ≡ Some y → ⊥
    none e = cc
found-in P p (y ∷ ys) x all e = by (p y) e (found-in P p ys x all.1)
  where
    by : (b : Bool) → cond b (Some y) (find p ys) ≡ Some x → (find p ys ≡ Some x → P x) → P x
    by true h rest = let same : y ≡ x = cc in subst P same all.0
    by false h rest = rest h

-- ---- keys

rises-weak : (a b top : ℕ) (ss : List Session) → a ≤ b → Rises b top ss → Rises a top ss
rises-weak a b top [] e h = omega arith
rises-weak a b top (s ∷ ss) e h = ((let x = h.0 in omega arith), h.1)

rises-push : (low top : ℕ) (ss : List Session) (x : Session) → x.key ≡ top + 1 → Rises low top ss → Rises low (top + 1) (ss ++ x ∷ [])
rises-push low top [] x e h = ((omega arith), (omega arith))
rises-push low top (s ∷ ss) x e h = (h.0, rises-push s.key top ss x e h.1)

rises-map : (f : Session → Session) → ((s : Session) → (f s).key ≡ s.key) → (low top : ℕ) (ss : List Session) → Rises low top ss → Rises low top (map f ss)
rises-map f same low top [] h = h
rises-map f same low top (s ∷ ss) h = (
  subst (λ k. low < k) (sym (same s)) h.0,
  subst (λ k. Rises k top (map f ss)) (sym (same s)) (rises-map f same s.key top ss h.1),
)

-- one with this key at most
abbrev pub IsOne : ℕ → List Session → Type 0
IsOne key [] = Unit {0}
IsOne key (x ∷ []) = x.key ≡ key
IsOne key (x ∷ y ∷ zs) = ⊥

rises-one : (low top : ℕ) (s : Session) (xs rest : List Session) → low < s.key → IsOne s.key xs → Rises s.key top rest → Rises low top (xs ++ rest)
rises-one low top s [] rest above one h = rises-weak low s.key top rest (omega arith) h
rises-one low top s (x ∷ []) rest above one h = (subst (λ k. low < k) (sym one) above, subst (λ k. Rises k top rest) (sym one) h)
rises-one low top s (x ∷ y ∷ zs) rest above one h = absurd one

rises-flat : (f : Session → List Session) → ((s : Session) → IsOne s.key (f s)) → (low top : ℕ) (ss : List Session) → Rises low top ss → Rises low top (flat_map f ss)
rises-flat f one low top [] h = h
rises-flat f one low top (s ∷ ss) h = rises-one low top s (f s) (flat_map f ss) h.0 (one s) (rises-flat f one s.key top ss h.1)

one-swapped : (key : ℕ) (new : List Session) → IsOne key new → (s : Session) → IsOne s.key (cond (eqb s.key key) new (s ∷ []))
one-swapped key new one s = by (eqb s.key key) refl
  where
    by : (b : Bool) → eqb s.key key ≡ b → IsOne s.key (cond b new (s ∷ []))
    by true is = subst (λ k. IsOne k new) (sym (eqb-is s.key key is)) one
    by false is = refl

low-swapped : (n key : ℕ) (new : List Session) → AreLow n new → (s : Session) → IsLow n s.here → AreLow n (cond (eqb s.key key) new (s ∷ []))
low-swapped n key new low s h = by (eqb s.key key)
  where
    by : (b : Bool) → AreLow n (cond b new (s ∷ []))
    by true = low
    by false = (h, tt)

abbrev sessions_with : Broker → List Session → Broker
sessions_with b ss = record b { sessions = ss }

pub ordered-swap : (b : Broker) (key : ℕ) (new : List Session) → IsOne key new → AreLow b.given new → IsOrdered b → IsOrdered (sessions_with b (swap key new b.sessions))
ordered-swap b key new one low l = record {
  newcomers = l.newcomers;
  connections = all-flat (λ (s : Session). IsLow b.given s.here) (λ (s : Session). IsLow b.given s.here) (λ (s : Session). cond (eqb s.key key) new (s ∷ [])) (low-swapped b.given key new low) b.sessions l.connections;
  keys = rises-flat (λ (s : Session). cond (eqb s.key key) new (s ∷ [])) (one-swapped key new one) 0 b.made b.sessions l.keys;
}

-- ---- one message

one-hand_at : (q : ℕ) (app_message : AppMessage) (s : Session) → IsOne s.key (hand_at q app_message s).left
one-hand_at zero app_message s = refl
one-hand_at (suc q) app_message s = by (has_room s.used)
  where
    by : (b : Bool) → IsOne s.key (cond b (numbered s app_message (next_id s.used s.last)) (bursts s)).left
    by true = refl
    by false = tt

low-hand_at : (n q : ℕ) (app_message : AppMessage) (s : Session) → IsLow n s.here → AreLow n (hand_at q app_message s).left
low-hand_at n zero app_message s low = (low, tt)
low-hand_at n (suc q) app_message s low = by (has_room s.used)
  where
    by : (b : Bool) → AreLow n (cond b (numbered s app_message (next_id s.used s.last)) (bursts s)).left
    by true = (low, tt)
    by false = tt

one-serve : (m : AppMessage) (s : Session) → IsOne s.key (serve m s).left
one-serve m s = by (level m.qos (best m.topic s.grants))
  where
    by : (o : Option ℕ) → IsOne s.key (serve_at o m s).left
    by None = refl
    by (Some q) = one-hand_at q (sent_as m q false) s

low-serve : (n : ℕ) (m : AppMessage) (s : Session) → IsLow n s.here → AreLow n (serve m s).left
low-serve n m s low = by (level m.qos (best m.topic s.grants))
  where
    by : (o : Option ℕ) → AreLow n (serve_at o m s).left
    by None = (low, tt)
    by (Some q) = low-hand_at n q (sent_as m q false) s low

pub ordered-one : (m : AppMessage) (t : Turn) → IsOrdered t.broker → IsOrdered (route_one m t).broker
ordered-one m t l = record {
  newcomers = l.newcomers;
  connections = all-flat (λ (s : Session). IsLow t.broker.given s.here) (λ (s : Session). IsLow t.broker.given s.here) (λ (s : Session). (serve m s).left) (low-serve t.broker.given m) t.broker.sessions l.connections;
  keys = rises-flat (λ (s : Session). (serve m s).left) (one-serve m) 0 t.broker.made t.broker.sessions l.keys;
}

ordered-some : (n : ℕ) (t : Turn) → IsOrdered t.broker → IsOrdered (route_some n t).broker
unfolding route_some
ordered-some zero t l = l
ordered-some (suc n) t l = by t.waiting (λ m ms. ordered-some n (route_one m (record t { waiting = ms })) (ordered-one m (record t { waiting = ms }) l))
  where
    by : (ws : List AppMessage) → ((m : AppMessage) (ms : List AppMessage) → IsOrdered (route_some n (route_one m (record t { waiting = ms }))).broker)
        → IsOrdered (elim ws as (λ _. Turn) [ [] ↦ t | m ∷ ms ↦ route_some n (route_one m (record t { waiting = ms })) ]).broker
    by [] rest = l
    by (m ∷ ms) rest = rest m ms

ordered-route : (t : Turn) → IsOrdered t.broker → IsOrdered (route t).broker
unfolding route
ordered-route t l = ordered-some (length t.waiting + length t.broker.sessions) t l

-- ---- the acts

ordered-opens : (t : Turn) → IsOrdered t.broker → IsOrdered (opens t).broker
ordered-opens t l = record {
  newcomers = all-append (λ (g : Newcomer). g.conn ≤ t.broker.given + 1) t.broker.newcomers ((record { conn = t.broker.given + 1; heard = t.broker.clock; drops = 0 }) ∷ [])
      (all-also (λ (g : Newcomer). g.conn ≤ t.broker.given) (λ (g : Newcomer). g.conn ≤ t.broker.given + 1) (λ g e. omega arith) t.broker.newcomers l.newcomers) ((omega arith), tt);
  connections = all-also (λ (s : Session). IsLow t.broker.given s.here) (λ (s : Session). IsLow (t.broker.given + 1) s.here) (λ s e. more s.here e) t.broker.sessions l.connections;
  keys = l.keys;
}
  where
    more : (o : Option Connection) → IsLow t.broker.given o → IsLow (t.broker.given + 1) o
    more None e = tt
    more (Some x) e = let low : x.conn ≤ t.broker.given = e in omega arith

ordered-connections : (on_newcomer : Newcomer → Newcomer) (on_connection : Connection → Connection) → ((g : Newcomer) → (on_newcomer g).conn ≡ g.conn) → ((x : Connection) → (on_connection x).conn ≡ x.conn)
    → (t : Turn) → IsOrdered t.broker → IsOrdered (on_connections on_newcomer on_connection t).broker
ordered-connections on_newcomer on_connection newcomer connection t l = record {
  newcomers = all-mapped (λ (g : Newcomer). g.conn ≤ t.broker.given) on_newcomer t.broker.newcomers
      (all-also (λ (g : Newcomer). g.conn ≤ t.broker.given) (λ (g : Newcomer). (on_newcomer g).conn ≤ t.broker.given) (λ g e. subst (λ n. n ≤ t.broker.given) (sym (newcomer g)) e) t.broker.newcomers l.newcomers);
  connections = all-mapped (λ (s : Session). IsLow t.broker.given s.here) (λ (s : Session). record s { here = option_map on_connection s.here }) t.broker.sessions
      (all-also (λ (s : Session). IsLow t.broker.given s.here) (λ (s : Session). IsLow t.broker.given (option_map on_connection s.here)) (λ s e. same s.here e) t.broker.sessions l.connections);
  keys = rises-map (λ (s : Session). record s { here = option_map on_connection s.here }) (λ s. refl) 0 t.broker.made t.broker.sessions l.keys;
}
  where
    same : (o : Option Connection) → IsLow t.broker.given o → IsLow t.broker.given (option_map on_connection o)
    same None e = tt
    same (Some x) e = subst (λ n. n ≤ t.broker.given) (sym (connection x)) e

pub heard-conn : (c k : ℕ) (g : Newcomer) → (newcomer_heard c k g).conn ≡ g.conn
heard-conn c k g = by (eqb g.conn c)
  where
    by : (b : Bool) → (cond b (record g { heard = k }) g).conn ≡ g.conn
    by true = refl
    by false = refl

pub heard-connection : (c k : ℕ) (x : Connection) → (connection_heard c k x).conn ≡ x.conn
heard-connection c k x = by (eqb x.conn c)
  where
    by : (b : Bool) → (cond b (record x { heard = k }) x).conn ≡ x.conn
    by true = refl
    by false = refl

pub dropped-conn : (c : ℕ) (g : Newcomer) → (newcomer_dropped c g).conn ≡ g.conn
dropped-conn c g = by (eqb g.conn c)
  where
    by : (b : Bool) → (cond b (record g { drops = one_more g.drops }) g).conn ≡ g.conn
    by true = refl
    by false = refl

pub dropped-connection : (c : ℕ) (x : Connection) → (connection_dropped c x).conn ≡ x.conn
dropped-connection c x = by (eqb x.conn c)
  where
    by : (b : Bool) → (cond b (record x { drops = one_more x.drops }) x).conn ≡ x.conn
    by true = refl
    by false = refl

ordered-leave : (o : Option Session) (c : ℕ) (wills : Bool) (t : Turn) → IsOrdered t.broker → IsOrdered (leave_at o c wills t).broker
ordered-leave None c wills t l = record {
  newcomers = all-filter (λ (g : Newcomer). g.conn ≤ t.broker.given) (λ (g : Newcomer). not (eqb g.conn c)) t.broker.newcomers l.newcomers;
  connections = l.connections;
  keys = l.keys;
}
ordered-leave (Some s) c wills t l = by s.kept
  where
    by : (b : Bool) → IsOrdered (sessions_with t.broker (swap s.key (cond b ((record s { here = None }) ∷ []) []) t.broker.sessions))
    by true = ordered-swap t.broker s.key ((record s { here = None }) ∷ []) refl (tt, tt) l
    by false = ordered-swap t.broker s.key [] tt tt l

ordered-forget : (o : Option Session) (t : Turn) → IsOrdered t.broker → IsOrdered (forget_at o t).broker
ordered-forget None t l = l
ordered-forget (Some s) t l = ordered-swap t.broker s.key [] tt tt l

ordered-join : (o : Option Session) (name : List ℕ) (keeps : Bool) (x : Connection) (t : Turn) → x.conn ≤ t.broker.given → IsOrdered t.broker → IsOrdered (take_up o name keeps x t).broker
ordered-join None name keeps x t low l = record {
  newcomers = all-filter (λ (g : Newcomer). g.conn ≤ t.broker.given) (λ (g : Newcomer). not (eqb g.conn x.conn)) t.broker.newcomers l.newcomers;
  connections = all-append (λ (s : Session). IsLow t.broker.given s.here) t.broker.sessions (new_session (t.broker.made + 1) name keeps x ∷ []) l.connections (low, tt);
  keys = rises-push 0 t.broker.made t.broker.sessions (new_session (t.broker.made + 1) name keeps x) refl l.keys;
}
ordered-join (Some s) name keeps x t low l = record {
  newcomers = all-filter (λ (g : Newcomer). g.conn ≤ t.broker.given) (λ (g : Newcomer). not (eqb g.conn x.conn)) t.broker.newcomers l.newcomers;
  connections = swapped.connections;
  keys = swapped.keys;
}
  where
    swapped : IsOrdered (sessions_with t.broker (swap s.key ((record s { here = Some x; in_flight = map handed_out s.in_flight }) ∷ []) t.broker.sessions))
    swapped = ordered-swap t.broker s.key ((record s { here = Some x; in_flight = map handed_out s.in_flight }) ∷ []) refl (low, tt) l

ordered-accept : (c : ℕ) (o : Option Newcomer) → (name : List ℕ) (keeps : Bool) (alive : ℕ) (will : Option AppMessage) (t : Turn) → IsOrdered t.broker → find (is_newcomer c) t.broker.newcomers ≡ o
    → IsOrdered (accept_of o name keeps alive will t).broker
ordered-accept c None name keeps alive will t l is = l
ordered-accept c (Some g) name keeps alive will t l is =
    ordered-join (away_for keeps name t.broker.sessions) name keeps (connection_of g alive will) t (found-in (λ (x : Newcomer). x.conn ≤ t.broker.given) (is_newcomer c) t.broker.newcomers g l.newcomers is) l

pub ordered-offer_at : (s : ℕ) (app_message : AppMessage) (t : Turn) (o : Option Session) → IsOrdered t.broker → with_key s t.broker.sessions ≡ o → IsOrdered (offer_at o s app_message t).broker
ordered-offer_at s app_message t None l is = l
ordered-offer_at s app_message t (Some x) l is =
    let same : x.key ≡ s = eqb-is x.key s (found-passes (λ (y : Session). eqb y.key s) t.broker.sessions x is) in
    ordered-swap t.broker s (hand app_message x).left (subst (λ k. IsOne k (hand app_message x).left) same (one-hand_at app_message.qos app_message x))
    (low-hand_at t.broker.given app_message.qos app_message x (found-in (λ (y : Session). IsLow t.broker.given y.here) (λ (y : Session). eqb y.key s) t.broker.sessions x l.connections is)) l

ordered-offers : (s : ℕ) (app_messages : List AppMessage) (t : Turn) → IsOrdered t.broker → IsOrdered (fold (offer s) t app_messages).broker
ordered-offers s [] t l = l
ordered-offers s (p ∷ ps) t l = ordered-offers s ps (offer s t p) (ordered-offer_at s p t (with_key s t.broker.sessions) l refl)

-- a session that is found keeps its connection
pub ordered-found : (c : ℕ) (t : Turn) (s new : Session) → new.key ≡ s.key → new.here ≡ s.here → IsOrdered t.broker → session_by c t.broker.sessions ≡ Some s
    → IsOrdered (sessions_with t.broker (swap s.key (new ∷ []) t.broker.sessions))
ordered-found c t s new key here l is = ordered-swap t.broker s.key (new ∷ []) key
    (subst (IsLow t.broker.given) (sym here) (found-in (λ (y : Session). IsLow t.broker.given y.here) (sits c) t.broker.sessions s l.connections is), tt) l

ordered-give : (c id : ℕ) (entries : List (List ℕ × ℕ)) (t : Turn) (o : Option Session) → IsOrdered t.broker → session_by c t.broker.sessions ≡ o → IsOrdered (give_at o c id entries t).broker
ordered-give c id entries t None l is = l
ordered-give c id entries t (Some s) l is =
    ordered-offers s.key (flat_map (offers_to t.broker.retained) (granted_of (other_grants s t.broker.sessions) s.grants entries)) _
    (ordered-found c t s _ refl refl l is)

ordered-take : (c : ℕ) (filters : List (List ℕ)) (t : Turn) (o : Option Session) → IsOrdered t.broker → session_by c t.broker.sessions ≡ o → IsOrdered (take_at o filters t).broker
ordered-take c filters t None l is = l
ordered-take c filters t (Some s) l is = ordered-found c t s _ refl refl l is

ordered-ack : (c id : ℕ) (t : Turn) (o : Option Session) → IsOrdered t.broker → session_by c t.broker.sessions ≡ o → IsOrdered (ack_at o id t).broker
ordered-ack c id t None l is = l
ordered-ack c id t (Some s) l is = ordered-found c t s _ refl refl l is

pub ordered-act : (a : Act) (t : Turn) → IsOrdered t.broker → IsOrdered (act a t).broker
ordered-act Opens t l = ordered-opens t l
ordered-act (At moment) t l = record { newcomers = l.newcomers; connections = l.connections; keys = l.keys }
ordered-act (Hear c) t l = ordered-connections (newcomer_heard c t.broker.clock) (connection_heard c t.broker.clock) (heard-conn c t.broker.clock) (heard-connection c t.broker.clock) t l
ordered-act (Drop c) t l = ordered-connections (newcomer_dropped c) (connection_dropped c) (dropped-conn c) (dropped-connection c) t l
ordered-act (Say c p) t l = l
ordered-act (Leave c wills) t l = ordered-leave (session_by c t.broker.sessions) c wills t l
ordered-act (Tell c) t l = l
ordered-act (Queue app_message) t l = l
ordered-act Route t l = ordered-route t l
ordered-act (Forget name) t l = ordered-forget (find (is_away name) t.broker.sessions) t l
ordered-act (Accept c name keeps alive will) t l = ordered-accept c (find (is_newcomer c) t.broker.newcomers) name keeps alive will t l refl
ordered-act (Give c id entries) t l = ordered-give c id entries t (session_by c t.broker.sessions) l refl
ordered-act (Take c filters) t l = ordered-take c filters t (session_by c t.broker.sessions) l refl
ordered-act (Ack c id) t l = ordered-ack c id t (session_by c t.broker.sessions) l refl

pub ordered-acts : (as_list : List Act) (t : Turn) → IsOrdered t.broker → IsOrdered (acts as_list t).broker
ordered-acts [] t l = l
ordered-acts (a ∷ as_list) t l = ordered-acts as_list (act a t) (ordered-act a t l)
