-- Whom an event sends to and closes.
use Rattle.std.proofs.Common.{◌≡◌, ◌≢◌, ◌⊎◌, inl, inr, ℕ, zero, suc, ◌+◌, ◌==◌, Bool, true, false, not, cond, List, [], ◌∷◌, ◌++◌, map, length, refl, sym, ap, ◌∙◌, subst, Option, Some, None}
use Rattle.std.specs.List.{filter, find, fold, flat_map, AllByRecursion}
use Rattle.std.specs.Option.{option_map, option_map_or}
use Rattle.std.proofs.lemmas.Bool.Decides.{eqb_tells}
use Rattle.spk_packets.specs.Message.{Message, ConnAck, SubAck}
use Rattle.spk_session.specs.PacketIds.{next_id}
use Rattle.spk_session.specs.Step.{has_room, one_more}
use Rattle.spk_broker_rules.specs.Data.{AppMessage, InFlight, Connection, Newcomer, Session, Send}
use Rattle.spk_broker_rules.specs.Words.{best, level, sent_as, to_connection, option_list, resent, plain_packet, numbered_packet, granted_of, offers_to, codes_of, with_entry, handed_out, is_silent}
use Rattle.spk_broker_rules.specs.Plan.{Act, Opens, At, Hear, Drop, Say, Leave, Tell, Queue, Route, Forget, Accept, Give, Take, Ack}
use Rattle.spk_broker_rules.specs.Step.{Turn, act, acts, on_connections, newcomer_heard, connection_heard, newcomer_dropped, connection_dropped, swap, left_behind, leave_at, session_by, sits, is_newcomer, is_away, forget_at, connection_of, new_session, take_up, away_for, accept_of, other_grants, give_at, take_at, ack_at, offer, offer_at, with_key, hand, hand_at, serve, serve_at, numbered, bursts, route_one, route_some, route, silent_at}
use Rattle.spk_broker_limits.proofs.Totals.{found, no_some}

-- a connection of these, where there is one
abbrev pub OnConnection : (ℕ → Type 0) → Option Connection → Type 0
OnConnection K None = Unit {0}
OnConnection K (Some l) = K l.conn

abbrev pub Every : {X : Type 0} → (X → Type 0) → List X → Type 0
Every P xs = AllByRecursion P xs

-- all that is sent and closed, and all that is there, is of these connections
pub record IsIn (K : ℕ → Type 0) (t : Turn) : Type 0 where
  pub sends : Every (λ (s : Send). K s.conn) t.sends
  pub closes : Every K t.closes
  pub newcomers : Every (λ (g : Newcomer). K g.conn) t.broker.newcomers
  pub connections : Every (λ (s : Session). OnConnection K s.here) t.broker.sessions

-- ---- lists

pub join : {X : Type 0} (P : X → Type 0) (xs ys : List X) → Every P xs → Every P ys → Every P (xs ++ ys)
join P [] ys a b = b
join P (x ∷ xs) ys a b = (a.0, join P xs ys a.1 b)

pub flat : {X Y : Type 0} (Q : X → Type 0) (P : Y → Type 0) (f : X → List Y) → ((x : X) → Q x → Every P (f x)) → (xs : List X) → Every Q xs → Every P (flat_map f xs)
flat Q P f g [] a = tt
flat Q P f g (x ∷ xs) a = join P (f x) (flat_map f xs) (g x a.0) (flat Q P f g xs a.1)

mapped : {X Y : Type 0} (Q : X → Type 0) (P : Y → Type 0) (f : X → Y) → ((x : X) → Q x → P (f x)) → (xs : List X) → Every Q xs → Every P (map f xs)
mapped Q P f g [] a = tt
mapped Q P f g (x ∷ xs) a = (g x a.0, mapped Q P f g xs a.1)

kept_of : {X : Type 0} (P : X → Type 0) (p : X → Bool) (xs : List X) → Every P xs → Every P (filter p xs)
kept_of P p [] a = tt
kept_of P p (x ∷ xs) a = by (p x) (kept_of P p xs a.1)
  where
    by : (b : Bool) → Every P (filter p xs) → Every P (cond b (x ∷ filter p xs) (filter p xs))
    by true rest = (a.0, rest)
    by false rest = rest

found_newcomer : (P : Newcomer → Type 0) (p : Newcomer → Bool) (gs : List Newcomer) (g : Newcomer) → Every P gs → find p gs ≡ Some g → P g
found_newcomer P p [] g a e = absurd (none e)
  where
    none : None ≡ Some g → ⊥
    none f = absurd cc
found_newcomer P p (h ∷ hs) g a e = by (p h) e (λ f. found_newcomer P p hs g a.1 f)
  where
    is : Some h ≡ Some g → h ≡ g
    is f = cc

    by : (b : Bool) → cond b (Some h) (find p hs) ≡ Some g → (find p hs ≡ Some g → P g) → P g
    by true f rest = subst P (is f) a.0
    by false f rest = rest f

-- ---- sessions

pub swapped : (K : ℕ → Type 0) (key : ℕ) (new ss : List Session) → Every (λ (s : Session). OnConnection K s.here) new → Every (λ (s : Session). OnConnection K s.here) ss → Every (λ (s : Session). OnConnection K s.here) (swap key new ss)
swapped K key new ss n a = flat (λ (s : Session). OnConnection K s.here) (λ (s : Session). OnConnection K s.here) (λ (s : Session). cond (s.key == key) new (s ∷ [])) (λ s p. by (s.key == key) s p) ss a
  where
    by : (b : Bool) (s : Session) → OnConnection K s.here → Every (λ (u : Session). OnConnection K u.here) (cond b new (s ∷ []))
    by true s p = n
    by false s p = (p, tt)

on_it : (K : ℕ → Type 0) (o : Option Connection) (packet : Message) → OnConnection K o → Every (λ (s : Send). K s.conn) (to_connection (option_map (λ (l : Connection). l.conn) o) packet)
on_it K None packet p = tt
on_it K (Some l) packet p = (p, tt)

closed_it : (K : ℕ → Type 0) (o : Option Connection) → OnConnection K o → Every K (option_list (option_map (λ (l : Connection). l.conn) o))
closed_it K None p = tt
closed_it K (Some l) p = (p, tt)

sends_hand : (K : ℕ → Type 0) (q : ℕ) (m : AppMessage) (s : Session) → OnConnection K s.here → Every (λ (x : Send). K x.conn) (hand_at q m s).sends
sends_hand K zero m s p = on_it K s.here (plain_packet m) p
sends_hand K (suc q) m s p = by (has_room s.used)
  where
    by : (b : Bool) → Every (λ (x : Send). K x.conn) (cond b (numbered s m (next_id s.used s.last)) (bursts s)).sends
    by true = on_it K s.here (numbered_packet false (next_id s.used s.last) m) p
    by false = tt

closes_hand : (K : ℕ → Type 0) (q : ℕ) (m : AppMessage) (s : Session) → OnConnection K s.here → Every K (hand_at q m s).closes
closes_hand K zero m s p = tt
closes_hand K (suc q) m s p = by (has_room s.used)
  where
    by : (b : Bool) → Every K (cond b (numbered s m (next_id s.used s.last)) (bursts s)).closes
    by true = tt
    by false = closed_it K s.here p

pub left_hand : (K : ℕ → Type 0) (q : ℕ) (m : AppMessage) (s : Session) → OnConnection K s.here → Every (λ (u : Session). OnConnection K u.here) (hand_at q m s).left
left_hand K zero m s p = (p, tt)
left_hand K (suc q) m s p = by (has_room s.used)
  where
    by : (b : Bool) → Every (λ (u : Session). OnConnection K u.here) (cond b (numbered s m (next_id s.used s.last)) (bursts s)).left
    by true = (p, tt)
    by false = tt

pub sends_serve : (K : ℕ → Type 0) (m : AppMessage) (s : Session) → OnConnection K s.here → Every (λ (x : Send). K x.conn) (serve m s).sends
sends_serve K m s p = by (level m.qos (best m.topic s.grants))
  where
    by : (o : Option ℕ) → Every (λ (x : Send). K x.conn) (serve_at o m s).sends
    by None = tt
    by (Some q) = sends_hand K q (sent_as m q false) s p

closes_serve : (K : ℕ → Type 0) (m : AppMessage) (s : Session) → OnConnection K s.here → Every K (serve m s).closes
closes_serve K m s p = by (level m.qos (best m.topic s.grants))
  where
    by : (o : Option ℕ) → Every K (serve_at o m s).closes
    by None = tt
    by (Some q) = closes_hand K q (sent_as m q false) s p

pub left_serve : (K : ℕ → Type 0) (m : AppMessage) (s : Session) → OnConnection K s.here → Every (λ (u : Session). OnConnection K u.here) (serve m s).left
left_serve K m s p = by (level m.qos (best m.topic s.grants))
  where
    by : (o : Option ℕ) → Every (λ (u : Session). OnConnection K u.here) (serve_at o m s).left
    by None = (p, tt)
    by (Some q) = left_hand K q (sent_as m q false) s p

-- ---- routing

one : (K : ℕ → Type 0) (m : AppMessage) (ms : List AppMessage) (t : Turn) → IsIn K t → IsIn K (route_one m (record t { waiting = ms }))
one K m ms t h = record {
  sends = join (λ (x : Send). K x.conn) t.sends _ h.sends (flat (λ (s : Session). OnConnection K s.here) (λ (x : Send). K x.conn) (λ (s : Session). (serve m s).sends) (sends_serve K m) t.broker.sessions h.connections);
  closes = join K t.closes _ h.closes (flat (λ (s : Session). OnConnection K s.here) K (λ (s : Session). (serve m s).closes) (closes_serve K m) t.broker.sessions h.connections);
  newcomers = h.newcomers;
  connections = flat (λ (s : Session). OnConnection K s.here) (λ (s : Session). OnConnection K s.here) (λ (s : Session). (serve m s).left) (left_serve K m) t.broker.sessions h.connections;
}

routed_some : (K : ℕ → Type 0) (n : ℕ) (t : Turn) → IsIn K t → IsIn K (route_some n t)
unfolding route_some
routed_some K zero t h = h
routed_some K (suc n) t h = by t.waiting (λ m ms. routed_some K n (route_one m (record t { waiting = ms })) (one K m ms t h))
  where
    by : (ws : List AppMessage) → ((m : AppMessage) (ms : List AppMessage) → IsIn K (route_some n (route_one m (record t { waiting = ms }))))
        → IsIn K (elim ws as (λ _. Turn) [ [] ↦ t | m ∷ ms ↦ route_some n (route_one m (record t { waiting = ms })) ])
    by [] rest = h
    by (m ∷ ms) rest = rest m ms

routed : (K : ℕ → Type 0) (t : Turn) → IsIn K t → IsIn K (route t)
unfolding route
routed K t h = routed_some K (length t.waiting + length t.broker.sessions) t h

-- ---- the acts

on_each : (K : ℕ → Type 0) (f : Newcomer → Newcomer) (g : Connection → Connection) → ((x : Newcomer) → (f x).conn ≡ x.conn) → ((l : Connection) → (g l).conn ≡ l.conn) → (t : Turn) → IsIn K t → IsIn K (on_connections f g t)
on_each K f g sf sg t h = record {
  sends = h.sends;
  closes = h.closes;
  newcomers = mapped (λ (x : Newcomer). K x.conn) (λ (x : Newcomer). K x.conn) f (λ x p. subst K (sym (sf x)) p) t.broker.newcomers h.newcomers;
  connections = mapped (λ (s : Session). OnConnection K s.here) (λ (s : Session). OnConnection K s.here) (λ (s : Session). record s { here = option_map g s.here }) (λ s p. by s.here p) t.broker.sessions h.connections;
}
  where
    by : (o : Option Connection) → OnConnection K o → OnConnection K (option_map g o)
    by None p = tt
    by (Some l) p = subst K (sym (sg l)) p

newcomer_as : (conn clock : ℕ) (g : Newcomer) → (newcomer_heard conn clock g).conn ≡ g.conn
newcomer_as conn clock g = by (g.conn == conn)
  where
    by : (b : Bool) → (cond b (record g { heard = clock }) g).conn ≡ g.conn
    by true = refl
    by false = refl

newcomer_too : (conn : ℕ) (g : Newcomer) → (newcomer_dropped conn g).conn ≡ g.conn
newcomer_too conn g = by (g.conn == conn)
  where
    by : (b : Bool) → (cond b (record g { drops = one_more g.drops }) g).conn ≡ g.conn
    by true = refl
    by false = refl

connection_as : (conn clock : ℕ) (l : Connection) → (connection_heard conn clock l).conn ≡ l.conn
connection_as conn clock l = by (l.conn == conn)
  where
    by : (b : Bool) → (cond b (record l { heard = clock }) l).conn ≡ l.conn
    by true = refl
    by false = refl

connection_too : (conn : ℕ) (l : Connection) → (connection_dropped conn l).conn ≡ l.conn
connection_too conn l = by (l.conn == conn)
  where
    by : (b : Bool) → (cond b (record l { drops = one_more l.drops }) l).conn ≡ l.conn
    by true = refl
    by false = refl

behind : (K : ℕ → Type 0) (s : Session) → Every (λ (u : Session). OnConnection K u.here) (left_behind s)
behind K s = by s.kept
  where
    by : (b : Bool) → Every (λ (u : Session). OnConnection K u.here) (cond b ((record s { here = None }) ∷ []) [])
    by true = (tt, tt)
    by false = tt

left : (K : ℕ → Type 0) (c : ℕ) (wills : Bool) (t : Turn) (o : Option Session) → IsIn K t → IsIn K (leave_at o c wills t)
left K c wills t None h = record { sends = h.sends; closes = h.closes; newcomers = kept_of (λ (x : Newcomer). K x.conn) (λ (x : Newcomer). not (x.conn == c)) t.broker.newcomers h.newcomers; connections = h.connections }
left K c wills t (Some s) h = record { sends = h.sends; closes = h.closes; newcomers = h.newcomers; connections = swapped K s.key (left_behind s) t.broker.sessions (behind K s) h.connections }

forgotten : (K : ℕ → Type 0) (t : Turn) (o : Option Session) → IsIn K t → IsIn K (forget_at o t)
forgotten K t None h = h
forgotten K t (Some s) h = record { sends = h.sends; closes = h.closes; newcomers = h.newcomers; connections = swapped K s.key [] t.broker.sessions tt h.connections }

again : (K : ℕ → Type 0) (conn : ℕ) (cs : List InFlight) → K conn → Every (λ (x : Send). K x.conn) (resent conn cs)
again K conn [] p = tt
again K conn (c ∷ cs) p = (p, again K conn cs p)

up : (K : ℕ → Type 0) (client : List ℕ) (kept : Bool) (connection : Connection) (t : Turn) (o : Option Session) → K connection.conn → IsIn K t → IsIn K (take_up o client kept connection t)
up K client kept connection t None p h = record {
  sends = join (λ (x : Send). K x.conn) t.sends ((record { conn = connection.conn; packet = ConnAck false 0 }) ∷ []) h.sends (p, tt);
  closes = h.closes;
  newcomers = kept_of (λ (x : Newcomer). K x.conn) (λ (x : Newcomer). not (x.conn == connection.conn)) t.broker.newcomers h.newcomers;
  connections = join (λ (s : Session). OnConnection K s.here) t.broker.sessions (new_session (t.broker.made + 1) client kept connection ∷ []) h.connections (p, tt);
}
up K client kept connection t (Some s) p h = record {
  sends = join (λ (x : Send). K x.conn) t.sends ((record { conn = connection.conn; packet = ConnAck true 0 }) ∷ resent connection.conn s.in_flight) h.sends (p, again K connection.conn s.in_flight p);
  closes = h.closes;
  newcomers = kept_of (λ (x : Newcomer). K x.conn) (λ (x : Newcomer). not (x.conn == connection.conn)) t.broker.newcomers h.newcomers;
  connections = swapped K s.key ((record s { here = Some connection; in_flight = map handed_out s.in_flight }) ∷ []) t.broker.sessions (p, tt) h.connections;
}

accepted : (K : ℕ → Type 0) (c : ℕ) (o : Option Newcomer) (client : List ℕ) (kept : Bool) (alive : ℕ) (will : Option AppMessage) (t : Turn) → find (is_newcomer c) t.broker.newcomers ≡ o → IsIn K t
    → IsIn K (accept_of o client kept alive will t)
accepted K c None client kept alive will t e h = h
accepted K c (Some g) client kept alive will t e h =
    up K client kept (connection_of g alive will) t (away_for kept client t.broker.sessions) (found_newcomer (λ (x : Newcomer). K x.conn) (is_newcomer c) t.broker.newcomers g h.newcomers e) h

of_hand : (K : ℕ → Type 0) (key : ℕ) (app_message : AppMessage) (s : Session) (t : Turn) → OnConnection K s.here → IsIn K t → IsIn K (offer_at (Some s) key app_message t)
of_hand K key app_message s t p h = record {
  sends = join (λ (x : Send). K x.conn) t.sends (hand app_message s).sends h.sends (sends_hand K app_message.qos app_message s p);
  closes = join K t.closes (hand app_message s).closes h.closes (closes_hand K app_message.qos app_message s p);
  newcomers = h.newcomers;
  connections = swapped K key (hand app_message s).left t.broker.sessions (left_hand K app_message.qos app_message s p) h.connections;
}

offered_at : (K : ℕ → Type 0) (key : ℕ) (app_message : AppMessage) (t : Turn) (o : Option Session) → with_key key t.broker.sessions ≡ o → IsIn K t → IsIn K (offer_at o key app_message t)
offered_at K key app_message t None e h = h
offered_at K key app_message t (Some s) e h = of_hand K key app_message s t (found (λ (u : Session). OnConnection K u.here) (λ (x : Session). x.key == key) t.broker.sessions s h.connections e) h

offers : (K : ℕ → Type 0) (key : ℕ) (app_messages : List AppMessage) (t : Turn) → IsIn K t → IsIn K (fold (offer key) t app_messages)
offers K key [] t h = h
offers K key (p ∷ ps) t h = offers K key ps (offer key t p) (offered_at K key p t (with_key key t.broker.sessions) refl h)

-- who sits somewhere is one of these
sat_there : (K : ℕ → Type 0) (conn : ℕ) (ss : List Session) (s : Session) → Every (λ (u : Session). OnConnection K u.here) ss → session_by conn ss ≡ Some s → K conn
sat_there K conn [] s a e = no_some s e
sat_there K conn (t ∷ ts) s a e = by t.here a.0 e (λ f. sat_there K conn ts s a.1 f)
  where
    on : (l : Connection) → K l.conn → (((l.conn == conn) ≡ true) × (l.conn ≡ conn)) ⊎ (((l.conn == conn) ≡ false) × (l.conn ≢ conn))
        → cond (l.conn == conn) (Some t) (find (sits conn) ts) ≡ Some s → (find (sits conn) ts ≡ Some s → K conn) → K conn
    on l p (inl is) f rest = subst K is.1 p
    on l p (inr is) f rest = rest (sym (ap (λ b. cond b (Some t) (find (sits conn) ts)) is.0) ∙ f)

    by : (o : Option Connection) → OnConnection K o → cond (option_map_or (λ (l : Connection). l.conn == conn) o false) (Some t) (find (sits conn) ts) ≡ Some s → (find (sits conn) ts ≡ Some s → K conn) → K conn
    by None p f rest = rest f
    by (Some l) p f rest = on l p (eqb_tells l.conn conn) f rest

given : (K : ℕ → Type 0) (c id : ℕ) (entries : List (List ℕ × ℕ)) (t : Turn) (o : Option Session) → session_by c t.broker.sessions ≡ o → IsIn K t → IsIn K (give_at o c id entries t)
given K c id entries t None e h = h
given K c id entries t (Some s) e h =
    offers K s.key (flat_map (offers_to t.broker.retained) (granted_of (other_grants s t.broker.sessions) s.grants entries)) _ (record {
      sends = join (λ (x : Send). K x.conn) t.sends ((record { conn = c; packet = SubAck id (codes_of (other_grants s t.broker.sessions) s.grants entries) }) ∷ []) h.sends (sat_there K c t.broker.sessions s h.connections e, tt);
      closes = h.closes;
      newcomers = h.newcomers;
      connections = swapped K s.key ((record s { grants = fold (with_entry (other_grants s t.broker.sessions)) s.grants entries }) ∷ []) t.broker.sessions (found (λ (u : Session). OnConnection K u.here) (sits c) t.broker.sessions s h.connections e, tt) h.connections;
    })

taken : (K : ℕ → Type 0) (c : ℕ) (filters : List (List ℕ)) (t : Turn) (o : Option Session) → session_by c t.broker.sessions ≡ o → IsIn K t → IsIn K (take_at o filters t)
taken K c filters t None e h = h
taken K c filters t (Some s) e h =
    record { sends = h.sends; closes = h.closes; newcomers = h.newcomers; connections = swapped K s.key _ t.broker.sessions (found (λ (u : Session). OnConnection K u.here) (sits c) t.broker.sessions s h.connections e, tt) h.connections }

acked : (K : ℕ → Type 0) (c id : ℕ) (t : Turn) (o : Option Session) → session_by c t.broker.sessions ≡ o → IsIn K t → IsIn K (ack_at o id t)
acked K c id t None e h = h
acked K c id t (Some s) e h =
    record { sends = h.sends; closes = h.closes; newcomers = h.newcomers; connections = swapped K s.key _ t.broker.sessions (found (λ (u : Session). OnConnection K u.here) (sits c) t.broker.sessions s h.connections e, tt) h.connections }

-- an act that opens no connection, and says and closes these alone
abbrev pub Fits : (ℕ → Type 0) → Act → Type 0
Fits K Opens = ⊥
Fits K (Say conn packet) = K conn
Fits K (Tell conn) = K conn
Fits K _ = Unit {0}

kept_by : (K : ℕ → Type 0) (a : Act) → Fits K a → (t : Turn) → IsIn K t → IsIn K (act a t)
kept_by K Opens f t h = elim f [ ]
kept_by K (At moment) f t h = record { sends = h.sends; closes = h.closes; newcomers = h.newcomers; connections = h.connections }
kept_by K (Hear c) f t h = on_each K (newcomer_heard c t.broker.clock) (connection_heard c t.broker.clock) (newcomer_as c t.broker.clock) (connection_as c t.broker.clock) t h
kept_by K (Drop c) f t h = on_each K (newcomer_dropped c) (connection_dropped c) (newcomer_too c) (connection_too c) t h
kept_by K (Say c p) f t h = record { sends = join (λ (x : Send). K x.conn) t.sends ((record { conn = c; packet = p }) ∷ []) h.sends (f, tt); closes = h.closes; newcomers = h.newcomers; connections = h.connections }
kept_by K (Leave c wills) f t h = left K c wills t (session_by c t.broker.sessions) h
kept_by K (Tell c) f t h = record { sends = h.sends; closes = join K t.closes (c ∷ []) h.closes (f, tt); newcomers = h.newcomers; connections = h.connections }
kept_by K (Queue app_message) f t h = record { sends = h.sends; closes = h.closes; newcomers = h.newcomers; connections = h.connections }
kept_by K Route f t h = routed K t h
kept_by K (Forget client) f t h = forgotten K t (find (is_away client) t.broker.sessions) h
kept_by K (Accept c client kept alive will) f t h = accepted K c (find (is_newcomer c) t.broker.newcomers) client kept alive will t refl h
kept_by K (Give c id entries) f t h = given K c id entries t (session_by c t.broker.sessions) refl h
kept_by K (Take c filters) f t h = taken K c filters t (session_by c t.broker.sessions) refl h
kept_by K (Ack c id) f t h = acked K c id t (session_by c t.broker.sessions) refl h

abbrev pub AllFit : (ℕ → Type 0) → List Act → Type 0
AllFit K [] = Unit {0}
AllFit K (a ∷ as_list) = Fits K a × AllFit K as_list

pub kept_by_all : (K : ℕ → Type 0) (as_list : List Act) → AllFit K as_list → (t : Turn) → IsIn K t → IsIn K (acts as_list t)
kept_by_all K [] f t h = h
kept_by_all K (a ∷ as_list) f t h = kept_by_all K as_list f.1 (act a t) (kept_by K a f.0 t h)

-- who is silent, and who is taken over, is one of these
pub silent_in : (K : ℕ → Type 0) (clock : ℕ) (ss : List Session) → Every (λ (s : Session). OnConnection K s.here) ss → Every K (flat_map (silent_at clock) ss)
silent_in K clock ss a = flat (λ (s : Session). OnConnection K s.here) K (silent_at clock) (λ s p. by s.here p) ss a
  where
    on : (l : Connection) (b : Bool) → K l.conn → Every K (cond b (l.conn ∷ []) [])
    on l true p = (p, tt)
    on l false p = tt

    by : (o : Option Connection) → OnConnection K o → Every K (option_map_or (λ (l : Connection). cond (is_silent clock l.alive l.heard) (l.conn ∷ []) []) o [])
    by None p = tt
    by (Some l) p = on l (is_silent clock l.alive l.heard) p
