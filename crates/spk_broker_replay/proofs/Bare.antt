-- Acts do the same to data without time and drops.
use Rattle.std.proofs.Common.{◌≡◌, ℕ, zero, suc, ◌+◌, ◌-◌, Bool, true, false, not, ◌&&◌, cond, eqb, List, [], ◌∷◌, ◌++◌, map, length, refl, sym, ◌∙◌, ap, ap₂, Option, Some, None}
use Rattle.std.specs.List.{find, fold, flat_map}
use Rattle.std.specs.Option.{option_map, option_map_or, is_some}
use Rattle.std.specs.Str.{bytes_eq}
use Rattle.std.proofs.lemmas.List.{map-append, length-map}
use Rattle.spk_session.specs.PacketIds.{next_id}
use Rattle.spk_session.specs.Step.{has_room, without, one_more}
use Rattle.spk_packets.specs.Message.{SubAck}
use Rattle.spk_broker_rules.specs.Data.{AppMessage, InFlight, Connection, Newcomer, Session, Stored}
use Rattle.spk_broker_rules.specs.Table.{Table, remove}
use Rattle.spk_broker_rules.specs.Words.{best, level, sent_as, option_list, handed_out, without_id, offers_to, granted_of, codes_of, with_entry}
use Rattle.spk_broker_rules.specs.Plan.{Act, Opens, At, Hear, Drop, Say, Leave, Tell, Queue, Route, Forget, Accept, Give, Take, Ack}
use Rattle.spk_broker_rules.specs.Step.{Turn, act, acts, opens, on_connections, newcomer_heard, connection_heard, newcomer_dropped, connection_dropped, conn_at, sits, session_by, is_newcomer, other_newcomers, is_away, swap, with_sessions, bursts, numbered, hand_at, hand, serve_at, serve, retained_with, route_one, route_some, route, most, left_behind, will_at, leave_at, forget_at, connection_of, new_session, take_up, away_for, accept_of, offer_at, with_key, offer, all_grants, other_grants, give_with, give_at, take_at, ack_at}
use Rattle.spk_broker_rules.proofs.Lists.{find-map, filter-map, map-map, flat_map-map}
use Rattle.spk_broker_replay.specs.Replay.{bare_connection, bare_newcomer, bare_session}

-- a turn without time, drops, sends and closes
abbrev pub turn_with : ℕ → ℕ → List Newcomer → List Session → Table Stored → List AppMessage → Turn
turn_with given made newcomers sessions retained waiting = record {
  broker = record { limit = 0; given = given; made = made; clock = 0; newcomers = newcomers; sessions = sessions; retained = retained };
  sends = [];
  closes = [];
  waiting = waiting;
}

abbrev pub strip : Turn → Turn
strip t = turn_with t.broker.given t.broker.made (map bare_newcomer t.broker.newcomers) (map bare_session t.broker.sessions) t.broker.retained t.waiting

-- ---- twice is once

here-twice : (o : Option Connection) → option_map bare_connection (option_map bare_connection o) ≡ option_map bare_connection o
here-twice None = refl
here-twice (Some l) = refl

pub session-twice : (s : Session) → bare_session (bare_session s) ≡ bare_session s
session-twice s = ap (λ o. record s { here = o }) (here-twice s.here)

pub newcomers-twice : (gs : List Newcomer) → map bare_newcomer (map bare_newcomer gs) ≡ map bare_newcomer gs
newcomers-twice gs = map-map bare_newcomer bare_newcomer bare_newcomer (λ g. refl) gs

pub sessions-twice : (ss : List Session) → map bare_session (map bare_session ss) ≡ map bare_session ss
sessions-twice ss = map-map bare_session bare_session bare_session session-twice ss

pub strip-twice : (t : Turn) → strip (strip t) ≡ strip t
strip-twice t = ap₂ (λ gs ss. turn_with t.broker.given t.broker.made gs ss t.broker.retained t.waiting) (newcomers-twice t.broker.newcomers) (sessions-twice t.broker.sessions)

-- ---- looking up

connection-conn : (c : ℕ) (o : Option Connection) → option_map_or (λ (l : Connection). eqb l.conn c) (option_map bare_connection o) false ≡ option_map_or (λ (l : Connection). eqb l.conn c) o false
connection-conn c None = refl
connection-conn c (Some l) = refl

pub sits-bare : (c : ℕ) (s : Session) → sits c (bare_session s) ≡ sits c s
sits-bare c s = connection-conn c s.here

pub here-bare : (o : Option Connection) → is_some (option_map bare_connection o) ≡ is_some o
here-bare None = refl
here-bare (Some l) = refl

pub conn-bare : (s : Session) → conn_at (bare_session s) ≡ conn_at s
conn-bare s = by s.here
  where
    by : (o : Option Connection) → option_map (λ (l : Connection). l.conn) (option_map bare_connection o) ≡ option_map (λ (l : Connection). l.conn) o
    by None = refl
    by (Some l) = refl

away-bare : (client : List ℕ) (s : Session) → is_away client (bare_session s) ≡ is_away client s
away-bare client s = ap (λ h. s.kept && (not h && bytes_eq s.client client)) (here-bare s.here)

pub session_by-bare : (c : ℕ) (ss : List Session) → session_by c (map bare_session ss) ≡ option_map bare_session (session_by c ss)
session_by-bare c ss = find-map bare_session (sits c) (sits c) (sits-bare c) ss

pub newcomer_at-bare : (c : ℕ) (gs : List Newcomer) → find (is_newcomer c) (map bare_newcomer gs) ≡ option_map bare_newcomer (find (is_newcomer c) gs)
newcomer_at-bare c gs = find-map bare_newcomer (is_newcomer c) (is_newcomer c) (λ g. refl) gs

found-away-bare : (client : List ℕ) (ss : List Session) → find (is_away client) (map bare_session ss) ≡ option_map bare_session (find (is_away client) ss)
found-away-bare client ss = find-map bare_session (is_away client) (is_away client) (away-bare client) ss

key-bare : (key : ℕ) (ss : List Session) → with_key key (map bare_session ss) ≡ option_map bare_session (with_key key ss)
key-bare key ss = find-map bare_session (λ (s : Session). eqb s.key key) (λ (s : Session). eqb s.key key) (λ s. refl) ss

-- ---- lists

-- sessions that are made of sessions
flat-through : (f : Session → List Session) → ((s : Session) → map bare_session (f s) ≡ map bare_session (f (bare_session s)))
    → (ss : List Session) → map bare_session (flat_map f ss) ≡ map bare_session (flat_map f (map bare_session ss))
flat-through f h [] = refl
flat-through f h (s ∷ ss) =
    map-append bare_session (f s) (flat_map f ss)
    ∙ ap₂ (λ xs ys. xs ++ ys) (h s) (flat-through f h ss)
    ∙ sym (map-append bare_session (f (bare_session s)) (flat_map f (map bare_session ss)))

swap-through : (key : ℕ) (new other ss : List Session) → map bare_session new ≡ map bare_session other → map bare_session (swap key new ss) ≡ map bare_session (swap key other (map bare_session ss))
swap-through key new other [] e = refl
swap-through key new other (s ∷ ss) e =
    map-append bare_session (cond (eqb s.key key) new (s ∷ [])) (swap key new ss)
    ∙ ap₂ (λ xs ys. xs ++ ys) (by (eqb s.key key)) (swap-through key new other ss e)
    ∙ sym (map-append bare_session (cond (eqb s.key key) other (bare_session s ∷ [])) (swap key other (map bare_session ss)))
  where
    by : (b : Bool) → map bare_session (cond b new (s ∷ [])) ≡ map bare_session (cond b other (bare_session s ∷ []))
    by true = e
    by false = ap (λ x. x ∷ []) (sym (session-twice s))

others-through : (c : ℕ) (gs : List Newcomer) → map bare_newcomer (other_newcomers c gs) ≡ map bare_newcomer (other_newcomers c (map bare_newcomer gs))
others-through c gs =
    sym (newcomers-twice (other_newcomers c gs))
    ∙ ap (map bare_newcomer) (sym (filter-map bare_newcomer (λ (g : Newcomer). not (eqb g.conn c)) (λ (g : Newcomer). not (eqb g.conn c)) (λ g. refl) gs))

-- ---- one message and one session

will-bare : (o : Option Connection) → option_map_or (λ (l : Connection). option_list l.will) o [] ≡ option_map_or (λ (l : Connection). option_list l.will) (option_map bare_connection o) []
will-bare None = refl
will-bare (Some l) = refl

hand-left : (q : ℕ) (app_message : AppMessage) (s : Session) → map bare_session (hand_at q app_message s).left ≡ map bare_session (hand_at q app_message (bare_session s)).left
hand-left zero app_message s = ap (λ x. x ∷ []) (sym (session-twice s))
hand-left (suc q) app_message s = by (has_room s.used)
  where
    id : ℕ
    id = next_id s.used s.last

    message : Bool → List InFlight
    message h = cond s.kept (s.in_flight ++ (record { id = id; app_message = app_message; handed = h }) ∷ []) s.in_flight

    numbered-left : map bare_session (numbered s app_message id).left ≡ map bare_session (numbered (bare_session s) app_message id).left
    numbered-left = ap₂ (λ o h. (record s { here = o; used = s.used ++ id ∷ []; last = id; in_flight = message h }) ∷ []) (sym (here-twice s.here)) (sym (here-bare s.here))

    by : (b : Bool) → map bare_session (cond b (numbered s app_message id) (bursts s)).left ≡ map bare_session (cond b (numbered (bare_session s) app_message id) (bursts (bare_session s))).left
    by true = numbered-left
    by false = refl

hand-wills : (q : ℕ) (app_message : AppMessage) (s : Session) → (hand_at q app_message s).wills ≡ (hand_at q app_message (bare_session s)).wills
hand-wills zero app_message s = refl
hand-wills (suc q) app_message s = by (has_room s.used)
  where
    id : ℕ
    id = next_id s.used s.last

    by : (b : Bool) → (cond b (numbered s app_message id) (bursts s)).wills ≡ (cond b (numbered (bare_session s) app_message id) (bursts (bare_session s))).wills
    by true = refl
    by false = will-bare s.here

serve-left : (m : AppMessage) (s : Session) → map bare_session (serve m s).left ≡ map bare_session (serve m (bare_session s)).left
serve-left m s = by (level m.qos (best m.topic s.grants))
  where
    by : (o : Option ℕ) → map bare_session (serve_at o m s).left ≡ map bare_session (serve_at o m (bare_session s)).left
    by None = ap (λ x. x ∷ []) (sym (session-twice s))
    by (Some q) = hand-left q (sent_as m q false) s

serve-wills : (m : AppMessage) (s : Session) → (serve m (bare_session s)).wills ≡ (serve m s).wills
serve-wills m s = by (level m.qos (best m.topic s.grants))
  where
    by : (o : Option ℕ) → (serve_at o m (bare_session s)).wills ≡ (serve_at o m s).wills
    by None = refl
    by (Some q) = sym (hand-wills q (sent_as m q false) s)

-- ---- routing

one-through : (m : AppMessage) (t : Turn) → strip (route_one m t) ≡ strip (route_one m (strip t))
one-through m t =
    ap (λ gs. turn_with t.broker.given t.broker.made gs (map bare_session (flat_map (λ (s : Session). (serve m s).left) t.broker.sessions)) (retained_with t.broker.retained m) (t.waiting ++ flat_map (λ (s : Session). (serve m s).wills) t.broker.sessions))
    (sym (newcomers-twice t.broker.newcomers))
    ∙ ap₂ (λ ss ws. turn_with t.broker.given t.broker.made (map bare_newcomer (map bare_newcomer t.broker.newcomers)) ss (retained_with t.broker.retained m) (t.waiting ++ ws))
    (flat-through (λ (s : Session). (serve m s).left) (serve-left m) t.broker.sessions)
    (sym (flat_map-map bare_session (λ (s : Session). (serve m s).wills) (λ (s : Session). (serve m s).wills) (serve-wills m) t.broker.sessions))

abbrev waits : Turn → List AppMessage → Turn
waits t ms = record t { waiting = ms }

one-alike : (m : AppMessage) (t u : Turn) → strip t ≡ strip u → strip (route_one m t) ≡ strip (route_one m u)
one-alike m t u e = one-through m t ∙ ap (λ x. strip (route_one m x)) e ∙ sym (one-through m u)

some-done : (n : ℕ) (t : Turn) → t.waiting ≡ [] → route_some n t ≡ t
unfolding route_some
some-done zero t is = refl
some-done (suc n) t is = rw is refl

some-next : (n : ℕ) (m : AppMessage) (ms : List AppMessage) (t : Turn) → t.waiting ≡ m ∷ ms → route_some (suc n) t ≡ route_some n (route_one m (waits t ms))
unfolding route_some
some-next n m ms t is = rw is refl

some-none : (t : Turn) → route_some 0 t ≡ t
unfolding route_some
some-none t = refl

some-alike : (n : ℕ) (t u : Turn) → strip t ≡ strip u → strip (route_some n t) ≡ strip (route_some n u)
some-alike zero t u e = ap strip (some-none t) ∙ e ∙ ap strip (sym (some-none u))
some-alike (suc n) t u e = by t.waiting refl (sym (ap (λ (x : Turn). x.waiting) e))
    (λ m ms. some-alike n (route_one m (waits t ms)) (route_one m (waits u ms)) (one-alike m (waits t ms) (waits u ms) (ap (λ (x : Turn). waits x ms) e)))
  where
    by : (ws : List AppMessage) → t.waiting ≡ ws → u.waiting ≡ t.waiting
        → ((m : AppMessage) (ms : List AppMessage) → strip (route_some n (route_one m (waits t ms))) ≡ strip (route_some n (route_one m (waits u ms))))
        → strip (route_some (suc n) t) ≡ strip (route_some (suc n) u)
    by [] is same rest = ap strip (some-done (suc n) t is) ∙ e ∙ ap strip (sym (some-done (suc n) u (same ∙ is)))
    by (m ∷ ms) is same rest = ap strip (some-next n m ms t is) ∙ rest m ms ∙ ap strip (sym (some-next n m ms u (same ∙ is)))

sessions-many : (ss : List Session) → length (map bare_session ss) ≡ length ss
sessions-many ss = length-map ss bare_session

most-alike : (t u : Turn) → strip t ≡ strip u → most t ≡ most u
most-alike t u e = ap₂ (λ (x y : ℕ). x + y)
    (ap (λ (x : Turn). length x.waiting) e)
    (sym (sessions-many t.broker.sessions) ∙ ap (λ (x : Turn). length x.broker.sessions) e ∙ sessions-many u.broker.sessions)

pub route-alike : (t u : Turn) → strip t ≡ strip u → strip (route t) ≡ strip (route u)
unfolding route
route-alike t u e = ap (λ n. strip (route_some n t)) (most-alike t u e) ∙ some-alike (most u) t u e

-- ---- the acts

newcomers-again : (t : Turn) (ss : List Session) (ws : List AppMessage) → turn_with t.broker.given t.broker.made (map bare_newcomer t.broker.newcomers) ss t.broker.retained ws
    ≡ turn_with t.broker.given t.broker.made (map bare_newcomer (map bare_newcomer t.broker.newcomers)) ss t.broker.retained ws
newcomers-again t ss ws = ap (λ gs. turn_with t.broker.given t.broker.made gs ss t.broker.retained ws) (sym (newcomers-twice t.broker.newcomers))

open-through : (t : Turn) → strip (opens t) ≡ strip (opens (strip t))
open-through t = ap₂ (λ gs ss. turn_with (t.broker.given + 1) t.broker.made gs ss t.broker.retained t.waiting)
    (map-append bare_newcomer t.broker.newcomers ((record { conn = t.broker.given + 1; heard = t.broker.clock; drops = 0 }) ∷ [])
    ∙ ap (λ gs. gs ++ (record { conn = t.broker.given + 1; heard = 0; drops = 0 }) ∷ []) (sym (newcomers-twice t.broker.newcomers))
    ∙ sym (map-append bare_newcomer (map bare_newcomer t.broker.newcomers) ((record { conn = t.broker.given + 1; heard = 0; drops = 0 }) ∷ [])))
    (sym (sessions-twice t.broker.sessions))

newcomer-heard : (c k : ℕ) (g : Newcomer) → bare_newcomer (newcomer_heard c k g) ≡ bare_newcomer g
newcomer-heard c k g = by (eqb g.conn c)
  where
    by : (b : Bool) → bare_newcomer (cond b (record g { heard = k }) g) ≡ bare_newcomer g
    by true = refl
    by false = refl

newcomer-dropped : (c : ℕ) (g : Newcomer) → bare_newcomer (newcomer_dropped c g) ≡ bare_newcomer g
newcomer-dropped c g = by (one_more g.drops) (eqb g.conn c)
  where
    by : (n : ℕ) (b : Bool) → bare_newcomer (cond b (record g { drops = n }) g) ≡ bare_newcomer g
    by n true = refl
    by n false = refl

session-heard : (c k : ℕ) (s : Session) → bare_session (record s { here = option_map (connection_heard c k) s.here }) ≡ bare_session s
session-heard c k s = ap (λ o. record s { here = o }) (by s.here)
  where
    one : (l : Connection) (b : Bool) → bare_connection (cond b (record l { heard = k }) l) ≡ bare_connection l
    one l true = refl
    one l false = refl

    by : (o : Option Connection) → option_map bare_connection (option_map (connection_heard c k) o) ≡ option_map bare_connection o
    by None = refl
    by (Some l) = ap Some (one l (eqb l.conn c))

session-dropped : (c : ℕ) (s : Session) → bare_session (record s { here = option_map (connection_dropped c) s.here }) ≡ bare_session s
session-dropped c s = ap (λ o. record s { here = o }) (by s.here)
  where
    one : (l : Connection) (n : ℕ) (b : Bool) → bare_connection (cond b (record l { drops = n }) l) ≡ bare_connection l
    one l n true = refl
    one l n false = refl

    by : (o : Option Connection) → option_map bare_connection (option_map (connection_dropped c) o) ≡ option_map bare_connection o
    by None = refl
    by (Some l) = ap Some (one l (one_more l.drops) (eqb l.conn c))

pub heard-same : (c k : ℕ) (t : Turn) → strip (on_connections (newcomer_heard c k) (connection_heard c k) t) ≡ strip t
heard-same c k t = ap₂ (λ gs ss. turn_with t.broker.given t.broker.made gs ss t.broker.retained t.waiting)
    (map-map (newcomer_heard c k) bare_newcomer bare_newcomer (newcomer-heard c k) t.broker.newcomers)
    (map-map (λ (s : Session). record s { here = option_map (connection_heard c k) s.here }) bare_session bare_session (session-heard c k) t.broker.sessions)

pub dropped-same : (c : ℕ) (t : Turn) → strip (on_connections (newcomer_dropped c) (connection_dropped c) t) ≡ strip t
dropped-same c t = ap₂ (λ gs ss. turn_with t.broker.given t.broker.made gs ss t.broker.retained t.waiting)
    (map-map (newcomer_dropped c) bare_newcomer bare_newcomer (newcomer-dropped c) t.broker.newcomers)
    (map-map (λ (s : Session). record s { here = option_map (connection_dropped c) s.here }) bare_session bare_session (session-dropped c) t.broker.sessions)

-- sessions that are swapped, and what waits then
swap-act : (t : Turn) (key : ℕ) (new other : List Session) (ws us : List AppMessage) → map bare_session new ≡ map bare_session other → ws ≡ us
    → strip (record (with_sessions (swap key new t.broker.sessions) t) { waiting = ws }) ≡ strip (record (with_sessions (swap key other (map bare_session t.broker.sessions)) (strip t)) { waiting = us })
swap-act t key new other ws us e f =
    newcomers-again t (map bare_session (swap key new t.broker.sessions)) ws
    ∙ ap₂ (λ ss xs. turn_with t.broker.given t.broker.made (map bare_newcomer (map bare_newcomer t.broker.newcomers)) ss t.broker.retained xs) (swap-through key new other t.broker.sessions e) f

will_at-bare : (wills : Bool) (s : Session) → will_at wills s ≡ will_at wills (bare_session s)
will_at-bare true s = will-bare s.here
will_at-bare false s = refl

leave-through : (o : Option Session) (c : ℕ) (wills : Bool) (t : Turn) → strip (leave_at o c wills t) ≡ strip (leave_at (option_map bare_session o) c wills (strip t))
leave-through None c wills t = ap₂ (λ gs ss. turn_with t.broker.given t.broker.made gs ss t.broker.retained t.waiting) (others-through c t.broker.newcomers) (sym (sessions-twice t.broker.sessions))
leave-through (Some s) c wills t = swap-act t s.key (left_behind s) (left_behind s) (t.waiting ++ will_at wills s) (t.waiting ++ will_at wills (bare_session s)) refl (ap (λ ws. t.waiting ++ ws) (will_at-bare wills s))

forget-through : (o : Option Session) (t : Turn) → strip (forget_at o t) ≡ strip (forget_at (option_map bare_session o) (strip t))
forget-through None t = sym (strip-twice t)
forget-through (Some s) t = swap-act t s.key [] [] t.waiting t.waiting refl refl

take_up-through : (o : Option Session) (client : List ℕ) (kept : Bool) (g : Newcomer) (alive other : ℕ) (will : Option AppMessage) (t : Turn)
    → strip (take_up o client kept (connection_of g alive will) t) ≡ strip (take_up (option_map bare_session o) client kept (connection_of (bare_newcomer g) other will) (strip t))
take_up-through None client kept g alive other will t = ap₂ (λ gs ss. turn_with t.broker.given (t.broker.made + 1) gs ss t.broker.retained t.waiting)
    (others-through g.conn t.broker.newcomers)
    (map-append bare_session t.broker.sessions (new_session (t.broker.made + 1) client kept (connection_of g alive will) ∷ [])
    ∙ ap (λ ss. ss ++ bare_session (new_session (t.broker.made + 1) client kept (connection_of g alive will)) ∷ []) (sym (sessions-twice t.broker.sessions))
    ∙ sym (map-append bare_session (map bare_session t.broker.sessions) (new_session (t.broker.made + 1) client kept (connection_of (bare_newcomer g) other will) ∷ [])))
take_up-through (Some s) client kept g alive other will t = ap₂ (λ gs ss. turn_with t.broker.given t.broker.made gs ss t.broker.retained t.waiting)
    (others-through g.conn t.broker.newcomers)
    (swap-through s.key ((record s { here = Some (connection_of g alive will); in_flight = map handed_out s.in_flight }) ∷ [])
    ((record s { here = Some (connection_of (bare_newcomer g) other will); in_flight = map handed_out s.in_flight }) ∷ []) t.broker.sessions refl)

away_for-bare : (kept : Bool) (client : List ℕ) (ss : List Session) → away_for kept client (map bare_session ss) ≡ option_map bare_session (away_for kept client ss)
away_for-bare true client ss = found-away-bare client ss
away_for-bare false client ss = refl

pub accept-through : (o : Option Newcomer) (client : List ℕ) (kept : Bool) (alive other : ℕ) (will : Option AppMessage) (t : Turn)
    → strip (accept_of o client kept alive will t) ≡ strip (accept_of (option_map bare_newcomer o) client kept other will (strip t))
accept-through None client kept alive other will t = sym (strip-twice t)
accept-through (Some g) client kept alive other will t =
    take_up-through (away_for kept client t.broker.sessions) client kept g alive other will t
    ∙ ap (λ o. strip (take_up o client kept (connection_of (bare_newcomer g) other will) (strip t))) (sym (away_for-bare kept client t.broker.sessions))

-- ---- offers

offer-through : (o : Option Session) (key : ℕ) (app_message : AppMessage) (t : Turn) → strip (offer_at o key app_message t) ≡ strip (offer_at (option_map bare_session o) key app_message (strip t))
offer-through None key app_message t = sym (strip-twice t)
offer-through (Some s) key app_message t =
    swap-act t key (hand app_message s).left (hand app_message (bare_session s)).left (t.waiting ++ (hand app_message s).wills) (t.waiting ++ (hand app_message (bare_session s)).wills)
    (hand-left app_message.qos app_message s) (ap (λ ws. t.waiting ++ ws) (hand-wills app_message.qos app_message s))

offer-alike : (key : ℕ) (app_message : AppMessage) (t u : Turn) → strip t ≡ strip u → strip (offer key t app_message) ≡ strip (offer key u app_message)
offer-alike key app_message t u e = once t ∙ ap (λ (x : Turn). strip (offer key x app_message)) e ∙ sym (once u)
  where
    once : (x : Turn) → strip (offer key x app_message) ≡ strip (offer key (strip x) app_message)
    once x = offer-through (with_key key x.broker.sessions) key app_message x ∙ ap (λ o. strip (offer_at o key app_message (strip x))) (sym (key-bare key x.broker.sessions))

offers-alike : (key : ℕ) (app_messages : List AppMessage) (t u : Turn) → strip t ≡ strip u → strip (fold (offer key) t app_messages) ≡ strip (fold (offer key) u app_messages)
offers-alike key [] t u e = e
offers-alike key (m ∷ ms) t u e = offers-alike key ms (offer key t m) (offer key u m) (offer-alike key m t u e)

grants-bare : (ss : List Session) → all_grants (map bare_session ss) ≡ all_grants ss
grants-bare ss = ap length (flat_map-map bare_session (λ (s : Session). s.grants) (λ (s : Session). s.grants) (λ s. refl) ss)

pub other_grants-bare : (s : Session) (ss : List Session) → other_grants (bare_session s) (map bare_session ss) ≡ other_grants s ss
other_grants-bare s ss = ap (λ n. n - length s.grants) (grants-bare ss)

-- a session with other grants, identifiers and messages in flight
changed-session : (s : Session) (grants : Table ℕ) (used : List ℕ) (in_flight : List InFlight) → map bare_session ((record s { grants = grants; used = used; in_flight = in_flight }) ∷ [])
    ≡ map bare_session ((record (bare_session s) { grants = grants; used = used; in_flight = in_flight }) ∷ [])
changed-session s grants used in_flight = ap (λ o. (record s { here = o; grants = grants; used = used; in_flight = in_flight }) ∷ []) (sym (here-twice s.here))

with-through : (others : ℕ) (s : Session) (c id : ℕ) (entries : List (List ℕ × ℕ)) (t : Turn)
    → strip (give_with others s c id entries t) ≡ strip (give_with others (bare_session s) c id entries (strip t))
with-through others s c id entries t = offers-alike s.key (flat_map (offers_to t.broker.retained) (granted_of others s.grants entries))
    (record (with_sessions (swap s.key ((record s { grants = fold (with_entry others) s.grants entries }) ∷ []) t.broker.sessions) t) {
      sends = t.sends ++ (record { conn = c; packet = SubAck id (codes_of others s.grants entries) }) ∷ [];
    })
    (record (with_sessions (swap s.key ((record (bare_session s) { grants = fold (with_entry others) s.grants entries }) ∷ []) (map bare_session t.broker.sessions)) (strip t)) {
      sends = [] ++ (record { conn = c; packet = SubAck id (codes_of others s.grants entries) }) ∷ [];
    })
    (swap-act t s.key ((record s { grants = fold (with_entry others) s.grants entries }) ∷ []) ((record (bare_session s) { grants = fold (with_entry others) s.grants entries }) ∷ []) t.waiting t.waiting
    (changed-session s (fold (with_entry others) s.grants entries) s.used s.in_flight) refl)

give-through : (o : Option Session) (c id : ℕ) (entries : List (List ℕ × ℕ)) (t : Turn) → strip (give_at o c id entries t) ≡ strip (give_at (option_map bare_session o) c id entries (strip t))
give-through None c id entries t = sym (strip-twice t)
give-through (Some s) c id entries t =
    with-through (other_grants s t.broker.sessions) s c id entries t
    ∙ ap (λ n. strip (give_with n (bare_session s) c id entries (strip t))) (sym (other_grants-bare s t.broker.sessions))

take-through : (o : Option Session) (filters : List (List ℕ)) (t : Turn) → strip (take_at o filters t) ≡ strip (take_at (option_map bare_session o) filters (strip t))
take-through None filters t = sym (strip-twice t)
take-through (Some s) filters t = swap-act t s.key ((record s { grants = fold (λ g f. remove f g) s.grants filters }) ∷ []) ((record (bare_session s) { grants = fold (λ g f. remove f g) s.grants filters }) ∷ []) t.waiting t.waiting
    (changed-session s (fold (λ g f. remove f g) s.grants filters) s.used s.in_flight) refl

ack-through : (o : Option Session) (id : ℕ) (t : Turn) → strip (ack_at o id t) ≡ strip (ack_at (option_map bare_session o) id (strip t))
ack-through None id t = sym (strip-twice t)
ack-through (Some s) id t = swap-act t s.key ((record s { used = without id s.used; in_flight = without_id id s.in_flight }) ∷ []) ((record (bare_session s) { used = without id s.used; in_flight = without_id id s.in_flight }) ∷ []) t.waiting t.waiting
    (changed-session s s.grants (without id s.used) (without_id id s.in_flight)) refl

-- ---- any act

-- an act with a keep alive of one second
abbrev pub bare_act : Act → Act
bare_act Opens = Opens
bare_act (At moment) = At moment
bare_act (Hear c) = Hear c
bare_act (Drop c) = Drop c
bare_act (Say c p) = Say c p
bare_act (Leave c wills) = Leave c wills
bare_act (Tell c) = Tell c
bare_act (Queue app_message) = Queue app_message
bare_act Route = Route
bare_act (Forget client) = Forget client
bare_act (Accept c client kept alive will) = Accept c client kept 1 will
bare_act (Give c id entries) = Give c id entries
bare_act (Take c filters) = Take c filters
bare_act (Ack c id) = Ack c id

same-through : (f : Turn → Turn) → ((x : Turn) → strip (f x) ≡ strip x) → (t : Turn) → strip (f t) ≡ strip (f (strip t))
same-through f h t = h t ∙ sym (strip-twice t) ∙ sym (h (strip t))

accepted : (c : ℕ) (client : List ℕ) (kept : Bool) (alive other : ℕ) (will : Option AppMessage) (t : Turn)
    → strip (act (Accept c client kept alive will) t) ≡ strip (act (Accept c client kept other will) (strip t))
accepted c client kept alive other will t =
    accept-through (find (is_newcomer c) t.broker.newcomers) client kept alive other will t
    ∙ ap (λ o. strip (accept_of o client kept other will (strip t))) (sym (newcomer_at-bare c t.broker.newcomers))

act-through : (a : Act) (t : Turn) → strip (act a t) ≡ strip (act (bare_act a) (strip t))
act-through Opens t = open-through t
act-through (At moment) t = sym (strip-twice t)
act-through (Hear c) t = heard-same c t.broker.clock t ∙ sym (strip-twice t) ∙ sym (heard-same c 0 (strip t))
act-through (Drop c) t = same-through (on_connections (newcomer_dropped c) (connection_dropped c)) (dropped-same c) t
act-through (Say c p) t = sym (strip-twice t)
act-through (Leave c wills) t =
    leave-through (session_by c t.broker.sessions) c wills t ∙ ap (λ o. strip (leave_at o c wills (strip t))) (sym (session_by-bare c t.broker.sessions))
act-through (Tell c) t = sym (strip-twice t)
act-through (Queue app_message) t = ap₂ (λ gs ss. turn_with t.broker.given t.broker.made gs ss t.broker.retained (t.waiting ++ app_message ∷ [])) (sym (newcomers-twice t.broker.newcomers)) (sym (sessions-twice t.broker.sessions))
act-through Route t = route-alike t (strip t) (sym (strip-twice t))
act-through (Forget client) t =
    forget-through (find (is_away client) t.broker.sessions) t ∙ ap (λ o. strip (forget_at o (strip t))) (sym (found-away-bare client t.broker.sessions))
act-through (Accept c client kept alive will) t = accepted c client kept alive 1 will t
act-through (Give c id entries) t =
    give-through (session_by c t.broker.sessions) c id entries t ∙ ap (λ o. strip (give_at o c id entries (strip t))) (sym (session_by-bare c t.broker.sessions))
act-through (Take c filters) t =
    take-through (session_by c t.broker.sessions) filters t ∙ ap (λ o. strip (take_at o filters (strip t))) (sym (session_by-bare c t.broker.sessions))
act-through (Ack c id) t =
    ack-through (session_by c t.broker.sessions) id t ∙ ap (λ o. strip (ack_at o id (strip t))) (sym (session_by-bare c t.broker.sessions))

bare-twice : (a : Act) → bare_act (bare_act a) ≡ bare_act a
bare-twice Opens = refl
bare-twice (At moment) = refl
bare-twice (Hear c) = refl
bare-twice (Drop c) = refl
bare-twice (Say c p) = refl
bare-twice (Leave c wills) = refl
bare-twice (Tell c) = refl
bare-twice (Queue app_message) = refl
bare-twice Route = refl
bare-twice (Forget client) = refl
bare-twice (Accept c client kept alive will) = refl
bare-twice (Give c id entries) = refl
bare-twice (Take c filters) = refl
bare-twice (Ack c id) = refl

act-alike : (a : Act) (t u : Turn) → strip t ≡ strip u → strip (act a t) ≡ strip (act (bare_act a) u)
act-alike a t u e =
    act-through a t
    ∙ ap₂ (λ b x. strip (act b x)) (sym (bare-twice a)) e
    ∙ sym (act-through (bare_act a) u)

pub acts-alike : (as_list : List Act) (t u : Turn) → strip t ≡ strip u → strip (acts as_list t) ≡ strip (acts (map bare_act as_list) u)
acts-alike [] t u e = e
acts-alike (a ∷ as_list) t u e = acts-alike as_list (act a t) (act (bare_act a) u) (act-alike a t u e)
