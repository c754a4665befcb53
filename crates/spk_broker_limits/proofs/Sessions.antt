-- What each act keeps that holds of each session.
use Rattle.std.proofs.Common.{◌≡◌, ℕ, zero, suc, ◌+◌, ◌==◌, Bool, true, false, cond, List, [], ◌∷◌, ◌++◌, map, length, refl, subst, Option, Some, None}
use Rattle.std.specs.List.{find, fold, flat_map, AllByRecursion}
use Rattle.std.specs.Option.{option_map}
use Rattle.spk_session.specs.Step.{without}
use Rattle.spk_broker_rules.specs.Data.{AppMessage, Connection, Newcomer, Session, Broker}
use Rattle.spk_broker_rules.specs.Words.{handed_out, without_id, best, level, sent_as, granted_of, offers_to}
use Rattle.spk_broker_rules.specs.Plan.{Event, Act, Opens, At, Hear, Drop, Say, Leave, Tell, Queue, Route, Forget, Accept, Give, Take, Ack, before, plan}
use Rattle.spk_broker_rules.specs.Step.{Turn, act, acts, after, step, noted, begun, seen, on_connections, newcomer_heard, connection_heard, newcomer_dropped, connection_dropped, swap, left_behind, leave_at, session_by, sits, is_newcomer, is_away, forget_at, connection_of, new_session, take_up, away_for, accept_of, other_grants, give_at, take_at, ack_at, offer, offer_at, with_key, hand, serve, serve_at, route_one, route_some, route}

-- what each change of a session keeps of it
pub record Keeps (P : Session → Type 0) : Type 1 where
  pub handed : (m : AppMessage) (s : Session) → P s → AllByRecursion P (hand m s).left
  pub connected : (f : Connection → Connection) (s : Session) → P s → P (record s { here = option_map f s.here })
  pub alone : (s : Session) → P s → P (record s { here = None })
  pub fresh : (key : ℕ) (client : List ℕ) (kept : Bool) (connection : Connection) → P (new_session key client kept connection)
  pub taken : (connection : Connection) (s : Session) → P s → P (record s { here = Some connection; in_flight = map handed_out s.in_flight })
  pub granted : (grants : List (List ℕ × ℕ)) (s : Session) → P s → P (record s { grants = grants })
  pub acked : (id : ℕ) (s : Session) → P s → P (record s { used = without id s.used; in_flight = without_id id s.in_flight })

abbrev pub All : (Session → Type 0) → List Session → Type 0
All P ss = AllByRecursion P ss

-- ---- lists

both : {X : Type 0} (P : X → Type 0) (xs ys : List X) → AllByRecursion P xs → AllByRecursion P ys → AllByRecursion P (xs ++ ys)
both P [] ys a b = b
both P (x ∷ xs) ys a b = (a.0, both P xs ys a.1 b)

flat : (P : Session → Type 0) (f : Session → List Session) → ((s : Session) → P s → All P (f s)) → (ss : List Session) → All P ss → All P (flat_map f ss)
flat P f g [] a = tt
flat P f g (s ∷ ss) a = both P (f s) (flat_map f ss) (g s a.0) (flat P f g ss a.1)

mapped : (P : Session → Type 0) (f : Session → Session) → ((s : Session) → P s → P (f s)) → (ss : List Session) → All P ss → All P (map f ss)
mapped P f g [] a = tt
mapped P f g (s ∷ ss) a = (g s a.0, mapped P f g ss a.1)

no_some : {X Y : Type 0} (x : X) → None ≡ Some x → Y
no_some x e = absurd cc

some_is : {X : Type 0} (x y : X) → Some x ≡ Some y → x ≡ y
some_is x y e = cc

found : (P : Session → Type 0) (p : Session → Bool) (ss : List Session) (s : Session) → All P ss → find p ss ≡ Some s → P s
found P p [] s a e = no_some s e
found P p (t ∷ ts) s a e = by (p t) e (λ h. found P p ts s a.1 h)
  where
    by : (b : Bool) → cond b (Some t) (find p ts) ≡ Some s → (find p ts ≡ Some s → P s) → P s
    by true h rest = subst P (some_is t s h) a.0
    by false h rest = rest h

swapped : (P : Session → Type 0) (key : ℕ) (new ss : List Session) → All P new → All P ss → All P (swap key new ss)
swapped P key new ss n a = flat P (λ (s : Session). cond (nat_is s) new (s ∷ [])) (λ s p. by (nat_is s) s p) ss a
  where
    nat_is : Session → Bool
    nat_is s = s.key == key

    by : (b : Bool) (s : Session) → P s → All P (cond b new (s ∷ []))
    by true s p = n
    by false s p = (p, tt)

-- ---- routing

abbrev pub IsHanded : (Session → Type 0) → Type 0
IsHanded P = (m : AppMessage) (s : Session) → P s → All P (hand m s).left

served : (P : Session → Type 0) → IsHanded P → (m : AppMessage) (s : Session) → P s → All P (serve m s).left
served P k m s p = by (level m.qos (best m.topic s.grants))
  where
    by : (o : Option ℕ) → All P (serve_at o m s).left
    by None = (p, tt)
    by (Some q) = k (sent_as m q false) s p

routed_some : (P : Session → Type 0) → IsHanded P → (n : ℕ) (t : Turn) → All P t.broker.sessions → All P (route_some n t).broker.sessions
unfolding route_some
routed_some P k zero t a = a
routed_some P k (suc n) t a =
    by t.waiting (λ m ms. routed_some P k n (route_one m (record t { waiting = ms })) (flat P (λ (s : Session). (serve m s).left) (served P k m) t.broker.sessions a))
  where
    by : (ws : List AppMessage) → ((m : AppMessage) (ms : List AppMessage) → All P (route_some n (route_one m (record t { waiting = ms }))).broker.sessions)
        → All P (elim ws as (λ _. Turn) [ [] ↦ t | m ∷ ms ↦ route_some n (route_one m (record t { waiting = ms })) ]).broker.sessions
    by [] rest = a
    by (m ∷ ms) rest = rest m ms

pub routed : (P : Session → Type 0) → IsHanded P → (t : Turn) → All P t.broker.sessions → All P (route t).broker.sessions
unfolding route
routed P k t a = routed_some P k (length t.waiting + length t.broker.sessions) t a

-- ---- the acts

on_each : (P : Session → Type 0) → Keeps P → (f : Newcomer → Newcomer) (g : Connection → Connection) (t : Turn) → All P t.broker.sessions → All P (on_connections f g t).broker.sessions
on_each P k f g t a = mapped P (λ (s : Session). record s { here = option_map g s.here }) (k.connected g) t.broker.sessions a

behind : (P : Session → Type 0) → Keeps P → (s : Session) → P s → All P (left_behind s)
behind P k s p = by s.kept
  where
    by : (b : Bool) → All P (cond b ((record s { here = None }) ∷ []) [])
    by true = (k.alone s p, tt)
    by false = tt

left : (P : Session → Type 0) → Keeps P → (c : ℕ) (wills : Bool) (t : Turn) (o : Option Session) → All P t.broker.sessions → session_by c t.broker.sessions ≡ o
    → All P (leave_at o c wills t).broker.sessions
left P k c wills t None a e = a
left P k c wills t (Some s) a e = swapped P s.key (left_behind s) t.broker.sessions (behind P k s (found P (sits c) t.broker.sessions s a e)) a

forgotten : (P : Session → Type 0) (t : Turn) (o : Option Session) → All P t.broker.sessions → All P (forget_at o t).broker.sessions
forgotten P t None a = a
forgotten P t (Some s) a = swapped P s.key [] t.broker.sessions tt a

away : (P : Session → Type 0) (kept : Bool) (client : List ℕ) (ss : List Session) (s : Session) → All P ss → away_for kept client ss ≡ Some s → P s
away P true client ss s a e = found P (is_away client) ss s a e
away P false client ss s a e = no_some s e

up : (P : Session → Type 0) → Keeps P → (client : List ℕ) (kept : Bool) (connection : Connection) (t : Turn) (o : Option Session) → All P t.broker.sessions
    → away_for kept client t.broker.sessions ≡ o → All P (take_up o client kept connection t).broker.sessions
up P k client kept connection t None a e = both P t.broker.sessions (new_session (t.broker.made + 1) client kept connection ∷ []) a (k.fresh (t.broker.made + 1) client kept connection, tt)
up P k client kept connection t (Some s) a e =
    swapped P s.key ((record s { here = Some connection; in_flight = map handed_out s.in_flight }) ∷ []) t.broker.sessions (k.taken connection s (away P kept client t.broker.sessions s a e), tt) a

accepted : (P : Session → Type 0) → Keeps P → (o : Option Newcomer) (client : List ℕ) (kept : Bool) (alive : ℕ) (will : Option AppMessage) (t : Turn) → All P t.broker.sessions
    → All P (accept_of o client kept alive will t).broker.sessions
accepted P k None client kept alive will t a = a
accepted P k (Some g) client kept alive will t a = up P k client kept (connection_of g alive will) t (away_for kept client t.broker.sessions) a refl

offered_at : (P : Session → Type 0) → Keeps P → (key : ℕ) (app_message : AppMessage) (t : Turn) (o : Option Session) → All P t.broker.sessions → with_key key t.broker.sessions ≡ o
    → All P (offer_at o key app_message t).broker.sessions
offered_at P k key app_message t None a e = a
offered_at P k key app_message t (Some s) a e =
    swapped P key (hand app_message s).left t.broker.sessions (k.handed app_message s (found P (λ (x : Session). x.key == key) t.broker.sessions s a e)) a

offers : (P : Session → Type 0) → Keeps P → (key : ℕ) (app_messages : List AppMessage) (t : Turn) → All P t.broker.sessions → All P (fold (offer key) t app_messages).broker.sessions
offers P k key [] t a = a
offers P k key (p ∷ ps) t a = offers P k key ps (offer key t p) (offered_at P k key p t (with_key key t.broker.sessions) a refl)

given : (P : Session → Type 0) → Keeps P → (c id : ℕ) (entries : List (List ℕ × ℕ)) (t : Turn) (o : Option Session) → All P t.broker.sessions → session_by c t.broker.sessions ≡ o
    → All P (give_at o c id entries t).broker.sessions
given P k c id entries t None a e = a
given P k c id entries t (Some s) a e =
    offers P k s.key (flat_map (offers_to t.broker.retained) (granted_of (other_grants s t.broker.sessions) s.grants entries)) _
    (swapped P s.key _ t.broker.sessions (k.granted _ s (found P (sits c) t.broker.sessions s a e), tt) a)

taken : (P : Session → Type 0) → Keeps P → (c : ℕ) (filters : List (List ℕ)) (t : Turn) (o : Option Session) → All P t.broker.sessions → session_by c t.broker.sessions ≡ o
    → All P (take_at o filters t).broker.sessions
taken P k c filters t None a e = a
taken P k c filters t (Some s) a e = swapped P s.key _ t.broker.sessions (k.granted _ s (found P (sits c) t.broker.sessions s a e), tt) a

acked : (P : Session → Type 0) → Keeps P → (c id : ℕ) (t : Turn) (o : Option Session) → All P t.broker.sessions → session_by c t.broker.sessions ≡ o
    → All P (ack_at o id t).broker.sessions
acked P k c id t None a e = a
acked P k c id t (Some s) a e = swapped P s.key _ t.broker.sessions (k.acked id s (found P (sits c) t.broker.sessions s a e), tt) a

kept_by : (P : Session → Type 0) → Keeps P → (a : Act) (t : Turn) → All P t.broker.sessions → All P (act a t).broker.sessions
kept_by P k Opens t h = h
kept_by P k (At moment) t h = h
kept_by P k (Hear c) t h = on_each P k (newcomer_heard c t.broker.clock) (connection_heard c t.broker.clock) t h
kept_by P k (Drop c) t h = on_each P k (newcomer_dropped c) (connection_dropped c) t h
kept_by P k (Say c p) t h = h
kept_by P k (Leave c wills) t h = left P k c wills t (session_by c t.broker.sessions) h refl
kept_by P k (Tell c) t h = h
kept_by P k (Queue app_message) t h = h
kept_by P k Route t h = routed P k.handed t h
kept_by P k (Forget client) t h = forgotten P t (find (is_away client) t.broker.sessions) h
kept_by P k (Accept c client kept alive will) t h = accepted P k (find (is_newcomer c) t.broker.newcomers) client kept alive will t h
kept_by P k (Give c id entries) t h = given P k c id entries t (session_by c t.broker.sessions) h refl
kept_by P k (Take c filters) t h = taken P k c filters t (session_by c t.broker.sessions) h refl
kept_by P k (Ack c id) t h = acked P k c id t (session_by c t.broker.sessions) h refl

kept_by_all : (P : Session → Type 0) → Keeps P → (as_list : List Act) (t : Turn) → All P t.broker.sessions → All P (acts as_list t).broker.sessions
kept_by_all P k [] t h = h
kept_by_all P k (a ∷ as_list) t h = kept_by_all P k as_list (act a t) (kept_by P k a t h)

stepped : (P : Session → Type 0) → Keeps P → (b : Broker) (e : Event) → All P b.sessions → All P (step b e).broker.sessions
unfolding step
stepped P k b e h = kept_by_all P k (plan (seen (noted b e).broker e) e) (noted b e) (kept_by_all P k (before e) (begun b) h)

-- what each change of a session keeps holds of each session, whatever came
pub always : (P : Session → Type 0) → Keeps P → (limit : ℕ) (es : List Event) → All P (after limit es).sessions
always P k limit [] = tt
always P k limit (e ∷ es) = stepped P k (after limit es) e (always P k limit es)
