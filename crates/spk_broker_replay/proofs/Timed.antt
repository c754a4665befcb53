-- The connections of a replay have a keep alive of one second, and were heard at no later moment than its clock's.
use Rattle.std.proofs.Common.{◌≡◌, ℕ, zero, suc, ◌≤◌, max, Bool, true, false, not, cond, eqb, List, [], ◌∷◌, map, refl, arith, Option, Some, None}
use Rattle.std.specs.List.{find, fold, flat_map, AllByRecursion}
use Rattle.std.specs.Option.{option_map}
use Rattle.spk_session.specs.PacketIds.{next_id}
use Rattle.spk_session.specs.Step.{has_room, one_more}
use Rattle.spk_broker_rules.specs.Data.{AppMessage, Connection, Newcomer, Session}
use Rattle.spk_broker_rules.specs.Words.{best, level, sent_as, granted_of, offers_to}
use Rattle.spk_broker_rules.specs.Plan.{Act, Opens, At, Hear, Drop, Say, Leave, Tell, Queue, Route, Forget, Accept, Give, Take, Ack}
use Rattle.spk_broker_rules.specs.Step.{Turn, act, acts, newcomer_heard, connection_heard, newcomer_dropped, connection_dropped, session_by, sits, is_newcomer, other_newcomers, is_away, swap, numbered, bursts, hand_at, hand, serve_at, serve, route_one, route_some, route, most, left_behind, leave_at, forget_at, connection_of, take_up, away_for, accept_of, offer_at, with_key, offer, other_grants, give_at, take_at, ack_at}
use Rattle.spk_broker_rules.proofs.Lists.{all-also, all-append, all-filter, all-mapped, all-flat}
use Rattle.spk_broker_rules.proofs.Lawfuls.{found-in}
use Rattle.spk_broker_replay.specs.Replay.{IsTimed}
use Rattle.spk_broker_replay.proofs.Bare.{bare_act}

abbrev pub Heard : ℕ → List Newcomer → Type 0
Heard k gs = AllByRecursion (λ (g : Newcomer). g.heard ≤ k) gs

abbrev pub Connected : ℕ → List Session → Type 0
Connected k ss = AllByRecursion (λ (s : Session). IsTimed k s.here) ss

pub record Timed (t : Turn) : Type 0 where
  pub newcomers : Heard t.broker.clock t.broker.newcomers
  pub connections : Connected t.broker.clock t.broker.sessions

later-connection : (k j : ℕ) (o : Option Connection) → k ≤ j → IsTimed k o → IsTimed j o
later-connection k j None e h = tt
later-connection k j (Some l) e h = (h.0, let a = h.1 in omega arith)

later-newcomers : (k j : ℕ) (gs : List Newcomer) → k ≤ j → Heard k gs → Heard j gs
later-newcomers k j gs e h = all-also (λ (g : Newcomer). g.heard ≤ k) (λ (g : Newcomer). g.heard ≤ j) (λ g a. omega arith) gs h

later-connections : (k j : ℕ) (ss : List Session) → k ≤ j → Connected k ss → Connected j ss
later-connections k j ss e h = all-also (λ (s : Session). IsTimed k s.here) (λ (s : Session). IsTimed j s.here) (λ s a. later-connection k j s.here e a) ss h

-- ---- sessions

connected-swap : (k key : ℕ) (new ss : List Session) → Connected k new → Connected k ss → Connected k (swap key new ss)
connected-swap k key new ss fine all = all-flat (λ (s : Session). IsTimed k s.here) (λ (s : Session). IsTimed k s.here) (λ (s : Session). cond (eqb s.key key) new (s ∷ [])) (λ s h. by s h (eqb s.key key)) ss all
  where
    by : (s : Session) → IsTimed k s.here → (b : Bool) → Connected k (cond b new (s ∷ []))
    by s h true = fine
    by s h false = (h, tt)

connected-found : (k : ℕ) (p : Session → Bool) (ss : List Session) (s : Session) → Connected k ss → find p ss ≡ Some s → IsTimed k s.here
connected-found k p ss s all e = found-in (λ (x : Session). IsTimed k x.here) p ss s all e

connected-hand : (k q : ℕ) (app_message : AppMessage) (s : Session) → IsTimed k s.here → Connected k (hand_at q app_message s).left
connected-hand k zero app_message s h = (h, tt)
connected-hand k (suc q) app_message s h = by (has_room s.used)
  where
    by : (b : Bool) → Connected k (cond b (numbered s app_message (next_id s.used s.last)) (bursts s)).left
    by true = (h, tt)
    by false = tt

connected-serve : (k : ℕ) (m : AppMessage) (s : Session) → IsTimed k s.here → Connected k (serve m s).left
connected-serve k m s h = by (level m.qos (best m.topic s.grants))
  where
    by : (o : Option ℕ) → Connected k (serve_at o m s).left
    by None = (h, tt)
    by (Some q) = connected-hand k q (sent_as m q false) s h

-- ---- routing

one-timed : (m : AppMessage) (t : Turn) → Timed t → Timed (route_one m t)
one-timed m t h = record {
  newcomers = h.newcomers;
  connections = all-flat (λ (s : Session). IsTimed t.broker.clock s.here) (λ (s : Session). IsTimed t.broker.clock s.here) (λ (s : Session). (serve m s).left) (connected-serve t.broker.clock m) t.broker.sessions h.connections;
}

some-timed : (n : ℕ) (t : Turn) → Timed t → Timed (route_some n t)
unfolding route_some
some-timed zero t h = h
some-timed (suc n) t h = by t.waiting (λ m ms. some-timed n (route_one m (record t { waiting = ms })) (one-timed m (record t { waiting = ms }) (record { newcomers = h.newcomers; connections = h.connections })))
  where
    by : (ws : List AppMessage) → ((m : AppMessage) (ms : List AppMessage) → Timed (route_some n (route_one m (record t { waiting = ms }))))
        → Timed (elim ws [ [] ↦ t | m ∷ ms ↦ route_some n (route_one m (record t { waiting = ms })) ])
    by [] rest = h
    by (m ∷ ms) rest = rest m ms

route-timed : (t : Turn) → Timed t → Timed (route t)
unfolding route
route-timed t h = some-timed (most t) t h

-- ---- the acts

max-right : (a b : ℕ) → b ≤ max a b
max-right a b = omega arith

max-left : (a b : ℕ) → a ≤ max a b
max-left a b = omega arith

heard-newcomer : (c k : ℕ) (g : Newcomer) → g.heard ≤ k → (newcomer_heard c k g).heard ≤ k
heard-newcomer c k g h = by (eqb g.conn c)
  where
    by : (b : Bool) → (cond b (record g { heard = k }) g).heard ≤ k
    by true = omega arith
    by false = h

heard-connection : (c k : ℕ) (o : Option Connection) → IsTimed k o → IsTimed k (option_map (connection_heard c k) o)
heard-connection c k None h = tt
heard-connection c k (Some l) h = by (eqb l.conn c)
  where
    by : (b : Bool) → IsTimed k (Some (cond b (record l { heard = k }) l))
    by true = (h.0, omega arith)
    by false = h

dropped-newcomer : (c k : ℕ) (g : Newcomer) → g.heard ≤ k → (newcomer_dropped c g).heard ≤ k
dropped-newcomer c k g h = by (one_more g.drops) (eqb g.conn c)
  where
    by : (n : ℕ) (b : Bool) → (cond b (record g { drops = n }) g).heard ≤ k
    by n true = h
    by n false = h

dropped-connection : (c k : ℕ) (o : Option Connection) → IsTimed k o → IsTimed k (option_map (connection_dropped c) o)
dropped-connection c k None h = tt
dropped-connection c k (Some l) h = by (one_more l.drops) (eqb l.conn c)
  where
    by : (n : ℕ) (b : Bool) → IsTimed k (Some (cond b (record l { drops = n }) l))
    by n true = h
    by n false = h

others-timed : (k c : ℕ) (gs : List Newcomer) → Heard k gs → Heard k (other_newcomers c gs)
others-timed k c gs h = all-filter (λ (g : Newcomer). g.heard ≤ k) (λ (g : Newcomer). not (eqb g.conn c)) gs h

leave-timed : (o : Option Session) (c : ℕ) (wills : Bool) (t : Turn) → Timed t → Timed (leave_at o c wills t)
leave-timed None c wills t h = record { newcomers = others-timed t.broker.clock c t.broker.newcomers h.newcomers; connections = h.connections }
leave-timed (Some s) c wills t h = record { newcomers = h.newcomers; connections = connected-swap t.broker.clock s.key (left_behind s) t.broker.sessions (by s.kept) h.connections }
  where
    by : (b : Bool) → Connected t.broker.clock (cond b ((record s { here = None }) ∷ []) [])
    by true = (tt, tt)
    by false = tt

forget-timed : (o : Option Session) (t : Turn) → Timed t → Timed (forget_at o t)
forget-timed None t h = h
forget-timed (Some s) t h = record { newcomers = h.newcomers; connections = connected-swap t.broker.clock s.key [] t.broker.sessions tt h.connections }

take_up-timed : (o : Option Session) (client : List ℕ) (kept : Bool) (g : Newcomer) (will : Option AppMessage) (t : Turn) → g.heard ≤ t.broker.clock → Timed t → Timed (take_up o client kept (connection_of g 1 will) t)
take_up-timed None client kept g will t low h = record {
  newcomers = others-timed t.broker.clock g.conn t.broker.newcomers h.newcomers;
  connections = all-append (λ (s : Session). IsTimed t.broker.clock s.here) t.broker.sessions _ h.connections ((refl, low), tt);
}
take_up-timed (Some s) client kept g will t low h = record {
  newcomers = others-timed t.broker.clock g.conn t.broker.newcomers h.newcomers;
  connections = connected-swap t.broker.clock s.key _ t.broker.sessions ((refl, low), tt) h.connections;
}

accept-timed : (o : Option Newcomer) (client : List ℕ) (kept : Bool) (will : Option AppMessage) (c : ℕ) (t : Turn) → find (is_newcomer c) t.broker.newcomers ≡ o → Timed t → Timed (accept_of o client kept 1 will t)
accept-timed None client kept will c t e h = h
accept-timed (Some g) client kept will c t e h =
    take_up-timed (away_for kept client t.broker.sessions) client kept g will t (found-in (λ (x : Newcomer). x.heard ≤ t.broker.clock) (is_newcomer c) t.broker.newcomers g h.newcomers e) h

offer-timed : (o : Option Session) (key : ℕ) (app_message : AppMessage) (t : Turn) → with_key key t.broker.sessions ≡ o → Timed t → Timed (offer_at o key app_message t)
offer-timed None key app_message t e h = h
offer-timed (Some s) key app_message t e h = record {
  newcomers = h.newcomers;
  connections = connected-swap t.broker.clock key (hand app_message s).left t.broker.sessions (connected-hand t.broker.clock app_message.qos app_message s (connected-found t.broker.clock (λ (x : Session). eqb x.key key) t.broker.sessions s h.connections e)) h.connections;
}

offers-timed : (key : ℕ) (app_messages : List AppMessage) (t : Turn) → Timed t → Timed (fold (offer key) t app_messages)
offers-timed key [] t h = h
offers-timed key (m ∷ ms) t h = offers-timed key ms (offer key t m) (offer-timed (with_key key t.broker.sessions) key m t refl h)

give-timed : (o : Option Session) (c id : ℕ) (entries : List (List ℕ × ℕ)) (t : Turn) → session_by c t.broker.sessions ≡ o → Timed t → Timed (give_at o c id entries t)
give-timed None c id entries t e h = h
give-timed (Some s) c id entries t e h =
    offers-timed s.key (flat_map (offers_to t.broker.retained) (granted_of (other_grants s t.broker.sessions) s.grants entries)) _ (record {
      newcomers = h.newcomers;
      connections = connected-swap t.broker.clock s.key _ t.broker.sessions (connected-found t.broker.clock (sits c) t.broker.sessions s h.connections e, tt) h.connections;
    })

take-timed : (o : Option Session) (c : ℕ) (filters : List (List ℕ)) (t : Turn) → session_by c t.broker.sessions ≡ o → Timed t → Timed (take_at o filters t)
take-timed None c filters t e h = h
take-timed (Some s) c filters t e h = record {
  newcomers = h.newcomers;
  connections = connected-swap t.broker.clock s.key _ t.broker.sessions (connected-found t.broker.clock (sits c) t.broker.sessions s h.connections e, tt) h.connections;
}

ack-timed : (o : Option Session) (c id : ℕ) (t : Turn) → session_by c t.broker.sessions ≡ o → Timed t → Timed (ack_at o id t)
ack-timed None c id t e h = h
ack-timed (Some s) c id t e h = record {
  newcomers = h.newcomers;
  connections = connected-swap t.broker.clock s.key _ t.broker.sessions (connected-found t.broker.clock (sits c) t.broker.sessions s h.connections e, tt) h.connections;
}

at-timed : (moment : ℕ) (t : Turn) → Timed t → Timed (act (At moment) t)
at-timed moment t h = record {
  newcomers = later-newcomers t.broker.clock (max t.broker.clock moment) t.broker.newcomers (max-left t.broker.clock moment) h.newcomers;
  connections = later-connections t.broker.clock (max t.broker.clock moment) t.broker.sessions (max-left t.broker.clock moment) h.connections;
}

hear-timed : (c : ℕ) (t : Turn) → Timed t → Timed (act (Hear c) t)
hear-timed c t h = record {
  newcomers = all-mapped (λ (g : Newcomer). g.heard ≤ t.broker.clock) (newcomer_heard c t.broker.clock) t.broker.newcomers
      (all-also (λ (g : Newcomer). g.heard ≤ t.broker.clock) (λ (g : Newcomer). (newcomer_heard c t.broker.clock g).heard ≤ t.broker.clock) (heard-newcomer c t.broker.clock) t.broker.newcomers h.newcomers);
  connections = all-mapped (λ (s : Session). IsTimed t.broker.clock s.here) (λ (s : Session). record s { here = option_map (connection_heard c t.broker.clock) s.here }) t.broker.sessions
      (all-also (λ (s : Session). IsTimed t.broker.clock s.here) (λ (s : Session). IsTimed t.broker.clock (option_map (connection_heard c t.broker.clock) s.here)) (λ s a. heard-connection c t.broker.clock s.here a) t.broker.sessions h.connections);
}

drop-timed : (c : ℕ) (t : Turn) → Timed t → Timed (act (Drop c) t)
drop-timed c t h = record {
  newcomers = all-mapped (λ (g : Newcomer). g.heard ≤ t.broker.clock) (newcomer_dropped c) t.broker.newcomers
      (all-also (λ (g : Newcomer). g.heard ≤ t.broker.clock) (λ (g : Newcomer). (newcomer_dropped c g).heard ≤ t.broker.clock) (dropped-newcomer c t.broker.clock) t.broker.newcomers h.newcomers);
  connections = all-mapped (λ (s : Session). IsTimed t.broker.clock s.here) (λ (s : Session). record s { here = option_map (connection_dropped c) s.here }) t.broker.sessions
      (all-also (λ (s : Session). IsTimed t.broker.clock s.here) (λ (s : Session). IsTimed t.broker.clock (option_map (connection_dropped c) s.here)) (λ s a. dropped-connection c t.broker.clock s.here a) t.broker.sessions h.connections);
}

pub act-timed : (a : Act) (t : Turn) → Timed t → Timed (act (bare_act a) t)
act-timed Opens t h = record { newcomers = all-append (λ (g : Newcomer). g.heard ≤ t.broker.clock) t.broker.newcomers _ h.newcomers ((omega arith), tt); connections = h.connections }
act-timed (At moment) t h = at-timed moment t h
act-timed (Hear c) t h = hear-timed c t h
act-timed (Drop c) t h = drop-timed c t h
act-timed (Say c p) t h = record { newcomers = h.newcomers; connections = h.connections }
act-timed (Leave c wills) t h = leave-timed (session_by c t.broker.sessions) c wills t h
act-timed (Tell c) t h = record { newcomers = h.newcomers; connections = h.connections }
act-timed (Queue app_message) t h = record { newcomers = h.newcomers; connections = h.connections }
act-timed Route t h = route-timed t h
act-timed (Forget client) t h = forget-timed (find (is_away client) t.broker.sessions) t h
act-timed (Accept c client kept alive will) t h = accept-timed (find (is_newcomer c) t.broker.newcomers) client kept will c t refl h
act-timed (Give c id entries) t h = give-timed (session_by c t.broker.sessions) c id entries t refl h
act-timed (Take c filters) t h = take-timed (session_by c t.broker.sessions) c filters t refl h
act-timed (Ack c id) t h = ack-timed (session_by c t.broker.sessions) c id t refl h

pub acts-timed : (as_list : List Act) (t : Turn) → Timed t → Timed (acts (map bare_act as_list) t)
acts-timed [] t h = h
acts-timed (a ∷ as_list) t h = acts-timed as_list (act (bare_act a) t) (act-timed a t h)
