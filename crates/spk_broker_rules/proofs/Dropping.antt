-- Drops: one more at each refusal of QoS 0 and at nothing else, and fewer than close a connection while it is open.
use Rattle.std.proofs.Common.{◌≡◌, ◌⊎◌, inl, inr, ℕ, zero, suc, ◌+◌, ◌≤◌, Bool, true, false, not, cond, eqb, leb, List, [], ◌∷◌, length, refl, sym, ◌∙◌, ap, arith, subst, max, Option, Some, None, true≢false}
use Rattle.std.specs.List.{find, fold, flat_map, AllByRecursion}
use Rattle.std.specs.Option.{option_map, option_map_or}
use Rattle.std.proofs.lemmas.Bool.{cases_lt, leb-true}
use Rattle.spk_packets.specs.Message.{Message, Connect, ConnAck, Publish, PubAck, Subscribe, SubAck, Unsubscribe, UnsubAck, PingReq, PingResp, Disconnect}
use Rattle.spk_session.specs.declared.answer.Sort.TheVariants as sort
use Rattle.spk_session.specs.PacketIds.{next_id}
use Rattle.spk_session.specs.Step.{has_room, one_more, is_spent}
use Rattle.spk_broker_rules.specs.Data.{AppMessage, Connection, Newcomer, Session, Broker, fresh_broker}
use Rattle.spk_broker_rules.specs.Dropping.{is_drop, drops_after, HasFew}
use Rattle.spk_broker_rules.specs.Knowing.{is_opening}
use Rattle.spk_broker_rules.specs.Lawful.{IsLawful, places}
use Rattle.spk_broker_rules.specs.Words.{best, level, sent_as, granted_of, offers_to}
use Rattle.spk_broker_rules.specs.Plan.{Event, Open, Packet, Fault, Closed, Tick, Refused, Act, Opens, At, Hear, Drop, Say, Leave, Tell, Queue, Route, Forget, Accept, Give, Take, Ack, plan, shut, turn_away, join, first_packet, next_packet, tick, is_fatal, Seen}
use Rattle.spk_broker_rules.specs.Listening.{is_closed_in}
use Rattle.spk_broker_rules.specs.Step.{Turn, act, acts, on_connections, newcomer_heard, connection_heard, newcomer_dropped, connection_dropped, sits, swap, left_behind, other_newcomers, leave_at, session_by, is_newcomer, is_away, forget_at, connection_of, take_up, away_for, accept_of, other_grants, give_at, take_at, ack_at, offer, offer_at, with_key, hand, hand_at, serve, serve_at, numbered, bursts, route_one, route_some, route, noted, begun, seen, step, drops_in, knows}
use Rattle.spk_broker_rules.proofs.Lists.{eqb-is, eqb-self, all-also, all-append, all-filter, all-mapped, all-flat, found-passes}
use Rattle.spk_broker_rules.proofs.Lawfuls.{found-in, dropped-conn, dropped-connection}
use Rattle.spk_broker_rules.proofs.Places.{bit, bit-one, tally, tally-cons, tally-map, tally-missed, tally-found, none-above, ordered}
use Rattle.spk_broker_rules.proofs.Endings.{known-places, unknown-places, some-known, opened-at, less-step, limit-step, closed-gone, opening-cases}
use Rattle.spk_broker_rules.proofs.Waiting.{none-pass, closed-shut}

-- ---- one of its kind

one-of : {X : Type 0} (p : X → Bool) (xs : List X) (x : X) → tally p xs ≤ 1 → find p xs ≡ Some x → AllByRecursion (λ y. p y ≡ true → y ≡ x) xs
one-of p [] x one e = tt
one-of {X} p (y ∷ ys) x one e = by (p y) refl e (one-of p ys x)
  where
    count : tally p (y ∷ ys) ≡ bit (p y) + tally p ys
    count = tally-cons p y ys

    by : (b : Bool) → p y ≡ b → cond b (Some y) (find p ys) ≡ Some x → (tally p ys ≤ 1 → find p ys ≡ Some x → AllByRecursion (λ z. p z ≡ true → z ≡ x) ys)
        → AllByRecursion (λ z. p z ≡ true → z ≡ x) (y ∷ ys)
    by true i f rest =
        let same : y ≡ x = cc in let a = count in let d = bit-one (p y) i in
        ((λ k. same), all-also (λ z. p z ≡ false) (λ z. p z ≡ true → z ≡ x) (λ z no k. absurd (true≢false (sym k ∙ no))) ys (none-pass p ys (omega arith)))
    by false i f rest = ((λ k. absurd (true≢false (sym k ∙ i))), rest (let a = count in omega arith) f)

none-of : {X : Type 0} (p : X → Bool) (Q : X → Type 0) (xs : List X) → tally p xs ≡ 0 → AllByRecursion (λ x. p x ≡ true → Q x) xs
none-of p Q xs e = all-also (λ x. p x ≡ false) (λ x. p x ≡ true → Q x) (λ x no k. absurd (true≢false (sym k ∙ no))) xs (none-pass p xs e)

-- ---- the acts of the rules

abbrev IsRule : Act → Type 0
IsRule Opens = ⊥
IsRule (At moment) = ⊥
IsRule (Hear d) = ⊥
IsRule (Drop d) = ⊥
IsRule (Say d p) = Unit {0}
IsRule (Leave d wills) = Unit {0}
IsRule (Tell d) = Unit {0}
IsRule (Queue app_message) = Unit {0}
IsRule Route = Unit {0}
IsRule (Forget name) = Unit {0}
IsRule (Accept d name keeps alive will) = Unit {0}
IsRule (Give d id entries) = Unit {0}
IsRule (Take d filters) = Unit {0}
IsRule (Ack d id) = Unit {0}

record AreRules (as_list : List Act) : Type 0 where
  each : AllByRecursion IsRule as_list

rules-cond : (b : Bool) (xs ys : List Act) → AreRules xs → AreRules ys → AreRules (cond b xs ys)
rules-cond true xs ys h k = h
rules-cond false xs ys h k = k

rules-shut : (d : ℕ) → AreRules (shut d)
rules-shut d = record { each = (tt, (tt, (tt, tt))) }

rules-away : (d code : ℕ) → AreRules (turn_away d code)
rules-away d code = record { each = (tt, (tt, (tt, (tt, tt)))) }

rules-join : (older : Option ℕ) (d : ℕ) (name : List ℕ) (clean : Bool) (alive : ℕ) (will : Option AppMessage) → AreRules (join older d name clean alive will)
rules-join None d name true alive will = record { each = (tt, (tt, tt)) }
rules-join None d name false alive will = record { each = (tt, tt) }
rules-join (Some x) d name true alive will = record { each = (tt, (tt, (tt, (tt, (tt, tt))))) }
rules-join (Some x) d name false alive will = record { each = (tt, (tt, (tt, (tt, tt)))) }

rules-first : (v : Seen) (d : ℕ) (p : Message) → AreRules (first_packet v d p)
rules-first v d (Connect name clean alive will) =
    rules-cond _ _ _ (rules-away d 2) (rules-cond _ _ _ (rules-shut d) (rules-cond _ _ _ (rules-away d 3) (rules-join v.older d name clean alive _)))
rules-first v d (ConnAck present code) = rules-shut d
rules-first v d (Publish dup qos retain topic id payload) = rules-shut d
rules-first v d (PubAck id) = rules-shut d
rules-first v d (Subscribe id entries) = rules-shut d
rules-first v d (SubAck id codes) = rules-shut d
rules-first v d (Unsubscribe id filters) = rules-shut d
rules-first v d (UnsubAck id) = rules-shut d
rules-first v d PingReq = rules-shut d
rules-first v d PingResp = rules-shut d
rules-first v d Disconnect = rules-shut d

rules-next : (v : Seen) (d : ℕ) (p : Message) → AreRules (next_packet v d p)
rules-next v d (Connect name clean alive will) = rules-shut d
rules-next v d (ConnAck present code) = rules-shut d
rules-next v d (Publish dup qos retain topic None payload) =
    rules-cond _ (shut d) (Queue (record { topic = topic; payload = payload; qos = qos; retain = retain }) ∷ Route ∷ []) (rules-shut d) (record { each = (tt, (tt, tt)) })
rules-next v d (Publish dup qos retain topic (Some id) payload) =
    rules-cond _ (shut d) (Say d (PubAck id) ∷ Queue (record { topic = topic; payload = payload; qos = qos; retain = retain }) ∷ Route ∷ []) (rules-shut d) (record { each = (tt, (tt, (tt, tt))) })
rules-next v d (PubAck id) = record { each = (tt, tt) }
rules-next v d (Subscribe id entries) = rules-cond _ (shut d) (Give d id entries ∷ Route ∷ []) (rules-shut d) (record { each = (tt, (tt, tt)) })
rules-next v d (SubAck id codes) = rules-shut d
rules-next v d (Unsubscribe id filters) = rules-cond _ (shut d) (Take d filters ∷ Say d (UnsubAck id) ∷ []) (rules-shut d) (record { each = (tt, (tt, tt)) })
rules-next v d (UnsubAck id) = rules-shut d
rules-next v d PingReq = record { each = (tt, tt) }
rules-next v d PingResp = rules-shut d
rules-next v d Disconnect = record { each = (tt, tt) }

rules-tick : (silent : List ℕ) → AreRules (tick silent)
rules-tick [] = record { each = (tt, tt) }
rules-tick (x ∷ xs) = record { each = (tt, (tt, (rules-tick xs).each)) }

rules-plan : (v : Seen) (e : Event) → is_opening e ≡ false → AreRules (plan v e)
rules-plan v (Open moment) o = absurd (true≢false o)
rules-plan v (Packet d p moment) o = rules-cond _ _ _ (rules-shut d) (rules-cond _ _ _ (rules-next v d p) (rules-first v d p))
rules-plan v (Fault d f moment) o = rules-cond _ _ _ (rules-away d 1) (rules-shut d)
rules-plan v (Closed d moment) o = record { each = (tt, (tt, tt)) }
rules-plan v (Tick moment) o = rules-tick v.silent
rules-plan v (Refused d s moment) o = rules-cond (is_fatal s v.spent) (shut d) [] (rules-shut d) (record { each = tt })

module _ (c n : ℕ) where
  abbrev Connection_has : Option Connection → Type 0
  Connection_has None = Unit {0}
  Connection_has (Some l) = eqb l.conn c ≡ true → l.drops ≡ n

  abbrev S : Session → Type 0
  S s = Connection_has s.here

  abbrev G : Newcomer → Type 0
  G g = eqb g.conn c ≡ true → g.drops ≡ n

  -- wherever the connection stands, it has had so many drops
  record Drops (b : Broker) : Type 0 where
    newcomers : AllByRecursion G b.newcomers
    sessions : AllByRecursion S b.sessions

  with-sessions : (b : Broker) (ss : List Session) → Drops b → AllByRecursion S ss → Drops (record b { sessions = ss })
  with-sessions b ss d h = record { newcomers = d.newcomers; sessions = h }

  sessions-swap : (key : ℕ) (new ss : List Session) → AllByRecursion S new → AllByRecursion S ss → AllByRecursion S (swap key new ss)
  sessions-swap key new ss h all = all-flat S S (λ (s : Session). cond (eqb s.key key) new (s ∷ [])) (λ s a. by s a (eqb s.key key)) ss all
    where
      by : (s : Session) → S s → (b : Bool) → AllByRecursion S (cond b new (s ∷ []))
      by s a true = h
      by s a false = (a, tt)

  has-hand : (q : ℕ) (app_message : AppMessage) (s : Session) → S s → AllByRecursion S (hand_at q app_message s).left
  has-hand zero app_message s h = (h, tt)
  has-hand (suc q) app_message s h = by (has_room s.used)
    where
      by : (b : Bool) → AllByRecursion S (cond b (numbered s app_message (next_id s.used s.last)) (bursts s)).left
      by true = (h, tt)
      by false = tt

  has-serve : (m : AppMessage) (s : Session) → S s → AllByRecursion S (serve m s).left
  has-serve m s h = by (level m.qos (best m.topic s.grants))
    where
      by : (o : Option ℕ) → AllByRecursion S (serve_at o m s).left
      by None = (h, tt)
      by (Some q) = has-hand q (sent_as m q false) s h

  drops-some : (k : ℕ) (t : Turn) → Drops t.broker → Drops (route_some k t).broker
  unfolding route_some
  drops-some zero t d = d
  drops-some (suc k) t d = by t.waiting (λ p ps. drops-some k (route_one p (record t { waiting = ps }))
      (record { newcomers = d.newcomers; sessions = all-flat S S (λ (s : Session). (serve p s).left) (has-serve p) t.broker.sessions d.sessions }))
    where
      by : (ws : List AppMessage) → ((p : AppMessage) (ps : List AppMessage) → Drops (route_some k (route_one p (record t { waiting = ps }))).broker)
          → Drops (elim ws as (λ _. Turn) [ [] ↦ t | p ∷ ps ↦ route_some k (route_one p (record t { waiting = ps })) ]).broker
      by [] rest = d
      by (p ∷ ps) rest = rest p ps

  drops-route : (t : Turn) → Drops t.broker → Drops (route t).broker
  unfolding route
  drops-route t d = drops-some (length t.waiting + length t.broker.sessions) t d

  drops-offers : (key : ℕ) (app_messages : List AppMessage) (t : Turn) → Drops t.broker → Drops (fold (offer key) t app_messages).broker
  drops-offers key [] t d = d
  drops-offers key (p ∷ ps) t d = drops-offers key ps (offer key t p) (by (with_key key t.broker.sessions) refl)
    where
      by : (o : Option Session) → with_key key t.broker.sessions ≡ o → Drops (offer_at o key p t).broker
      by None i = d
      by (Some s) i = record {
        newcomers = d.newcomers;
        sessions = sessions-swap key (hand p s).left t.broker.sessions (has-hand p.qos p s (found-in S (λ (x : Session). eqb x.key key) t.broker.sessions s d.sessions i)) d.sessions;
      }

  here-of : (x : ℕ) (b : Broker) (s : Session) → Drops b → session_by x b.sessions ≡ Some s → S s
  here-of x b s d i = found-in S (sits x) b.sessions s d.sessions i

  drops-act : (a : Act) (t : Turn) → IsRule a → Drops t.broker → Drops (act a t).broker
  drops-act Opens t rule d = absurd rule
  drops-act (At moment) t rule d = absurd rule
  drops-act (Hear x) t rule d = absurd rule
  drops-act (Drop x) t rule d = absurd rule
  drops-act (Say x p) t rule d = d
  drops-act (Leave x wills) t rule d = by (session_by x t.broker.sessions)
    where
      left : (s : Session) (k : Bool) → AllByRecursion S (cond k ((record s { here = None }) ∷ []) [])
      left s true = (tt, tt)
      left s false = tt

      by : (o : Option Session) → Drops (leave_at o x wills t).broker
      by None = record { newcomers = all-filter G (λ (g : Newcomer). not (eqb g.conn x)) t.broker.newcomers d.newcomers; sessions = d.sessions }
      by (Some s) = record { newcomers = d.newcomers; sessions = sessions-swap s.key (left_behind s) t.broker.sessions (left s s.kept) d.sessions }
  drops-act (Tell x) t rule d = d
  drops-act (Queue app_message) t rule d = d
  drops-act Route t rule d = drops-route t d
  drops-act (Forget name) t rule d = by (find (is_away name) t.broker.sessions)
    where
      by : (o : Option Session) → Drops (forget_at o t).broker
      by None = d
      by (Some s) = record { newcomers = d.newcomers; sessions = sessions-swap s.key [] t.broker.sessions tt d.sessions }
  drops-act (Accept x name keeps alive will) t rule d = by (find (is_newcomer x) t.broker.newcomers) refl
    where
      others : (y : ℕ) → AllByRecursion G (other_newcomers y t.broker.newcomers)
      others y = all-filter G (λ (g : Newcomer). not (eqb g.conn y)) t.broker.newcomers d.newcomers

      up : (l : Connection) → (eqb l.conn c ≡ true → l.drops ≡ n) → (o : Option Session) → Drops (take_up o name keeps l t).broker
      up l h None = record { newcomers = others l.conn; sessions = all-append S t.broker.sessions _ d.sessions (h, tt) }
      up l h (Some s) = record { newcomers = others l.conn; sessions = sessions-swap s.key _ t.broker.sessions (h, tt) d.sessions }

      by : (o : Option Newcomer) → find (is_newcomer x) t.broker.newcomers ≡ o → Drops (accept_of o name keeps alive will t).broker
      by None i = d
      by (Some g) i = up (connection_of g alive will) (found-in G (is_newcomer x) t.broker.newcomers g d.newcomers i) (away_for keeps name t.broker.sessions)
  drops-act (Give x id entries) t rule d = by (session_by x t.broker.sessions) refl
    where
      by : (o : Option Session) → session_by x t.broker.sessions ≡ o → Drops (give_at o x id entries t).broker
      by None i = d
      by (Some s) i = drops-offers s.key (flat_map (offers_to t.broker.retained) (granted_of (other_grants s t.broker.sessions) s.grants entries)) _
          (record { newcomers = d.newcomers; sessions = sessions-swap s.key _ t.broker.sessions (here-of x t.broker s d i, tt) d.sessions })
  drops-act (Take x filters) t rule d = by (session_by x t.broker.sessions) refl
    where
      by : (o : Option Session) → session_by x t.broker.sessions ≡ o → Drops (take_at o filters t).broker
      by None i = d
      by (Some s) i = record { newcomers = d.newcomers; sessions = sessions-swap s.key _ t.broker.sessions (here-of x t.broker s d i, tt) d.sessions }
  drops-act (Ack x id) t rule d = by (session_by x t.broker.sessions) refl
    where
      by : (o : Option Session) → session_by x t.broker.sessions ≡ o → Drops (ack_at o id t).broker
      by None i = d
      by (Some s) i = record { newcomers = d.newcomers; sessions = sessions-swap s.key _ t.broker.sessions (here-of x t.broker s d i, tt) d.sessions }

  drops-acts : (as_list : List Act) (t : Turn) → AllByRecursion IsRule as_list → Drops t.broker → Drops (acts as_list t).broker
  drops-acts [] t rules d = d
  drops-acts (a ∷ as_list) t rules d = drops-acts as_list (act a t) rules.1 (drops-act a t rules.0 d)

  -- ---- where it stands

  drops-found : (b : Broker) → Drops b → knows b c ≡ true → drops_in c b ≡ n
  drops-found b d k = by (find (is_newcomer c) b.newcomers) refl
    where
      connection : (o : Option Connection) → Connection_has o → option_map_or (λ (l : Connection). eqb l.conn c) o false ≡ true → option_map_or (λ (l : Connection). l.drops) o 0 ≡ n
      connection None h e = absurd (true≢false (sym e))
      connection (Some l) h e = h e

      session : (o : Option Session) → session_by c b.sessions ≡ o → 1 ≤ tally (sits c) b.sessions → option_map_or (λ (s : Session). option_map_or (λ (l : Connection). l.drops) s.here 0) o 0 ≡ n
      session None i h = let a = tally-missed (sits c) b.sessions i in absurd (omega arith)
      session (Some s) i h = connection s.here (here-of c b s d i) (found-passes (sits c) b.sessions s i)

      by : (o : Option Newcomer) → find (is_newcomer c) b.newcomers ≡ o
          → option_map_or (λ (g : Newcomer). g.drops) o (option_map_or (λ (s : Session). option_map_or (λ (l : Connection). l.drops) s.here 0) (session_by c b.sessions) 0) ≡ n
      by (Some g) i = found-in G (is_newcomer c) b.newcomers g d.newcomers i (found-passes (is_newcomer c) b.newcomers g i)
      by None i = session (session_by c b.sessions) refl (let a = tally-missed (is_newcomer c) b.newcomers i in let e = known-places b c k in omega arith)

sits-connection : (c n : ℕ) (o : Option Connection) → (option_map_or (λ (l : Connection). eqb l.conn c) o false ≡ true → option_map_or (λ (l : Connection). l.drops) o 0 ≡ n) → Connection_has c n o
sits-connection c n None h = tt
sits-connection c n (Some l) h = h

-- as many as are found
drops-at : (b : Broker) (c : ℕ) → places c b ≤ 1 → Drops c (drops_in c b) b
drops-at b c one = by (find (is_newcomer c) b.newcomers) refl
  where
    sessions-have : (m : ℕ) → AllByRecursion (λ (s : Session). sits c s ≡ true → option_map_or (λ (l : Connection). l.drops) s.here 0 ≡ m) b.sessions → AllByRecursion (S c m) b.sessions
    sessions-have m h = all-also (λ (s : Session). sits c s ≡ true → option_map_or (λ (l : Connection). l.drops) s.here 0 ≡ m) (S c m) (λ s k. sits-connection c m s.here k) b.sessions h

    session : (o : Option Session) → session_by c b.sessions ≡ o → AllByRecursion (S c (option_map_or (λ (s : Session). option_map_or (λ (l : Connection). l.drops) s.here 0) o 0)) b.sessions
    session None i = sessions-have 0 (none-of (sits c) (λ (s : Session). option_map_or (λ (l : Connection). l.drops) s.here 0 ≡ 0) b.sessions (tally-missed (sits c) b.sessions i))
    session (Some s) i = sessions-have (option_map_or (λ (l : Connection). l.drops) s.here 0)
        (all-also (λ (x : Session). sits c x ≡ true → x ≡ s) (λ (x : Session). sits c x ≡ true → option_map_or (λ (l : Connection). l.drops) x.here 0 ≡ option_map_or (λ (l : Connection). l.drops) s.here 0)
        (λ x same k. ap (λ (y : Session). option_map_or (λ (l : Connection). l.drops) y.here 0) (same k)) b.sessions
        (one-of (sits c) b.sessions s (omega arith) i))

    by : (o : Option Newcomer) → find (is_newcomer c) b.newcomers ≡ o
        → Drops c (option_map_or (λ (g : Newcomer). g.drops) o (option_map_or (λ (s : Session). option_map_or (λ (l : Connection). l.drops) s.here 0) (session_by c b.sessions) 0)) b
    by (Some g) i = record {
      newcomers = all-also (λ (x : Newcomer). is_newcomer c x ≡ true → x ≡ g) (G c g.drops) (λ x same k. ap (λ (y : Newcomer). y.drops) (same k)) b.newcomers (one-of (is_newcomer c) b.newcomers g (omega arith) i);
      sessions = sessions-have g.drops (none-of (sits c) (λ (s : Session). option_map_or (λ (l : Connection). l.drops) s.here 0 ≡ g.drops) b.sessions (let a = tally-found (is_newcomer c) b.newcomers g i in omega arith));
    }
    by None i = record {
      newcomers = none-of (is_newcomer c) (λ (g : Newcomer). g.drops ≡ _) b.newcomers (tally-missed (is_newcomer c) b.newcomers i);
      sessions = session (session_by c b.sessions) refl;
    }

-- ---- what is noted

module _ (c n m : ℕ) where
  -- the same changes for newcomers and connections
  drops-connections : (on_newcomer : Newcomer → Newcomer) (change : Connection → Connection) → ((g : Newcomer) → G c n g → G c m (on_newcomer g)) → ((l : Connection) → (eqb l.conn c ≡ true → l.drops ≡ n) → eqb (change l).conn c ≡ true → (change l).drops ≡ m)
      → (t : Turn) → Drops c n t.broker → Drops c m (on_connections on_newcomer change t).broker
  drops-connections on_newcomer change newcomer connection t d = record {
    newcomers = all-mapped (G c m) on_newcomer t.broker.newcomers (all-also (G c n) (λ (g : Newcomer). G c m (on_newcomer g)) newcomer t.broker.newcomers d.newcomers);
    sessions = all-mapped (S c m) (λ (s : Session). record s { here = option_map change s.here }) t.broker.sessions
        (all-also (S c n) (λ (s : Session). Connection_has c m (option_map change s.here)) (λ s h. by s.here h) t.broker.sessions d.sessions);
  }
    where
      by : (o : Option Connection) → Connection_has c n o → Connection_has c m (option_map change o)
      by None h = tt
      by (Some l) h = connection l h

drops-heard : (c n x : ℕ) (t : Turn) → Drops c n t.broker → Drops c n (act (Hear x) t).broker
drops-heard c n x t d = drops-connections c n n (newcomer_heard x t.broker.clock) (connection_heard x t.broker.clock) (λ g h. newcomer g h (eqb g.conn x)) (λ l h. connection l h (eqb l.conn x)) t d
  where
    newcomer : (g : Newcomer) → G c n g → (b : Bool) → G c n (cond b (record g { heard = t.broker.clock }) g)
    newcomer g h true = h
    newcomer g h false = h

    connection : (l : Connection) → (eqb l.conn c ≡ true → l.drops ≡ n) → (b : Bool) → eqb (cond b (record l { heard = t.broker.clock }) l).conn c ≡ true → (cond b (record l { heard = t.broker.clock }) l).drops ≡ n
    connection l h true = h
    connection l h false = h

drops-others : (c n x : ℕ) (t : Turn) → eqb x c ≡ false → Drops c n t.broker → Drops c n (act (Drop x) t).broker
drops-others c n x t other d = drops-connections c n n (newcomer_dropped x) (connection_dropped x) (λ g h. newcomer g h (eqb g.conn x) refl) (λ l h. connection l h (eqb l.conn x) refl) t d
  where
    no : (k : ℕ) → eqb k x ≡ true → eqb k c ≡ true → ⊥
    no k i j = true≢false (sym j ∙ ap (λ y. eqb y c) (eqb-is k x i) ∙ other)

    newcomer : (g : Newcomer) → G c n g → (b : Bool) → eqb g.conn x ≡ b → G c n (cond b (record g { drops = one_more g.drops }) g)
    newcomer g h true i = λ j. absurd (no g.conn i j)
    newcomer g h false i = h

    connection : (l : Connection) → (eqb l.conn c ≡ true → l.drops ≡ n) → (b : Bool) → eqb l.conn x ≡ b → eqb (cond b (record l { drops = one_more l.drops }) l).conn c ≡ true
        → (cond b (record l { drops = one_more l.drops }) l).drops ≡ n
    connection l h true i = λ j. absurd (no l.conn i j)
    connection l h false i = h

drops-own : (c n : ℕ) (t : Turn) → Drops c n t.broker → Drops c (one_more n) (act (Drop c) t).broker
drops-own c n t d = drops-connections c n (one_more n) (newcomer_dropped c) (connection_dropped c) (λ g h. newcomer g h (eqb g.conn c) refl) (λ l h. connection l h (eqb l.conn c) refl) t d
  where
    newcomer : (g : Newcomer) → G c n g → (b : Bool) → eqb g.conn c ≡ b → G c (one_more n) (cond b (record g { drops = one_more g.drops }) g)
    newcomer g h true i = λ j. ap one_more (h j)
    newcomer g h false i = λ j. absurd (true≢false (sym j ∙ i))

    connection : (l : Connection) → (eqb l.conn c ≡ true → l.drops ≡ n) → (b : Bool) → eqb l.conn c ≡ b → eqb (cond b (record l { drops = one_more l.drops }) l).conn c ≡ true
        → (cond b (record l { drops = one_more l.drops }) l).drops ≡ one_more n
    connection l h true i = λ j. ap one_more (h j)
    connection l h false i = λ j. absurd (true≢false (sym j ∙ i))

at-moment : (c n : ℕ) (b : Broker) (moment : ℕ) → Drops c n b → Drops c n (act (At moment) (begun b)).broker
at-moment c n b moment d = record { newcomers = d.newcomers; sessions = d.sessions }

drops-noted : (c n : ℕ) (b : Broker) (e : Event) → Drops c n b → Drops c (drops_after c e n) (noted b e).broker
drops-noted c n b (Open moment) d = at-moment c n b moment d
drops-noted c n b (Packet x p moment) d = drops-heard c n x (act (At moment) (begun b)) (at-moment c n b moment d)
drops-noted c n b (Fault x f moment) d = at-moment c n b moment d
drops-noted c n b (Closed x moment) d = at-moment c n b moment d
drops-noted c n b (Tick moment) d = at-moment c n b moment d
drops-noted c n b (Refused x sort.Other moment) d = at-moment c n b moment d
drops-noted c n b (Refused x sort.QosZero moment) d = by (eqb x c) refl
  where
    by : (k : Bool) → eqb x c ≡ k → Drops c (cond k (one_more n) n) (noted b (Refused x sort.QosZero moment)).broker
    by true i = subst (λ y. Drops c (one_more n) (noted b (Refused y sort.QosZero moment)).broker) (sym (eqb-is x c i)) (drops-own c n (act (At moment) (begun b)) (at-moment c n b moment d))
    by false i = drops-others c n x (act (At moment) (begun b)) i (at-moment c n b moment d)

-- ---- whole events

drops-step : (c n : ℕ) (b : Broker) (e : Event) → is_opening e ≡ false → Drops c n b → Drops c (drops_after c e n) (step b e).broker
unfolding step
drops-step c n b e o d = drops-acts c (drops_after c e n) (plan (seen (noted b e).broker e) e) (noted b e) (rules-plan (seen (noted b e).broker e) e o).each (drops-noted c n b e d)

drops-opened : (c n : ℕ) (b : Broker) (moment : ℕ) → (eqb (b.given + 1) c ≡ true → 0 ≡ n) → Drops c n b → Drops c n (step b (Open moment)).broker
drops-opened c n b moment new d = subst (Drops c n) (sym (opened-at b moment))
    (record { newcomers = all-append (G c n) b.newcomers ((record { conn = b.given + 1; heard = max b.clock moment; drops = 0 }) ∷ []) d.newcomers (new, tt); sessions = d.sessions })

below : (b : Broker) (c : ℕ) → IsLawful b → knows b c ≡ true → c ≤ b.given
below b c l k = elim (cases_lt b.given c) [
  | inl h ↦ (let a = none-above c b (ordered b l) h in let d = known-places b c k in absurd (omega arith))
  | inr h ↦ h
]

not-new : (b : Broker) (c n : ℕ) → IsLawful b → knows b c ≡ true → eqb (b.given + 1) c ≡ true → 0 ≡ n
not-new b c n l k e = let low = below b c l k in let same : b.given + 1 ≡ c = eqb-is (b.given + 1) c e in absurd (omega arith)

pub drops-kept : (b : Broker) (c : ℕ) (e : Event) → IsLawful b → knows b c ≡ true → knows (step b e).broker c ≡ true → drops_in c (step b e).broker ≡ drops_after c e (drops_in c b)
drops-kept b c e l k after_it = elim (opening-cases e) [
  | inl o ↦ drops-found c (drops_after c e (drops_in c b)) (step b e).broker (drops-step c (drops_in c b) b e o (drops-at b c (l.apart c))) after_it
  | inr x ↦ subst (λ f. knows (step b f).broker c ≡ true → drops_in c (step b f).broker ≡ drops_after c f (drops_in c b)) (sym x.1)
      (λ there. drops-found c (drops_in c b) (step b (Open x.0)).broker (drops-opened c (drops_in c b) b x.0 (not-new b c (drops_in c b) l k) (drops-at b c (l.apart c))) there) after_it
]

-- ---- a refusal

pub same-connections : (c : ℕ) (on_newcomer : Newcomer → Newcomer) (change : Connection → Connection) → ((g : Newcomer) → (on_newcomer g).conn ≡ g.conn) → ((l : Connection) → (change l).conn ≡ l.conn) → (t : Turn)
    → places c (on_connections on_newcomer change t).broker ≡ places c t.broker
same-connections c on_newcomer change newcomer connection t =
    let a = tally-map on_newcomer (is_newcomer c) (λ g. ap (λ n. eqb n c) (newcomer g)) t.broker.newcomers in
    let b = tally-map (λ (s : Session). record s { here = option_map change s.here }) (sits c) (λ s. by s.here) t.broker.sessions in omega arith
  where
    by : (o : Option Connection) → option_map_or (λ (l : Connection). eqb l.conn c) (option_map change o) false ≡ option_map_or (λ (l : Connection). eqb l.conn c) o false
    by None = refl
    by (Some l) = ap (λ n. eqb n c) (connection l)

noted-known : (b : Broker) (c moment : ℕ) → knows b c ≡ true → knows (noted b (Refused c sort.QosZero moment)).broker c ≡ true
noted-known b c moment k = some-known (noted b (Refused c sort.QosZero moment)).broker c
    (let a = same-connections c (newcomer_dropped c) (connection_dropped c) (dropped-conn c) (dropped-connection c) (act (At moment) (begun b)) in let d = known-places b c k in omega arith)

noted-drops : (b : Broker) (c moment : ℕ) → IsLawful b → knows b c ≡ true → drops_in c (noted b (Refused c sort.QosZero moment)).broker ≡ one_more (drops_in c b)
noted-drops b c moment l k =
    drops-found c (one_more (drops_in c b)) (noted b (Refused c sort.QosZero moment)).broker
    (drops-own c (drops_in c b) (act (At moment) (begun b)) (at-moment c (drops_in c b) b moment (drops-at b c (l.apart c)))) (noted-known b c moment k)

spent-plan : (b : Broker) (c moment : ℕ) (k : Bool) → is_spent b.limit (drops_in c (noted b (Refused c sort.QosZero moment)).broker) ≡ k
    → step b (Refused c sort.QosZero moment) ≡ acts (cond k (shut c) []) (noted b (Refused c sort.QosZero moment))
unfolding step
spent-plan b c moment k e = ap (λ x. acts (cond x (shut c) []) (noted b (Refused c sort.QosZero moment))) e

-- one that doesn't close it is noted, and nothing else is done
pub drop-noted : (b : Broker) (c moment : ℕ) → IsLawful b → knows b c ≡ true → is_spent b.limit (one_more (drops_in c b)) ≡ false
    → step b (Refused c sort.QosZero moment) ≡ noted b (Refused c sort.QosZero moment)
drop-noted b c moment l k e = spent-plan b c moment false (ap (is_spent b.limit) (noted-drops b c moment l k) ∙ e)

free : Newcomer
free = record { conn = 0; heard = 0; drops = 0 }

pub drop-closes : (b : Broker) (c moment : ℕ) → IsLawful b → knows b c ≡ true → is_spent b.limit (one_more (drops_in c b)) ≡ true
    → is_closed_in c (step b (Refused c sort.QosZero moment)) ≡ true
drop-closes b c moment l k e =
    ap (is_closed_in c) (spent-plan b c moment true (ap (is_spent b.limit) (noted-drops b c moment l k) ∙ e)) ∙ closed-shut c free (noted b (Refused c sort.QosZero moment))

pub other-closes : (b : Broker) (c moment : ℕ) → is_closed_in c (step b (Refused c sort.Other moment)) ≡ true
unfolding step
other-closes b c moment = closed-shut c free (noted b (Refused c sort.Other moment))

-- ---- few

unspent : (limit : ℕ) → is_spent limit 0 ≡ false
unspent limit = by (is_spent limit 0) refl
  where
    by : (k : Bool) → leb (max 1 limit) 0 ≡ k → k ≡ false
    by true e = absurd (no (leb-true (max 1 limit) 0 e))
      where
        no : max 1 limit ≤ 0 → ⊥
        no h = omega arith
    by false e = refl

new-few : (b : Broker) (c : ℕ) (e : Event) → IsLawful b → knows b c ≡ false → knows (step b e).broker c ≡ true → drops_in c (step b e).broker ≡ 0
new-few b c e l none there = elim (opening-cases e) [
  | inl o ↦ (let a = less-step c b e l o in let d = unknown-places b c none in let f = known-places (step b e).broker c there in absurd (omega arith))
  | inr x ↦ subst (λ f. knows (step b f).broker c ≡ true → drops_in c (step b f).broker ≡ 0) (sym x.1)
      (λ k. drops-found c 0 (step b (Open x.0)).broker (drops-opened c 0 b x.0 (λ i. refl) nothing) k) there
]
  where
    nothing : Drops c 0 b
    nothing = record {
      newcomers = none-of (is_newcomer c) (λ (g : Newcomer). g.drops ≡ 0) b.newcomers (let d = unknown-places b c none in omega arith);
      sessions = all-also (λ (s : Session). sits c s ≡ true → option_map_or (λ (y : Connection). y.drops) s.here 0 ≡ 0) (S c 0) (λ s k. sits-connection c 0 s.here k) b.sessions
          (none-of (sits c) (λ (s : Session). option_map_or (λ (y : Connection). y.drops) s.here 0 ≡ 0) b.sessions (let d = unknown-places b c none in omega arith));
    }

drop-cases : (c : ℕ) (e : Event) → (is_drop c e ≡ false) ⊎ ((moment : ℕ) × (e ≡ Refused c sort.QosZero moment))
drop-cases c (Open moment) = inl refl
drop-cases c (Packet x p moment) = inl refl
drop-cases c (Fault x f moment) = inl refl
drop-cases c (Closed x moment) = inl refl
drop-cases c (Tick moment) = inl refl
drop-cases c (Refused x sort.Other moment) = inl refl
drop-cases c (Refused x sort.QosZero moment) = by (eqb x c) refl
  where
    by : (k : Bool) → eqb x c ≡ k → (k ≡ false) ⊎ ((m : ℕ) × (Refused x sort.QosZero moment ≡ Refused c sort.QosZero m))
    by true i = inr (moment, ap (λ y. Refused y sort.QosZero moment) (eqb-is x c i))
    by false i = inl refl

few-own : (b : Broker) (c moment : ℕ) → IsLawful b → knows b c ≡ true → knows (step b (Refused c sort.QosZero moment)).broker c ≡ true
    → is_spent b.limit (one_more (drops_in c b)) ≡ false
few-own b c moment l k there = by (is_spent b.limit (one_more (drops_in c b))) refl
  where
    by : (s : Bool) → is_spent b.limit (one_more (drops_in c b)) ≡ s → s ≡ false
    by true i = absurd (true≢false (sym there ∙ closed-gone b c (Refused c sort.QosZero moment) l (drop-closes b c moment l k i)))
    by false i = refl

pub few-first : (limit : ℕ) → HasFew (fresh_broker limit)
few-first limit = λ c k. absurd (true≢false (sym k))

pub few-step : (b : Broker) (e : Event) → IsLawful b → HasFew b → HasFew (step b e).broker
few-step b e l few = λ c there. ap (λ m. is_spent m (drops_in c (step b e).broker)) (limit-step b e l) ∙ by c there (knows b c) refl
  where
    known : (c : ℕ) → knows (step b e).broker c ≡ true → knows b c ≡ true → is_spent b.limit (drops_in c (step b e).broker) ≡ false
    known c there k = ap (is_spent b.limit) (drops-kept b c e l k there) ∙ elim (drop-cases c e) [
      | inl other ↦ ap (λ x. is_spent b.limit (cond x (one_more (drops_in c b)) (drops_in c b))) other ∙ few c k
      | inr x ↦ subst (λ f. knows (step b f).broker c ≡ true → is_spent b.limit (drops_after c f (drops_in c b)) ≡ false) (sym x.1)
          (λ h. ap (λ y. is_spent b.limit (cond y (one_more (drops_in c b)) (drops_in c b))) (eqb-self c) ∙ few-own b c x.0 l k h) there
    ]

    by : (c : ℕ) → knows (step b e).broker c ≡ true → (k : Bool) → knows b c ≡ k → is_spent b.limit (drops_in c (step b e).broker) ≡ false
    by c there true i = known c there i
    by c there false i = ap (is_spent b.limit) (new-few b c e l i there) ∙ unspent b.limit
