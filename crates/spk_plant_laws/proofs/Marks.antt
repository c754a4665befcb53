-- Each PUBLISH that a broker sends has an identifier exactly at QoS 1, whatever came to it (MQTT 3.1.1, section 2.3.1).
use Rattle.std.proofs.Common.{◌≡◌, refl, ℕ, zero, suc, Bool, true, false, not, ◌&&◌, ◌||◌, cond, List, [], ◌∷◌, ◌++◌, Option, Some, None, is_some, fold}
use Rattle.std.specs.List.{flat_map, list_any, AllByRecursion}
use Rattle.std.specs.Option.{option_map}
use Rattle.spk_packets.specs.Fault.{first_of}
use Rattle.spk_packets.specs.Message.{Message as Packet, WillData, Connect, ConnAck, Publish, PubAck, Subscribe, SubAck, Unsubscribe, UnsubAck, PingReq, PingResp, Disconnect}
use Rattle.spk_packets.specs.Spelling.{is_empty, unwritable}
use Rattle.spk_topics.specs.Text.{filter_refusal, topic_refusal}
use Rattle.spk_session.specs.declared.answer.Sort.TheVariants as sort
use Rattle.spk_session.specs.PacketIds.{next_id}
use Rattle.spk_session.specs.Step.{has_room}
use Rattle.spk_broker_rules.specs.Data.{Broker, InFlight, Newcomer, Connection, AppMessage, Session, Send}
use Rattle.spk_broker_rules.specs.Plan as event
use Rattle.spk_broker_rules.specs.Plan.{Act, Event, Seen, plan, before}
use Rattle.spk_broker_rules.specs.Step.{Turn, accept_of, act, acts, begun, bursts, conn_at, give_at, hand, hand_at, leave_at, forget_at, most, noted, numbered, offer, offer_at, other_grants, route, route_one, route_some, seen, serve, serve_at, step, take_at, ack_at, take_up, with_key, away_for, connection_of, session_by, swap, with_sessions}
use Rattle.spk_broker_rules.specs.Words.{best, codes_of, granted_of, level, numbered_packet, offers_to, with_entry, plain_packet, resent, sent_as, to_connection, will_message}

abbrev pub HasMark : ℕ → Option ℕ → Type 0
HasMark qos None = qos ≡ 0
HasMark qos (Some id) = qos ≡ 1

abbrev pub IsMarked : Packet → Type 0
IsMarked (Publish dup qos retain topic id payload) = HasMark qos id
IsMarked (ConnAck present code) = Unit {0}
IsMarked (Connect client clean alive will) = Unit {0}
IsMarked (PubAck id) = Unit {0}
IsMarked (Subscribe id filters) = Unit {0}
IsMarked (SubAck id given) = Unit {0}
IsMarked (Unsubscribe id filters) = Unit {0}
IsMarked (UnsubAck id) = Unit {0}
IsMarked PingReq = Unit {0}
IsMarked PingResp = Unit {0}
IsMarked Disconnect = Unit {0}

abbrev pub AreMarked : List Send → Type 0
AreMarked ss = AllByRecursion (λ (s : Send). IsMarked s.packet) ss

mark-append : (xs ys : List Send) → AreMarked xs → AreMarked ys → AreMarked (xs ++ ys)
mark-append [] ys x y = y
mark-append (s ∷ xs) ys x y = (x.0, mark-append xs ys x.1 y)

-- ---- what is handed to a session

mark-connection : (o : Option ℕ) (p : Packet) → IsMarked p → AreMarked (to_connection o p)
mark-connection None p k = tt
mark-connection (Some conn) p k = (k, tt)

mark-hand : (q : ℕ) (app_message : AppMessage) (s : Session) → AreMarked (hand_at q app_message s).sends
mark-hand zero app_message s = mark-connection (conn_at s) (plain_packet app_message) refl
mark-hand (suc q) app_message s = by (has_room s.used)
  where
    by : (b : Bool) → AreMarked (cond b (numbered s app_message (next_id s.used s.last)) (bursts s)).sends
    by true = mark-connection (conn_at s) (numbered_packet false (next_id s.used s.last) app_message) refl
    by false = tt

mark-serve : (m : AppMessage) (s : Session) → AreMarked (serve m s).sends
mark-serve m s = by (level m.qos (best m.topic s.grants))
  where
    by : (o : Option ℕ) → AreMarked (serve_at o m s).sends
    by None = tt
    by (Some q) = mark-hand (sent_as m q false).qos (sent_as m q false) s

mark-all : (m : AppMessage) (ss : List Session) → AreMarked (flat_map (λ (s : Session). (serve m s).sends) ss)
mark-all m [] = tt
mark-all m (s ∷ ss) = mark-append (serve m s).sends (flat_map (λ (x : Session). (serve m x).sends) ss) (mark-serve m s) (mark-all m ss)

mark-some : (n : ℕ) (t : Turn) → AreMarked t.sends → AreMarked (route_some n t).sends
unfolding route_some
mark-some zero t k = k
mark-some (suc n) t k = by t.waiting (λ m ms. mark-some n (route_one m (record t { waiting = ms })) (mark-append t.sends (flat_map (λ (s : Session). (serve m s).sends) t.broker.sessions) k (mark-all m t.broker.sessions)))
  where
    by : (ws : List AppMessage) → ((m : AppMessage) (ms : List AppMessage) → AreMarked (route_some n (route_one m (record t { waiting = ms }))).sends) →
        AreMarked (elim ws as (λ _. Turn) [ [] ↦ t | m ∷ ms ↦ route_some n (route_one m (record t { waiting = ms })) ]).sends
    by [] rest = k
    by (m ∷ ms) rest = rest m ms

mark-route : (t : Turn) → AreMarked t.sends → AreMarked (route t).sends
unfolding route
mark-route t k = mark-some (most t) t k

mark-resent : (conn : ℕ) (in_flight : List InFlight) → AreMarked (resent conn in_flight)
mark-resent conn [] = tt
mark-resent conn (c ∷ cs) = (refl, mark-resent conn cs)

mark-take-up : (o : Option Session) (client : List ℕ) (kept : Bool) (connection : Connection) (t : Turn) → AreMarked t.sends → AreMarked (take_up o client kept connection t).sends
mark-take-up None client kept connection t k = mark-append t.sends _ k (tt, tt)
mark-take-up (Some s) client kept connection t k = mark-append t.sends _ k (tt, mark-resent connection.conn s.in_flight)

mark-accept : (o : Option Newcomer) (client : List ℕ) (kept : Bool) (alive : ℕ) (will : Option AppMessage) (t : Turn) → AreMarked t.sends → AreMarked (accept_of o client kept alive will t).sends
mark-accept None client kept alive will t k = k
mark-accept (Some g) client kept alive will t k = mark-take-up (away_for kept client t.broker.sessions) client kept (connection_of g alive will) t k

mark-offer : (key : ℕ) (t : Turn) (app_message : AppMessage) → AreMarked t.sends → AreMarked (offer key t app_message).sends
mark-offer key t app_message k = by (with_key key t.broker.sessions)
  where
    by : (o : Option Session) → AreMarked (offer_at o key app_message t).sends
    by None = k
    by (Some s) = mark-append t.sends (hand app_message s).sends k (mark-hand app_message.qos app_message s)

mark-fold : (key : ℕ) (app_messages : List AppMessage) (t : Turn) → AreMarked t.sends → AreMarked (fold (offer key) t app_messages).sends
mark-fold key [] t k = k
mark-fold key (p ∷ ps) t k = mark-fold key ps (offer key t p) (mark-offer key t p k)

abbrev suback : (conn id : ℕ) → List ℕ → List Send
suback conn id given = (record { conn = conn; packet = SubAck id given }) ∷ []

mark-give : (o : Option Session) (conn id : ℕ) (entries : List (List ℕ × ℕ)) (t : Turn) → AreMarked t.sends → AreMarked (give_at o conn id entries t).sends
mark-give None conn id entries t k = k
mark-give (Some s) conn id entries t k = mark-fold s.key (flat_map (offers_to t.broker.retained) (granted_of (other_grants s t.broker.sessions) s.grants entries))
    (record (with_sessions (swap s.key ((record s { grants = fold (with_entry (other_grants s t.broker.sessions)) s.grants entries }) ∷ []) t.broker.sessions) t) {
      sends = t.sends ++ suback conn id (codes_of (other_grants s t.broker.sessions) s.grants entries);
    })
    (mark-append t.sends (suback conn id (codes_of (other_grants s t.broker.sessions) s.grants entries)) k (tt, tt))

-- ---- acts

abbrev IsMarkedAct : Act → Type 0
IsMarkedAct (event.Say conn p) = IsMarked p
IsMarkedAct event.Opens = Unit {0}
IsMarkedAct (event.At moment) = Unit {0}
IsMarkedAct (event.Hear conn) = Unit {0}
IsMarkedAct (event.Drop conn) = Unit {0}
IsMarkedAct (event.Leave conn wills) = Unit {0}
IsMarkedAct (event.Tell conn) = Unit {0}
IsMarkedAct (event.Queue app_message) = Unit {0}
IsMarkedAct event.Route = Unit {0}
IsMarkedAct (event.Forget client) = Unit {0}
IsMarkedAct (event.Accept conn client kept alive will) = Unit {0}
IsMarkedAct (event.Give conn id entries) = Unit {0}
IsMarkedAct (event.Take conn filters) = Unit {0}
IsMarkedAct (event.Ack conn id) = Unit {0}

abbrev AreMarkedActs : List Act → Type 0
AreMarkedActs [] = Unit {0}
AreMarkedActs (a ∷ rest) = IsMarkedAct a × AreMarkedActs rest

mark-act : (a : Act) (t : Turn) → IsMarkedAct a → AreMarked t.sends → AreMarked (act a t).sends
mark-act (event.Say conn p) t good k = mark-append t.sends _ k (good, tt)
mark-act event.Opens t good k = k
mark-act (event.At moment) t good k = k
mark-act (event.Hear conn) t good k = k
mark-act (event.Drop conn) t good k = k
mark-act (event.Leave conn wills) t good k = by (session_by conn t.broker.sessions)
  where
    by : (o : Option Session) → AreMarked (leave_at o conn wills t).sends
    by None = k
    by (Some s) = k
mark-act (event.Tell conn) t good k = k
mark-act (event.Queue app_message) t good k = k
mark-act event.Route t good k = mark-route t k
mark-act (event.Forget client) t good k = by _
  where
    by : (o : Option Session) → AreMarked (forget_at o t).sends
    by None = k
    by (Some s) = k
mark-act (event.Accept conn client kept alive will) t good k = mark-accept _ client kept alive will t k
mark-act (event.Give conn id entries) t good k = mark-give _ conn id entries t k
mark-act (event.Take conn filters) t good k = by _
  where
    by : (o : Option Session) → AreMarked (take_at o filters t).sends
    by None = k
    by (Some s) = k
mark-act (event.Ack conn id) t good k = by _
  where
    by : (o : Option Session) → AreMarked (ack_at o id t).sends
    by None = k
    by (Some s) = k

mark-acts : (xs : List Act) (t : Turn) → AreMarkedActs xs → AreMarked t.sends → AreMarked (acts xs t).sends
mark-acts [] t good k = k
mark-acts (a ∷ xs) t good k = mark-acts xs (act a t) good.1 (mark-act a t good.0 k)

-- ---- events

acts-append : (xs ys : List Act) → AreMarkedActs xs → AreMarkedActs ys → AreMarkedActs (xs ++ ys)
acts-append [] ys x y = y
acts-append (a ∷ xs) ys x y = (x.0, acts-append xs ys x.1 y)

acts-cond : (b : Bool) (xs ys : List Act) → AreMarkedActs xs → AreMarkedActs ys → AreMarkedActs (cond b xs ys)
acts-cond true xs ys x y = x
acts-cond false xs ys x y = y

mark-shut : (conn : ℕ) → AreMarkedActs (event.shut conn)
mark-shut conn = (tt, (tt, (tt, tt)))

mark-away : (conn code : ℕ) → AreMarkedActs (event.turn_away conn code)
mark-away conn code = (tt, (tt, (tt, (tt, tt))))

mark-join : (older : Option ℕ) (conn : ℕ) (client : List ℕ) (clean : Bool) (alive : ℕ) (will : Option AppMessage) → AreMarkedActs (event.join older conn client clean alive will)
mark-join None conn client clean alive will = acts-append (cond clean (event.Forget client ∷ []) []) _ (acts-cond clean (event.Forget client ∷ []) [] (tt, tt) tt) (tt, tt)
mark-join (Some older) conn client clean alive will = (tt, (tt, acts-append (cond clean (event.Forget client ∷ []) []) _ (acts-cond clean (event.Forget client ∷ []) [] (tt, tt) tt) (tt, (tt, tt))))

mark-connect : (s : Seen) (conn : ℕ) (client : List ℕ) (clean : Bool) (alive : ℕ) (will : Option WillData) → AreMarkedActs (event.connect s conn client clean alive will)
mark-connect s conn client clean alive will =
    acts-cond (is_empty client && not clean) (event.turn_away conn 2) _ (mark-away conn 2)
    (acts-cond (event.has_bad_topic will) (event.shut conn) _ (mark-shut conn)
    (acts-cond (not clean && not s.welcome) (event.turn_away conn 3) _ (mark-away conn 3) (mark-join s.older conn client clean alive (option_map will_message will))))

mark-first : (s : Seen) (conn : ℕ) (p : Packet) → AreMarkedActs (event.first_packet s conn p)
mark-first s conn (Connect client clean alive will) = mark-connect s conn client clean alive will
mark-first s conn (ConnAck present code) = mark-shut conn
mark-first s conn (Publish dup qos retain topic id payload) = mark-shut conn
mark-first s conn (PubAck id) = mark-shut conn
mark-first s conn (Subscribe id filters) = mark-shut conn
mark-first s conn (SubAck id given) = mark-shut conn
mark-first s conn (Unsubscribe id filters) = mark-shut conn
mark-first s conn (UnsubAck id) = mark-shut conn
mark-first s conn PingReq = mark-shut conn
mark-first s conn PingResp = mark-shut conn
mark-first s conn Disconnect = mark-shut conn

mark-puback : (conn : ℕ) (id : Option ℕ) → AreMarkedActs (event.puback conn id)
mark-puback conn None = tt
mark-puback conn (Some id) = (tt, tt)

mark-publish : (conn : ℕ) (id : Option ℕ) (app_message : AppMessage) → AreMarkedActs (event.publish conn id app_message)
mark-publish conn id app_message =
    acts-cond (is_some (topic_refusal app_message.topic)) (event.shut conn) _ (mark-shut conn)
    (acts-append (event.puback conn id) (event.Queue app_message ∷ event.Route ∷ []) (mark-puback conn id) (tt, (tt, tt)))

mark-next : (s : Seen) (conn : ℕ) (p : Packet) → AreMarkedActs (event.next_packet s conn p)
mark-next s conn (Connect client clean alive will) = mark-shut conn
mark-next s conn (ConnAck present code) = mark-shut conn
mark-next s conn (Publish dup qos retain topic id payload) = mark-publish conn id (record { topic = topic; payload = payload; qos = qos; retain = retain })
mark-next s conn (PubAck id) = (tt, tt)
mark-next s conn (Subscribe id filters) =
    acts-cond (list_any (λ (e : List ℕ × ℕ). is_some (filter_refusal e.0)) filters || s.heavy) (event.shut conn) (event.Give conn id filters ∷ event.Route ∷ []) (mark-shut conn) (tt, (tt, tt))
mark-next s conn (SubAck id given) = mark-shut conn
mark-next s conn (Unsubscribe id filters) = acts-cond (event.has_bad_filter filters) (event.shut conn) (event.Take conn filters ∷ event.Say conn (UnsubAck id) ∷ []) (mark-shut conn) (tt, (tt, tt))
mark-next s conn (UnsubAck id) = mark-shut conn
mark-next s conn PingReq = (tt, tt)
mark-next s conn PingResp = mark-shut conn
mark-next s conn Disconnect = (tt, tt)

mark-packet : (s : Seen) (conn : ℕ) (p : Packet) → AreMarkedActs (event.packet s conn p)
mark-packet s conn p =
    acts-cond (is_some (first_of (unwritable p))) (event.shut conn) _ (mark-shut conn)
    (acts-cond s.joined (event.next_packet s conn p) (event.first_packet s conn p) (mark-next s conn p) (mark-first s conn p))

mark-silent : (conns : List ℕ) → AreMarkedActs (flat_map (λ conn. event.Leave conn true ∷ event.Tell conn ∷ []) conns)
mark-silent [] = tt
mark-silent (c ∷ cs) = (tt, (tt, mark-silent cs))

mark-plan : (s : Seen) (e : Event) → AreMarkedActs (plan s e)
mark-plan s (event.Open moment) = (tt, tt)
mark-plan s (event.Packet conn p moment) = mark-packet s conn p
mark-plan s (event.Fault conn f moment) =
    acts-cond (event.is_bad_level f && not s.joined) (event.turn_away conn 1) (event.shut conn) (mark-away conn 1) (mark-shut conn)
mark-plan s (event.Closed conn moment) = (tt, (tt, tt))
mark-plan s (event.Tick moment) =
    acts-append (flat_map (λ conn. event.Leave conn true ∷ event.Tell conn ∷ []) s.silent) (event.Route ∷ []) (mark-silent s.silent) (tt, tt)
mark-plan s (event.Refused conn x moment) = acts-cond (event.is_fatal x s.spent) (event.shut conn) [] (mark-shut conn) tt

mark-before : (e : Event) → AreMarkedActs (before e)
mark-before (event.Open moment) = (tt, tt)
mark-before (event.Packet conn p moment) = (tt, (tt, tt))
mark-before (event.Fault conn f moment) = (tt, tt)
mark-before (event.Closed conn moment) = (tt, tt)
mark-before (event.Tick moment) = (tt, tt)
mark-before (event.Refused conn sort.QosZero moment) = (tt, (tt, tt))
mark-before (event.Refused conn sort.Other moment) = (tt, tt)

pub marked-step : (b : Broker) (e : Event) → AreMarked (step b e).sends
unfolding step
marked-step b e = mark-acts (plan (seen (noted b e).broker e) e) (noted b e) (mark-plan (seen (noted b e).broker e) e) (mark-acts (before e) (begun b) (mark-before e) tt)
