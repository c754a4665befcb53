-- In a plant no CONNACK turns a client away: each CONNECT asks for a clean session, and each frame is a packet.
use Rattle.std.proofs.Common.{◌≡◌, sym, refl, subst, ℕ, zero, suc, ◌≤◌, Bool, true, false, ◌&&◌, ◌||◌, cond, List, [], ◌∷◌, ◌++◌, Option, Some, None, is_some, fold, arith}
use Rattle.std.specs.List.{flat_map, AllByRecursion}
use Rattle.std.specs.Option.{option_map}
use Rattle.spk_packets.specs.Fault.{first_of}
use Rattle.spk_packets.specs.Message.{Message as Packet, WillData, Connect, ConnAck, Publish, PubAck, Subscribe, SubAck, Unsubscribe, UnsubAck, PingReq, PingResp, Disconnect}
use Rattle.spk_packets.specs.Spelling.{unwritable}
use Rattle.spk_session.specs.declared.answer.Sort.TheVariants as sort
use Rattle.spk_session.specs.PacketIds.{next_id}
use Rattle.spk_session.specs.Step.{has_room}
use Rattle.spk_broker_rules.specs.Data.{Broker, InFlight, Newcomer, Connection, AppMessage, Session, Send}
use Rattle.spk_broker_rules.specs.Plan as event
use Rattle.spk_broker_rules.specs.Plan.{Act, Event, Seen, plan, before}
use Rattle.spk_broker_rules.specs.Step.{Turn, accept_of, act, acts, begun, bursts, conn_at, give_at, hand, hand_at, leave_at, forget_at, most, noted, numbered, offer, offer_at, other_grants, route, route_one, route_some, seen, serve, serve_at, step, take_at, ack_at, take_up, with_key, away_for, connection_of, session_by, swap, with_sessions}
use Rattle.spk_broker_rules.specs.Words.{best, codes_of, granted_of, level, numbered_packet, offers_to, with_entry, option_list, plain_packet, resent, sent_as, to_connection}
use Rattle.spk_plant_broker.specs.Data.{Input, Says, Breaks, Cuts, Ends}

-- a CONNACK of code 0, and a PUBLISH at QoS 0 or 1
abbrev pub IsKind : Packet → Type 0
IsKind (ConnAck present code) = code ≡ 0
IsKind (Publish dup qos retain topic id payload) = qos ≤ 1
IsKind (Connect client clean alive will) = Unit {0}
IsKind (PubAck id) = Unit {0}
IsKind (Subscribe id filters) = Unit {0}
IsKind (SubAck id given) = Unit {0}
IsKind (Unsubscribe id filters) = Unit {0}
IsKind (UnsubAck id) = Unit {0}
IsKind PingReq = Unit {0}
IsKind PingResp = Unit {0}
IsKind Disconnect = Unit {0}

abbrev pub AreKind : List Send → Type 0
AreKind ss = AllByRecursion (λ (s : Send). IsKind s.packet) ss

pub kind-append : (xs ys : List Send) → AreKind xs → AreKind ys → AreKind (xs ++ ys)
kind-append [] ys x y = y
kind-append (s ∷ xs) ys x y = (x.0, kind-append xs ys x.1 y)

kind-connection : (o : Option ℕ) (p : Packet) → IsKind p → AreKind (to_connection o p)
kind-connection None p k = tt
kind-connection (Some conn) p k = (k, tt)

kind-hand : (q : ℕ) (app_message : AppMessage) (s : Session) → AreKind (hand_at q app_message s).sends
kind-hand zero app_message s = kind-connection (conn_at s) (plain_packet app_message) (omega arith)
kind-hand (suc q) app_message s = by (has_room s.used)
  where
    by : (b : Bool) → AreKind (cond b (numbered s app_message (next_id s.used s.last)) (bursts s)).sends
    by true = kind-connection (conn_at s) (numbered_packet false (next_id s.used s.last) app_message) (omega arith)
    by false = tt

kind-serve : (m : AppMessage) (s : Session) → AreKind (serve m s).sends
kind-serve m s = by (level m.qos (best m.topic s.grants))
  where
    by : (o : Option ℕ) → AreKind (serve_at o m s).sends
    by None = tt
    by (Some q) = kind-hand (sent_as m q false).qos (sent_as m q false) s

kind-all : (m : AppMessage) (ss : List Session) → AreKind (flat_map (λ (s : Session). (serve m s).sends) ss)
kind-all m [] = tt
kind-all m (s ∷ ss) = kind-append (serve m s).sends (flat_map (λ (x : Session). (serve m x).sends) ss) (kind-serve m s) (kind-all m ss)

kind-some : (n : ℕ) (t : Turn) → AreKind t.sends → AreKind (route_some n t).sends
unfolding route_some
kind-some zero t k = k
kind-some (suc n) t k = by t.waiting (λ m ms. kind-some n (route_one m (record t { waiting = ms })) (kind-append t.sends (flat_map (λ (s : Session). (serve m s).sends) t.broker.sessions) k (kind-all m t.broker.sessions)))
  where
    by : (ws : List AppMessage) → ((m : AppMessage) (ms : List AppMessage) → AreKind (route_some n (route_one m (record t { waiting = ms }))).sends) →
        AreKind (elim ws as (λ _. Turn) [ [] ↦ t | m ∷ ms ↦ route_some n (route_one m (record t { waiting = ms })) ]).sends
    by [] rest = k
    by (m ∷ ms) rest = rest m ms

kind-route : (t : Turn) → AreKind t.sends → AreKind (route t).sends
unfolding route
kind-route t k = kind-some (most t) t k

kind-resent : (conn : ℕ) (in_flight : List InFlight) → AreKind (resent conn in_flight)
kind-resent conn [] = tt
kind-resent conn (c ∷ cs) = (omega arith, kind-resent conn cs)

kind-take-up : (o : Option Session) (client : List ℕ) (kept : Bool) (connection : Connection) (t : Turn) → AreKind t.sends → AreKind (take_up o client kept connection t).sends
kind-take-up None client kept connection t k = kind-append t.sends _ k (refl, tt)
kind-take-up (Some s) client kept connection t k = kind-append t.sends _ k (refl, kind-resent connection.conn s.in_flight)

kind-accept : (o : Option Newcomer) (client : List ℕ) (kept : Bool) (alive : ℕ) (will : Option AppMessage) (t : Turn) → AreKind t.sends → AreKind (accept_of o client kept alive will t).sends
kind-accept None client kept alive will t k = k
kind-accept (Some g) client kept alive will t k = kind-take-up (away_for kept client t.broker.sessions) client kept (connection_of g alive will) t k

kind-offer : (key : ℕ) (t : Turn) (app_message : AppMessage) → AreKind t.sends → AreKind (offer key t app_message).sends
kind-offer key t app_message k = by (with_key key t.broker.sessions)
  where
    by : (o : Option Session) → AreKind (offer_at o key app_message t).sends
    by None = k
    by (Some s) = kind-append t.sends (hand app_message s).sends k (kind-hand app_message.qos app_message s)

kind-fold : (key : ℕ) (app_messages : List AppMessage) (t : Turn) → AreKind t.sends → AreKind (fold (offer key) t app_messages).sends
kind-fold key [] t k = k
kind-fold key (p ∷ ps) t k = kind-fold key ps (offer key t p) (kind-offer key t p k)

abbrev suback : (conn id : ℕ) → List ℕ → List Send
suback conn id given = (record { conn = conn; packet = SubAck id given }) ∷ []

kind-give : (o : Option Session) (conn id : ℕ) (entries : List (List ℕ × ℕ)) (t : Turn) → AreKind t.sends → AreKind (give_at o conn id entries t).sends
kind-give None conn id entries t k = k
kind-give (Some s) conn id entries t k = kind-fold s.key (flat_map (offers_to t.broker.retained) (granted_of (other_grants s t.broker.sessions) s.grants entries))
    (record (with_sessions (swap s.key ((record s { grants = fold (with_entry (other_grants s t.broker.sessions)) s.grants entries }) ∷ []) t.broker.sessions) t) {
      sends = t.sends ++ suback conn id (codes_of (other_grants s t.broker.sessions) s.grants entries);
    })
    (kind-append t.sends (suback conn id (codes_of (other_grants s t.broker.sessions) s.grants entries)) k (tt, tt))

-- ---- acts

abbrev IsKindAct : Act → Type 0
IsKindAct (event.Say conn p) = IsKind p
IsKindAct event.Opens = Unit {0}
IsKindAct (event.At moment) = Unit {0}
IsKindAct (event.Hear conn) = Unit {0}
IsKindAct (event.Drop conn) = Unit {0}
IsKindAct (event.Leave conn wills) = Unit {0}
IsKindAct (event.Tell conn) = Unit {0}
IsKindAct (event.Queue app_message) = Unit {0}
IsKindAct event.Route = Unit {0}
IsKindAct (event.Forget client) = Unit {0}
IsKindAct (event.Accept conn client kept alive will) = Unit {0}
IsKindAct (event.Give conn id entries) = Unit {0}
IsKindAct (event.Take conn filters) = Unit {0}
IsKindAct (event.Ack conn id) = Unit {0}

abbrev AreKindActs : List Act → Type 0
AreKindActs [] = Unit {0}
AreKindActs (a ∷ rest) = IsKindAct a × AreKindActs rest

kind-act : (a : Act) (t : Turn) → IsKindAct a → AreKind t.sends → AreKind (act a t).sends
kind-act (event.Say conn p) t good k = kind-append t.sends _ k (good, tt)
kind-act event.Opens t good k = k
kind-act (event.At moment) t good k = k
kind-act (event.Hear conn) t good k = k
kind-act (event.Drop conn) t good k = k
kind-act (event.Leave conn wills) t good k = by (session_by conn t.broker.sessions)
  where
    by : (o : Option Session) → AreKind (leave_at o conn wills t).sends
    by None = k
    by (Some s) = k
kind-act (event.Tell conn) t good k = k
kind-act (event.Queue app_message) t good k = k
kind-act event.Route t good k = kind-route t k
kind-act (event.Forget client) t good k = by _
  where
    by : (o : Option Session) → AreKind (forget_at o t).sends
    by None = k
    by (Some s) = k
kind-act (event.Accept conn client kept alive will) t good k = kind-accept _ client kept alive will t k
kind-act (event.Give conn id entries) t good k = kind-give _ conn id entries t k
kind-act (event.Take conn filters) t good k = by _
  where
    by : (o : Option Session) → AreKind (take_at o filters t).sends
    by None = k
    by (Some s) = k
kind-act (event.Ack conn id) t good k = by _
  where
    by : (o : Option Session) → AreKind (ack_at o id t).sends
    by None = k
    by (Some s) = k

kind-acts : (xs : List Act) (t : Turn) → AreKindActs xs → AreKind t.sends → AreKind (acts xs t).sends
kind-acts [] t good k = k
kind-acts (a ∷ xs) t good k = kind-acts xs (act a t) good.1 (kind-act a t good.0 k)

-- ---- events

abbrev pub JoinsClean : Packet → Type 0
JoinsClean (Connect client clean alive will) = clean ≡ true
JoinsClean (ConnAck present code) = Unit {0}
JoinsClean (Publish dup qos retain topic id payload) = Unit {0}
JoinsClean (PubAck id) = Unit {0}
JoinsClean (Subscribe id filters) = Unit {0}
JoinsClean (SubAck id given) = Unit {0}
JoinsClean (Unsubscribe id filters) = Unit {0}
JoinsClean (UnsubAck id) = Unit {0}
JoinsClean PingReq = Unit {0}
JoinsClean PingResp = Unit {0}
JoinsClean Disconnect = Unit {0}

abbrev pub IsCleanInput : Input → Type 0
IsCleanInput (Says p) = JoinsClean p
IsCleanInput (Breaks f) = ⊥
IsCleanInput Cuts = Unit {0}
IsCleanInput Ends = Unit {0}

abbrev pub IsCleanEvent : Event → Type 0
IsCleanEvent (event.Open moment) = Unit {0}
IsCleanEvent (event.Packet conn p moment) = JoinsClean p
IsCleanEvent (event.Fault conn f moment) = ⊥
IsCleanEvent (event.Closed conn moment) = Unit {0}
IsCleanEvent (event.Tick moment) = ⊥
IsCleanEvent (event.Refused conn s moment) = Unit {0}

acts-append : (xs ys : List Act) → AreKindActs xs → AreKindActs ys → AreKindActs (xs ++ ys)
acts-append [] ys x y = y
acts-append (a ∷ xs) ys x y = (x.0, acts-append xs ys x.1 y)

acts-cond : (b : Bool) (xs ys : List Act) → AreKindActs xs → AreKindActs ys → AreKindActs (cond b xs ys)
acts-cond true xs ys x y = x
acts-cond false xs ys x y = y

kind-join : (older : Option ℕ) (conn : ℕ) (client : List ℕ) (clean : Bool) (alive : ℕ) (will : Option AppMessage) → AreKindActs (event.join older conn client clean alive will)
kind-join None conn client clean alive will = acts-append (cond clean (event.Forget client ∷ []) []) _ (acts-cond clean (event.Forget client ∷ []) [] (tt, tt) tt) (tt, tt)
kind-join (Some older) conn client clean alive will = (tt, (tt, acts-append (cond clean (event.Forget client ∷ []) []) _ (acts-cond clean (event.Forget client ∷ []) [] (tt, tt) tt) (tt, (tt, tt))))

kind-connect : (s : Seen) (conn : ℕ) (client : List ℕ) (alive : ℕ) (will : Option WillData) → AreKindActs (event.connect s conn client true alive will)
kind-connect s conn client alive will = by (Rattle.spk_packets.specs.Spelling.is_empty client) (event.has_bad_topic will)
  where
    by : (a b : Bool) → AreKindActs (cond (a && false) (event.turn_away conn 2) (cond b (event.shut conn) (event.join s.older conn client true alive (option_map Rattle.spk_broker_rules.specs.Words.will_message will))))
    by true true = (tt, (tt, (tt, tt)))
    by false true = (tt, (tt, (tt, tt)))
    by true false = kind-join s.older conn client true alive (option_map Rattle.spk_broker_rules.specs.Words.will_message will)
    by false false = kind-join s.older conn client true alive (option_map Rattle.spk_broker_rules.specs.Words.will_message will)

kind-first : (s : Seen) (conn : ℕ) (p : Packet) → JoinsClean p → AreKindActs (event.first_packet s conn p)
kind-first s conn (Connect client clean alive will) good = subst (λ b. AreKindActs (event.connect s conn client b alive will)) (sym good) (kind-connect s conn client alive will)
kind-first s conn (ConnAck present code) good = (tt, (tt, (tt, tt)))
kind-first s conn (Publish dup qos retain topic id payload) good = (tt, (tt, (tt, tt)))
kind-first s conn (PubAck id) good = (tt, (tt, (tt, tt)))
kind-first s conn (Subscribe id filters) good = (tt, (tt, (tt, tt)))
kind-first s conn (SubAck id given) good = (tt, (tt, (tt, tt)))
kind-first s conn (Unsubscribe id filters) good = (tt, (tt, (tt, tt)))
kind-first s conn (UnsubAck id) good = (tt, (tt, (tt, tt)))
kind-first s conn PingReq good = (tt, (tt, (tt, tt)))
kind-first s conn PingResp good = (tt, (tt, (tt, tt)))
kind-first s conn Disconnect good = (tt, (tt, (tt, tt)))

kind-puback : (conn : ℕ) (id : Option ℕ) → AreKindActs (event.puback conn id)
kind-puback conn None = tt
kind-puback conn (Some id) = (tt, tt)

kind-publish : (conn : ℕ) (id : Option ℕ) (app_message : AppMessage) → AreKindActs (event.publish conn id app_message)
kind-publish conn id app_message = by (is_some (Rattle.spk_topics.specs.Text.topic_refusal app_message.topic))
  where
    by : (b : Bool) → AreKindActs (cond b (event.shut conn) (event.puback conn id ++ event.Queue app_message ∷ event.Route ∷ []))
    by true = (tt, (tt, (tt, tt)))
    by false = acts-append (event.puback conn id) (event.Queue app_message ∷ event.Route ∷ []) (kind-puback conn id) (tt, (tt, tt))

kind-next : (s : Seen) (conn : ℕ) (p : Packet) → AreKindActs (event.next_packet s conn p)
kind-next s conn (Connect client clean alive will) = (tt, (tt, (tt, tt)))
kind-next s conn (ConnAck present code) = (tt, (tt, (tt, tt)))
kind-next s conn (Publish dup qos retain topic id payload) = kind-publish conn id (record { topic = topic; payload = payload; qos = qos; retain = retain })
kind-next s conn (PubAck id) = (tt, tt)
kind-next s conn (Subscribe id filters) = acts-cond (Rattle.std.specs.List.list_any (λ (e : List ℕ × ℕ). is_some (Rattle.spk_topics.specs.Text.filter_refusal e.0)) filters || s.heavy) (event.shut conn) (event.Give conn id filters ∷ event.Route ∷ []) (tt, (tt, (tt, tt))) (tt, (tt, tt))
kind-next s conn (SubAck id given) = (tt, (tt, (tt, tt)))
kind-next s conn (Unsubscribe id filters) = acts-cond (event.has_bad_filter filters) (event.shut conn) (event.Take conn filters ∷ event.Say conn (UnsubAck id) ∷ []) (tt, (tt, (tt, tt))) (tt, (tt, tt))
kind-next s conn (UnsubAck id) = (tt, (tt, (tt, tt)))
kind-next s conn PingReq = (tt, tt)
kind-next s conn PingResp = (tt, (tt, (tt, tt)))
kind-next s conn Disconnect = (tt, tt)

kind-packet : (s : Seen) (conn : ℕ) (p : Packet) → JoinsClean p → AreKindActs (event.packet s conn p)
kind-packet s conn p good = by (is_some (first_of (unwritable p))) s.joined
  where
    by : (a b : Bool) → AreKindActs (cond a (event.shut conn) (cond b (event.next_packet s conn p) (event.first_packet s conn p)))
    by true b = (tt, (tt, (tt, tt)))
    by false true = kind-next s conn p
    by false false = kind-first s conn p good

kind-plan : (s : Seen) (e : Event) → IsCleanEvent e → AreKindActs (plan s e)
kind-plan s (event.Open moment) good = (tt, tt)
kind-plan s (event.Packet conn p moment) good = kind-packet s conn p good
kind-plan s (event.Fault conn f moment) good = absurd good
kind-plan s (event.Closed conn moment) good = (tt, (tt, tt))
kind-plan s (event.Tick moment) good = absurd good
kind-plan s (event.Refused conn x moment) good = acts-cond (event.is_fatal x s.spent) (event.shut conn) [] (tt, (tt, (tt, tt))) tt

kind-before : (e : Event) → AreKindActs (before e)
kind-before (event.Open moment) = (tt, tt)
kind-before (event.Packet conn p moment) = (tt, (tt, tt))
kind-before (event.Fault conn f moment) = (tt, tt)
kind-before (event.Closed conn moment) = (tt, tt)
kind-before (event.Tick moment) = (tt, tt)
kind-before (event.Refused conn sort.QosZero moment) = (tt, (tt, tt))
kind-before (event.Refused conn sort.Other moment) = (tt, tt)

pub kind-step : (b : Broker) (e : Event) → IsCleanEvent e → AreKind (step b e).sends
unfolding step
kind-step b e good = kind-acts (plan (seen (noted b e).broker e) e) (noted b e) (kind-plan (seen (noted b e).broker e) e good) (kind-acts (before e) (begun b) (kind-before e) tt)
