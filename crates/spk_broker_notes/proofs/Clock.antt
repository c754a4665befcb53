-- What an event does to the clock.
use Rattle.std.proofs.Common.{◌≡◌, ℕ, zero, suc, max, Bool, true, false, not, ◌&&◌, cond, List, [], ◌∷◌, ◌++◌, refl, ◌∙◌, Option, Some, None, is_some}
use Rattle.std.specs.List.{find, flat_map, fold, AllByRecursion}
use Rattle.spk_packets.specs.Fault.{first_of}
use Rattle.spk_packets.specs.Message.{Message, WillData, Connect, ConnAck, Publish, PubAck, Subscribe, SubAck, Unsubscribe, UnsubAck, PingReq, PingResp, Disconnect}
use Rattle.spk_packets.specs.Spelling.{unwritable}
use Rattle.spk_session.specs.declared.answer.Sort.TheVariants as sort
use Rattle.spk_topics.specs.Text.{topic_refusal}
use Rattle.spk_broker_rules.specs.Data.{AppMessage, Newcomer, Session, Broker}
use Rattle.spk_broker_rules.specs.Plan.{Act, Opens, At, Hear, Drop, Say, Leave, Tell, Queue, Route, Forget, Accept, Give, Take, Ack, Event, Open, Packet, Fault, Closed, Tick, Refused, Seen, shut, turn_away, take_over, tell_older, join, has_bad_topic, connect, first_packet, puback, publish, has_bad_filter, next_packet, packet, is_bad_level, tick, is_fatal, plan}
use Rattle.spk_broker_rules.specs.Step.{Turn, act, acts, route_one, route_some, route, most, leave_at, forget_at, is_away, is_newcomer, session_by, connection_of, take_up, away_for, accept_of, with_key, offer_at, offer, give_at, take_at, ack_at, other_grants, swap, with_sessions, noted, seen, step}
use Rattle.spk_broker_rules.specs.Words.{codes_of, granted_of, offers_to, with_entry}
use Rattle.spk_broker_notes.specs.Noted.{moment_of}

-- ---- routing

abbrev Shows : ℕ → Turn → Type 0
Shows clock t = t.broker.clock ≡ clock

routed-some : (n : ℕ) (t : Turn) → Shows t.broker.clock (route_some n t)
unfolding route_some
routed-some zero t = refl
routed-some (suc n) t = by t.waiting (λ m ms. routed-some n (route_one m (record t { waiting = ms })))
  where
    by : (ws : List AppMessage) → ((m : AppMessage) (ms : List AppMessage) → Shows t.broker.clock (route_some n (route_one m (record t { waiting = ms }))))
        → Shows t.broker.clock (elim ws [ [] ↦ t | m ∷ ms ↦ route_some n (route_one m (record t { waiting = ms })) ])
    by [] rest = refl
    by (m ∷ ms) rest = rest m ms

routed : (t : Turn) → (route t).broker.clock ≡ t.broker.clock
unfolding route
routed t = routed-some (most t) t

-- ---- an act that isn't the clock's

abbrev Still : Act → Type 0
Still (At moment) = ⊥
Still Opens = Unit {0}
Still (Hear c) = Unit {0}
Still (Drop c) = Unit {0}
Still (Say c p) = Unit {0}
Still (Leave c wills) = Unit {0}
Still (Tell c) = Unit {0}
Still (Queue app_message) = Unit {0}
Still Route = Unit {0}
Still (Forget client) = Unit {0}
Still (Accept c client kept alive will) = Unit {0}
Still (Give c id entries) = Unit {0}
Still (Take c filters) = Unit {0}
Still (Ack c id) = Unit {0}

left : (o : Option Session) (c : ℕ) (wills : Bool) (t : Turn) → (leave_at o c wills t).broker.clock ≡ t.broker.clock
left None c wills t = refl
left (Some s) c wills t = refl

forgot : (o : Option Session) (t : Turn) → (forget_at o t).broker.clock ≡ t.broker.clock
forgot None t = refl
forgot (Some s) t = refl

accepted : (o : Option Newcomer) (client : List ℕ) (kept : Bool) (alive : ℕ) (will : Option AppMessage) (t : Turn) → (accept_of o client kept alive will t).broker.clock ≡ t.broker.clock
accepted None client kept alive will t = refl
accepted (Some g) client kept alive will t = by (away_for kept client t.broker.sessions)
  where
    by : (o : Option Session) → (take_up o client kept (connection_of g alive will) t).broker.clock ≡ t.broker.clock
    by None = refl
    by (Some s) = refl

offered : (o : Option Session) (key : ℕ) (app_message : AppMessage) (t : Turn) → (offer_at o key app_message t).broker.clock ≡ t.broker.clock
offered None key app_message t = refl
offered (Some s) key app_message t = refl

offered-all : (key : ℕ) (app_messages : List AppMessage) (t : Turn) → (fold (offer key) t app_messages).broker.clock ≡ t.broker.clock
offered-all key [] t = refl
offered-all key (m ∷ ms) t = offered-all key ms (offer key t m) ∙ offered (with_key key t.broker.sessions) key m t

given : (o : Option Session) (c id : ℕ) (entries : List (List ℕ × ℕ)) (t : Turn) → (give_at o c id entries t).broker.clock ≡ t.broker.clock
given None c id entries t = refl
given (Some s) c id entries t = offered-all s.key
    (flat_map (offers_to t.broker.retained) (granted_of (other_grants s t.broker.sessions) s.grants entries))
    (record (with_sessions (swap s.key ((record s { grants = fold (with_entry (other_grants s t.broker.sessions)) s.grants entries }) ∷ []) t.broker.sessions) t) {
      sends = t.sends ++ (record { conn = c; packet = SubAck id (codes_of (other_grants s t.broker.sessions) s.grants entries) }) ∷ [];
    })

taken : (o : Option Session) (filters : List (List ℕ)) (t : Turn) → (take_at o filters t).broker.clock ≡ t.broker.clock
taken None filters t = refl
taken (Some s) filters t = refl

acked : (o : Option Session) (id : ℕ) (t : Turn) → (ack_at o id t).broker.clock ≡ t.broker.clock
acked None id t = refl
acked (Some s) id t = refl

act-still : (a : Act) (t : Turn) → Still a → (act a t).broker.clock ≡ t.broker.clock
act-still (At moment) t s = absurd s
act-still Opens t s = refl
act-still (Hear c) t s = refl
act-still (Drop c) t s = refl
act-still (Say c p) t s = refl
act-still (Leave c wills) t s = left (session_by c t.broker.sessions) c wills t
act-still (Tell c) t s = refl
act-still (Queue app_message) t s = refl
act-still Route t s = routed t
act-still (Forget client) t s = forgot (find (is_away client) t.broker.sessions) t
act-still (Accept c client kept alive will) t s = accepted (find (is_newcomer c) t.broker.newcomers) client kept alive will t
act-still (Give c id entries) t s = given (session_by c t.broker.sessions) c id entries t
act-still (Take c filters) t s = taken (session_by c t.broker.sessions) filters t
act-still (Ack c id) t s = acked (session_by c t.broker.sessions) id t

acts-still : (as_list : List Act) (t : Turn) → AllByRecursion Still as_list → (acts as_list t).broker.clock ≡ t.broker.clock
acts-still [] t s = refl
acts-still (a ∷ as_list) t s = acts-still as_list (act a t) s.1 ∙ act-still a t s.0

-- ---- what the rules ask for

either : (b : Bool) (xs ys : List Act) → AllByRecursion Still xs → AllByRecursion Still ys → AllByRecursion Still (cond b xs ys)
either true xs ys s t = s
either false xs ys s t = t

both : (xs ys : List Act) → AllByRecursion Still xs → AllByRecursion Still ys → AllByRecursion Still (xs ++ ys)
both [] ys s t = t
both (x ∷ xs) ys s t = (s.0, both xs ys s.1 t)

join-still : (older : Option ℕ) (c : ℕ) (client : List ℕ) (clean : Bool) (alive : ℕ) (will : Option AppMessage) → AllByRecursion Still (join older c client clean alive will)
join-still older c client clean alive will =
    both (take_over older) (cond clean (Forget client ∷ []) [] ++ Accept c client (not clean) alive will ∷ tell_older older) (over older)
    (both (cond clean (Forget client ∷ []) []) (Accept c client (not clean) alive will ∷ tell_older older) (either clean (Forget client ∷ []) [] (tt, tt) tt) (tt, told older))
  where
    over : (o : Option ℕ) → AllByRecursion Still (take_over o)
    over None = tt
    over (Some d) = (tt, (tt, tt))

    told : (o : Option ℕ) → AllByRecursion Still (tell_older o)
    told None = tt
    told (Some d) = (tt, tt)

connect-still : (s : Seen) (c : ℕ) (client : List ℕ) (clean : Bool) (alive : ℕ) (will : Option WillData) → AllByRecursion Still (connect s c client clean alive will)
connect-still s c client clean alive will =
    either _ (turn_away c 2) _ (tt, (tt, (tt, (tt, tt))))
    (either (has_bad_topic will) (shut c) _ (tt, (tt, (tt, tt))) (either _ (turn_away c 3) _ (tt, (tt, (tt, (tt, tt)))) (join-still s.older c client clean alive _)))

first-still : (s : Seen) (c : ℕ) (p : Message) → AllByRecursion Still (first_packet s c p)
first-still s c (Connect client clean alive will) = connect-still s c client clean alive will
first-still s c (ConnAck present code) = (tt, (tt, (tt, tt)))
first-still s c (Publish dup qos retain topic id payload) = (tt, (tt, (tt, tt)))
first-still s c (PubAck id) = (tt, (tt, (tt, tt)))
first-still s c (Subscribe id entries) = (tt, (tt, (tt, tt)))
first-still s c (SubAck id codes) = (tt, (tt, (tt, tt)))
first-still s c (Unsubscribe id filters) = (tt, (tt, (tt, tt)))
first-still s c (UnsubAck id) = (tt, (tt, (tt, tt)))
first-still s c PingReq = (tt, (tt, (tt, tt)))
first-still s c PingResp = (tt, (tt, (tt, tt)))
first-still s c Disconnect = (tt, (tt, (tt, tt)))

publish-still : (c : ℕ) (id : Option ℕ) (app_message : AppMessage) → AllByRecursion Still (publish c id app_message)
publish-still c id app_message = either (is_some (topic_refusal app_message.topic)) (shut c) (puback c id ++ Queue app_message ∷ Route ∷ []) (tt, (tt, (tt, tt))) (both (puback c id) (Queue app_message ∷ Route ∷ []) (acked-by id) (tt, (tt, tt)))
  where
    acked-by : (o : Option ℕ) → AllByRecursion Still (puback c o)
    acked-by None = tt
    acked-by (Some i) = (tt, tt)

next-still : (s : Seen) (c : ℕ) (p : Message) → AllByRecursion Still (next_packet s c p)
next-still s c (Connect client clean alive will) = (tt, (tt, (tt, tt)))
next-still s c (ConnAck present code) = (tt, (tt, (tt, tt)))
next-still s c (Publish dup qos retain topic id payload) = publish-still c id (record { topic = topic; payload = payload; qos = qos; retain = retain })
next-still s c (PubAck id) = (tt, tt)
next-still s c (Subscribe id entries) = either _ (shut c) (Give c id entries ∷ Route ∷ []) (tt, (tt, (tt, tt))) (tt, (tt, tt))
next-still s c (SubAck id codes) = (tt, (tt, (tt, tt)))
next-still s c (Unsubscribe id filters) = either (has_bad_filter filters) (shut c) _ (tt, (tt, (tt, tt))) (tt, (tt, tt))
next-still s c (UnsubAck id) = (tt, (tt, (tt, tt)))
next-still s c PingReq = (tt, tt)
next-still s c PingResp = (tt, (tt, (tt, tt)))
next-still s c Disconnect = (tt, tt)

packet-still : (s : Seen) (c : ℕ) (p : Message) → AllByRecursion Still (packet s c p)
packet-still s c p = either (is_some (first_of (unwritable p))) (shut c) _ (tt, (tt, (tt, tt))) (either s.joined (next_packet s c p) (first_packet s c p) (next-still s c p) (first-still s c p))

tick-still : (cs : List ℕ) → AllByRecursion Still (tick cs)
tick-still [] = (tt, tt)
tick-still (c ∷ cs) = (tt, (tt, tick-still cs))

plan-still : (s : Seen) (e : Event) → AllByRecursion Still (plan s e)
plan-still s (Open moment) = (tt, tt)
plan-still s (Packet c p moment) = packet-still s c p
plan-still s (Fault c f moment) = either (is_bad_level f && not s.joined) (turn_away c 1) (shut c) (tt, (tt, (tt, (tt, tt)))) (tt, (tt, (tt, tt)))
plan-still s (Closed c moment) = (tt, (tt, tt))
plan-still s (Tick moment) = tick-still s.silent
plan-still s (Refused c which moment) = either (is_fatal which s.spent) (shut c) [] (tt, (tt, (tt, tt))) tt

-- ---- an event

noted-clock : (b : Broker) (e : Event) → (noted b e).broker.clock ≡ max b.clock (moment_of e)
noted-clock b (Open moment) = refl
noted-clock b (Packet c p moment) = refl
noted-clock b (Fault c f moment) = refl
noted-clock b (Closed c moment) = refl
noted-clock b (Tick moment) = refl
noted-clock b (Refused c sort.QosZero moment) = refl
noted-clock b (Refused c sort.Other moment) = refl

pub stepped : (b : Broker) (e : Event) → (step b e).broker.clock ≡ max b.clock (moment_of e)
unfolding step
stepped b e = acts-still (plan (seen (noted b e).broker e) e) (noted b e) (plan-still (seen (noted b e).broker e) e) ∙ noted-clock b e
