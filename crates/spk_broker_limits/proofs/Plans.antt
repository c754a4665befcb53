-- What each event keeps of the client ids of sessions, and of how many are kept.
use Rattle.std.proofs.Common.{◌≡◌, ℕ, suc, ◌+◌, ◌≤◌, ◌==◌, Bool, true, false, not, ◌&&◌, ◌||◌, cond, List, [], ◌∷◌, ◌++◌, map, length, refl, sym, ap, ◌∙◌, subst, arith, Option, Some, None, is_some}
use Rattle.std.specs.List.{filter, find, list_any}
use Rattle.std.specs.Option.{option_map, option_map_or}
use Rattle.spk_packets.specs.Fault.{first_of}
use Rattle.spk_packets.specs.Message.{Message, WillData, Connect, ConnAck, Publish, PubAck, Subscribe, SubAck, Unsubscribe, UnsubAck, PingReq, PingResp, Disconnect}
use Rattle.spk_packets.specs.Spelling.{is_empty, unwritable}
use Rattle.spk_topics.specs.Text.{filter_refusal, topic_refusal}
use Rattle.spk_session.specs.Step.{one_more}
use Rattle.spk_session.specs.declared.answer.Sort.TheVariants as sort
use Rattle.spk_broker_rules.specs.Data.{AppMessage, Connection, Session, Broker}
use Rattle.spk_broker_rules.specs.Lawful.{IsLawful}
use Rattle.spk_broker_rules.specs.Words.{will_message}
use Rattle.spk_broker_rules.specs.Plan.{Event, Open, Packet, Fault, Closed, Tick, Refused, Act, Opens, Leave, Queue, Say, Give, Take, Route, Forget, Accept, Seen, shut, turn_away, take_over, tell_older, join, connect, has_bad_topic, first_packet, next_packet, puback, bad_bytes, is_bad_level, has_bad_filter, is_fatal, tick, refused, before, plan, client_in}
use Rattle.spk_broker_rules.specs.Step.{Turn, act, acts, after, step, noted, begun, seen, sits, is_newcomer, connection_heard, connection_dropped, older_in, welcome_in}
use Rattle.spk_broker_limits.proofs.Totals.{IsHeld, held, held_by, held_by_all}
use Rattle.spk_broker_limits.proofs.Clients.{IsSingle, IsOther, AreOthers, kept_by, kept_by_all}
use Rattle.spk_broker_limits.proofs.Joining.{AreOnce, accepted, cleared, room, taken_over}

-- ---- each connection at one session

on_connection : (f : Connection → Connection) → ((l : Connection) → (f l).conn ≡ l.conn) → (conn : ℕ) (o : Option Connection)
    → option_map_or (λ (l : Connection). l.conn == conn) (option_map f o) false ≡ option_map_or (λ (l : Connection). l.conn == conn) o false
on_connection f same conn None = refl
on_connection f same conn (Some l) = ap (λ c. c == conn) (same l)

as_long : (a b : Bool) (s x : Session) (n m : List Session) → a ≡ b → length n ≡ length m → length (cond a (x ∷ n) n) ≡ length (cond b (s ∷ m) m)
as_long true b s x n m e h = subst (λ c. suc (length n) ≡ length (cond c (s ∷ m) m)) e (ap suc h)
as_long false b s x n m e h = subst (λ c. length n ≡ length (cond c (s ∷ m) m)) e h

pub mapped : (f : Connection → Connection) → ((l : Connection) → (f l).conn ≡ l.conn) → (conn : ℕ) (ss : List Session)
    → length (filter (sits conn) (map (λ (s : Session). record s { here = option_map f s.here }) ss)) ≡ length (filter (sits conn) ss)
mapped f same conn [] = refl
mapped f same conn (s ∷ ss) =
    as_long (sits conn (record s { here = option_map f s.here })) (sits conn s) s (record s { here = option_map f s.here })
    (filter (sits conn) (map (λ (u : Session). record u { here = option_map f u.here }) ss)) (filter (sits conn) ss) (on_connection f same conn s.here) (mapped f same conn ss)

pub heard_conn : (conn clock : ℕ) (l : Connection) → (connection_heard conn clock l).conn ≡ l.conn
heard_conn conn clock l = by (l.conn == conn)
  where
    by : (b : Bool) → (cond b (record l { heard = clock }) l).conn ≡ l.conn
    by true = refl
    by false = refl

dropped_conn : (conn : ℕ) (l : Connection) → (connection_dropped conn l).conn ≡ l.conn
dropped_conn conn l = by (l.conn == conn)
  where
    by : (b : Bool) → (cond b (record l { drops = one_more l.drops }) l).conn ≡ l.conn
    by true = refl
    by false = refl

once_noted : (b : Broker) (e : Event) → AreOnce b.sessions → AreOnce (noted b e).broker.sessions
once_noted b (Open moment) a = a
once_noted b (Packet conn p moment) a = λ c. subst (λ n. n ≤ 1) (sym (mapped (connection_heard conn _) (heard_conn conn _) c b.sessions)) (a c)
once_noted b (Fault conn f moment) a = a
once_noted b (Closed conn moment) a = a
once_noted b (Tick moment) a = a
once_noted b (Refused conn sort.QosZero moment) a = λ c. subst (λ n. n ≤ 1) (sym (mapped (connection_dropped conn) (dropped_conn conn) c b.sessions)) (a c)
once_noted b (Refused conn sort.Other moment) a = a

-- ---- lists of acts without a new session

shut_others : (conn : ℕ) → AreOthers (shut conn)
shut_others conn = (tt, (tt, (tt, tt)))

away_others : (conn code : ℕ) → AreOthers (turn_away conn code)
away_others conn code = (tt, (tt, (tt, (tt, tt))))

by_test : (b : Bool) (xs ys : List Act) → AreOthers xs → AreOthers ys → AreOthers (cond b xs ys)
by_test true xs ys x y = x
by_test false xs ys x y = y

two : (a b : Act) → IsOther a → IsOther b → AreOthers (a ∷ b ∷ [])
two a b x y = (x, (y, tt))

publish_others : (conn : ℕ) (id : Option ℕ) (app_message : AppMessage) → AreOthers (puback conn id ++ Queue app_message ∷ Route ∷ [])
publish_others conn None app_message = (tt, (tt, tt))
publish_others conn (Some id) app_message = (tt, (tt, (tt, tt)))

next_others : (s : Seen) (conn : ℕ) (p : Message) → AreOthers (next_packet s conn p)
next_others s conn (Connect client clean alive will) = shut_others conn
next_others s conn (ConnAck present code) = shut_others conn
next_others s conn (Publish dup qos retain topic id payload) =
    let app_message : AppMessage = record { topic = topic; payload = payload; qos = qos; retain = retain } in
    by_test (is_some (topic_refusal topic)) (shut conn) (puback conn id ++ Queue app_message ∷ Route ∷ []) (shut_others conn) (publish_others conn id app_message)
next_others s conn (PubAck id) = (tt, tt)
next_others s conn (Subscribe id entries) =
    by_test (list_any (λ e. is_some (filter_refusal e.0)) entries || s.heavy) (shut conn) (Give conn id entries ∷ Route ∷ []) (shut_others conn) (two (Give conn id entries) Route tt tt)
next_others s conn (SubAck id codes) = shut_others conn
next_others s conn (Unsubscribe id filters) =
    by_test (has_bad_filter filters) (shut conn) (Take conn filters ∷ Say conn (UnsubAck id) ∷ []) (shut_others conn) (two (Take conn filters) (Say conn (UnsubAck id)) tt tt)
next_others s conn (UnsubAck id) = shut_others conn
next_others s conn PingReq = (tt, tt)
next_others s conn PingResp = shut_others conn
next_others s conn Disconnect = (tt, tt)

tick_others : (silent : List ℕ) → AreOthers (tick silent)
tick_others [] = (tt, tt)
tick_others (c ∷ cs) = (tt, (tt, tick_others cs))

-- ---- a CONNECT

acts_both : (xs ys : List Act) (t : Turn) → acts (xs ++ ys) t ≡ acts ys (acts xs t)
acts_both [] ys t = refl
acts_both (x ∷ xs) ys t = acts_both xs ys (act x t)

told : (older : Option ℕ) → AreOthers (tell_older older)
told None = tt
told (Some conn) = (tt, tt)

joined : (older : Option ℕ) (conn : ℕ) (client : List ℕ) (clean : Bool) (alive : ℕ) (will : Option AppMessage) (t : Turn) → older_in client t.broker.sessions ≡ older → AreOnce t.broker.sessions
    → IsHeld t.broker → IsSingle t.broker → (is_empty client && not clean) ≡ false → (clean ≡ false → welcome_in client t.broker.sessions ≡ true)
    → IsSingle (acts (join older conn client clean alive will) t).broker
joined older conn client true alive will t is once held single empty welcome =
    let ready = taken_over client older t is once held single in
    let one = acts (take_over older) t in
    let two = act (Forget client) one in
    let held2 = held_by (Forget client) one ready.held in
    let single2 = kept_by (Forget client) tt one ready.held ready.single in
    let three = act (Accept conn client false alive will) two in
    let single3 : IsSingle three.broker = accepted (find (is_newcomer conn) two.broker.newcomers) client false alive will two held2 single2
    (λ e. ((λ f. cleared client one f (ready.away f) ready.held ready.single), (λ g. absurd (no g)))) in
    subst (λ u. IsSingle u.broker) (sym (acts_both (take_over older) (Forget client ∷ Accept conn client false alive will ∷ tell_older older) t))
    (kept_by_all (tell_older older) (told older) three (held_by (Accept conn client false alive will) two held2) single3)
  where
    no : false ≡ true → ⊥
    no g = absurd cc
joined older conn client false alive will t is once held single empty welcome =
    let ready = taken_over client older t is once held single in
    let one = acts (take_over older) t in
    let three = act (Accept conn client true alive will) one in
    let full : is_empty client ≡ false = nonempty (is_empty client) empty in
    let single3 : IsSingle three.broker = accepted (find (is_newcomer conn) one.broker.newcomers) client true alive will one ready.held ready.single
    (λ e. room client t one full (welcome refl) single.few ready e) in
    subst (λ u. IsSingle u.broker) (sym (acts_both (take_over older) (Accept conn client true alive will ∷ tell_older older) t))
    (kept_by_all (tell_older older) (told older) three (held_by (Accept conn client true alive will) one ready.held) single3)
  where
    nonempty : (b : Bool) → (b && true) ≡ false → b ≡ false
    nonempty true e = e
    nonempty false e = refl

welcomed : (clean welcome : Bool) → (not clean && not welcome) ≡ false → clean ≡ false → welcome ≡ true
welcomed clean true e f = refl
welcomed clean false e f = absurd (no (sym (ap (λ c. not c && true) f) ∙ e))
  where
    no : true ≡ false → ⊥
    no g = absurd cc

connected : (s : Seen) (conn : ℕ) (client : List ℕ) (clean : Bool) (alive : ℕ) (will : Option WillData) (t : Turn) → s.older ≡ older_in client t.broker.sessions
    → s.welcome ≡ welcome_in client t.broker.sessions → AreOnce t.broker.sessions → IsHeld t.broker → IsSingle t.broker → IsSingle (acts (connect s conn client clean alive will) t).broker
connected s conn client clean alive will t older welcome once held single =
    by (is_empty client && not clean) refl (has_bad_topic will) (not clean && not s.welcome) refl
  where
    by : (a : Bool) → (is_empty client && not clean) ≡ a → (b c : Bool) → (not clean && not s.welcome) ≡ c
        → IsSingle (acts (cond a (turn_away conn 2) (cond b (shut conn) (cond c (turn_away conn 3) (join s.older conn client clean alive (option_map will_message will))))) t).broker
    by true f b c g = kept_by_all (turn_away conn 2) (away_others conn 2) t held single
    by false f true c g = kept_by_all (shut conn) (shut_others conn) t held single
    by false f false true g = kept_by_all (turn_away conn 3) (away_others conn 3) t held single
    by false f false false g = joined s.older conn client clean alive (option_map will_message will) t (sym older) once held single f (λ h. sym welcome ∙ welcomed clean s.welcome g h)

first_packet_single : (s : Seen) (conn : ℕ) (p : Message) (t : Turn) → ((client : List ℕ) (clean : Bool) (alive : ℕ) (will : Option WillData) → p ≡ Connect client clean alive will
    → IsSingle (acts (connect s conn client clean alive will) t).broker) → IsHeld t.broker → IsSingle t.broker → IsSingle (acts (first_packet s conn p) t).broker
first_packet_single s conn (Connect client clean alive will) t c held single = c client clean alive will refl
first_packet_single s conn (ConnAck present code) t c held single = kept_by_all (shut conn) (shut_others conn) t held single
first_packet_single s conn (Publish dup qos retain topic id payload) t c held single = kept_by_all (shut conn) (shut_others conn) t held single
first_packet_single s conn (PubAck id) t c held single = kept_by_all (shut conn) (shut_others conn) t held single
first_packet_single s conn (Subscribe id entries) t c held single = kept_by_all (shut conn) (shut_others conn) t held single
first_packet_single s conn (SubAck id codes) t c held single = kept_by_all (shut conn) (shut_others conn) t held single
first_packet_single s conn (Unsubscribe id filters) t c held single = kept_by_all (shut conn) (shut_others conn) t held single
first_packet_single s conn (UnsubAck id) t c held single = kept_by_all (shut conn) (shut_others conn) t held single
first_packet_single s conn PingReq t c held single = kept_by_all (shut conn) (shut_others conn) t held single
first_packet_single s conn PingResp t c held single = kept_by_all (shut conn) (shut_others conn) t held single
first_packet_single s conn Disconnect t c held single = kept_by_all (shut conn) (shut_others conn) t held single

-- ---- a whole event

planned : (b : Broker) (e : Event) → AreOnce (noted b e).broker.sessions → IsHeld (noted b e).broker → IsSingle (noted b e).broker
    → IsSingle (acts (plan (seen (noted b e).broker e) e) (noted b e)).broker
planned b (Open moment) once held single = kept_by_all (Opens ∷ []) (tt, tt) (noted b (Open moment)) held single
planned b (Packet conn p moment) once held single = by (is_some (first_of (unwritable p))) s.joined
  where
    t : Turn
    t = noted b (Packet conn p moment)

    s : Seen
    s = seen (noted b (Packet conn p moment)).broker (Packet conn p moment)

    by : (x y : Bool) → IsSingle (acts (cond x (shut conn) (cond y (next_packet (seen (noted b (Packet conn p moment)).broker (Packet conn p moment)) conn p) (first_packet (seen (noted b (Packet conn p moment)).broker (Packet conn p moment)) conn p))) (noted b (Packet conn p moment))).broker
    by true y = kept_by_all (shut conn) (shut_others conn) t held single
    by false true = kept_by_all (next_packet s conn p) (next_others s conn p) t held single
    by false false = first_packet_single s conn p t
        (λ client clean alive will is. connected s conn client clean alive will t
        (ap (λ m. older_in (client_in m) t.broker.sessions) is) (ap (λ m. welcome_in (client_in m) t.broker.sessions) is) once held single) held single
planned b (Fault conn f moment) once held single =
    let s : Seen = seen (noted b (Fault conn f moment)).broker (Fault conn f moment) in
    kept_by_all (bad_bytes s conn f) (by_test (is_bad_level f && not s.joined) (turn_away conn 1) (shut conn) (away_others conn 1) (shut_others conn)) (noted b (Fault conn f moment)) held single
planned b (Closed conn moment) once held single = kept_by_all (Leave conn true ∷ Route ∷ []) (tt, (tt, tt)) (noted b (Closed conn moment)) held single
planned b (Tick moment) once held single =
    let s : Seen = seen (noted b (Tick moment)).broker (Tick moment) in
    kept_by_all (tick s.silent) (tick_others s.silent) (noted b (Tick moment)) held single
planned b (Refused conn k moment) once held single =
    let s : Seen = seen (noted b (Refused conn k moment)).broker (Refused conn k moment) in
    kept_by_all (refused s conn k) (by_test (is_fatal k s.spent) (shut conn) [] (shut_others conn) tt) (noted b (Refused conn k moment)) held single

before_others : (e : Event) → AreOthers (before e)
before_others (Open moment) = (tt, tt)
before_others (Packet conn p moment) = (tt, (tt, tt))
before_others (Fault conn f moment) = (tt, tt)
before_others (Closed conn moment) = (tt, tt)
before_others (Tick moment) = (tt, tt)
before_others (Refused conn sort.QosZero moment) = (tt, (tt, tt))
before_others (Refused conn sort.Other moment) = (tt, tt)

stepped : (b : Broker) (e : Event) → AreOnce b.sessions → IsHeld b → IsSingle b → IsSingle (step b e).broker
unfolding step
stepped b e once held single =
    planned b e (once_noted b e once) (held_by_all (before e) (begun b) held) (kept_by_all (before e) (before_others e) (begun b) held single)

one_place : (b : Broker) → IsLawful b → AreOnce b.sessions
one_place b l = λ c. at_most (length (filter (is_newcomer c) b.newcomers)) (length (filter (sits c) b.sessions)) (l.apart c)
  where
    at_most : (g s : ℕ) → g + s ≤ 1 → s ≤ 1
    at_most g s le = omega arith

pub single : ((limit : ℕ) (es : List Event) → IsLawful (after limit es)) → (limit : ℕ) (es : List Event) → IsSingle (after limit es)
single lawful limit [] = record { single = tt; away = tt; few = omega arith }
single lawful limit (e ∷ es) = stepped (after limit es) e (one_place (after limit es) (lawful limit es)) (held limit es) (single lawful limit es)
