-- Whom an event sends to and closes: connections that were known before it.
use Rattle.std.proofs.Common.{◌≡◌, ℕ, ◌==◌, Bool, true, false, not, ◌&&◌, ◌||◌, cond, List, [], ◌∷◌, ◌++◌, refl, sym, ap, ◌∙◌, subst, Option, Some, None, is_some}
use Rattle.std.specs.List.{find, list_any}
use Rattle.std.specs.Option.{option_map, option_map_or}
use Rattle.std.specs.Str.{bytes_eq}
use Rattle.std.proofs.lemmas.Bool.{eqb-false}
use Rattle.spk_packets.specs.Fault.{first_of}
use Rattle.spk_packets.specs.Message.{Message, WillData, Connect, ConnAck, Publish, PubAck, Subscribe, SubAck, Unsubscribe, UnsubAck, PingReq, PingResp, Disconnect}
use Rattle.spk_packets.specs.Spelling.{is_empty, unwritable}
use Rattle.spk_topics.specs.Text.{filter_refusal, topic_refusal}
use Rattle.spk_session.specs.declared.answer.Sort.TheVariants as sort
use Rattle.spk_broker_rules.specs.Data.{AppMessage, Connection, Newcomer, Session, Broker, Send}
use Rattle.spk_broker_rules.specs.Words.{will_message}
use Rattle.spk_broker_rules.specs.Plan.{Event, Open, Packet, Fault, Closed, Tick, Refused, Act, Leave, Route, Forget, Accept, Queue, Say, Give, Take, Seen, shut, turn_away, take_over, tell_older, join, connect, has_bad_topic, has_bad_filter, is_bad_level, is_fatal, first_packet, next_packet, packet, puback, bad_bytes, tick, refused, before, client_in}
use Rattle.spk_broker_rules.specs.Step.{acts, step, noted, begun, seen, sits, session_by, conn_at, is_newcomer, older_in, knows}
use Rattle.spk_broker_limits.specs.Limits.{IsOfKnown}
use Rattle.spk_broker_limits.proofs.Totals.{found}
use Rattle.spk_broker_limits.proofs.Sends.{OnConnection, Every, IsIn, AllFit, kept_by_all, silent_in}

-- ---- what is there is known

same : (k : ℕ) → (k == k) ≡ true
same k = is (k == k) refl
  where
    is : (b : Bool) → (k == k) ≡ b → (k == k) ≡ true
    is true e = e
    is false e = absurd (eqb-false k k e refl)

or_left : (a b : Bool) → a ≡ true → (a || b) ≡ true
or_left a b e = ap (λ x. x || b) e

or_right : (a b : Bool) → b ≡ true → (a || b) ≡ true
or_right true b e = refl
or_right false b e = e

also : {X : Type 0} (P Q : X → Type 0) → ((x : X) → P x → Q x) → (xs : List X) → Every P xs → Every Q xs
also P Q f [] a = tt
also P Q f (x ∷ xs) a = (f x a.0, also P Q f xs a.1)

newcomers_there : (gs : List Newcomer) → Every (λ (g : Newcomer). list_any (is_newcomer g.conn) gs ≡ true) gs
newcomers_there [] = tt
newcomers_there (g ∷ gs) = (
  or_left (g.conn == g.conn) (list_any (is_newcomer g.conn) gs) (same g.conn),
  also (λ (h : Newcomer). list_any (is_newcomer h.conn) gs ≡ true) (λ (h : Newcomer). list_any (is_newcomer h.conn) (g ∷ gs) ≡ true) (λ h e. or_right (g.conn == h.conn) (list_any (is_newcomer h.conn) gs) e) gs (newcomers_there gs),
)

session_first : (c : ℕ) (s : Session) (ss : List Session) → sits c s ≡ true → is_some (session_by c (s ∷ ss)) ≡ true
session_first c s ss e = ap (λ b. is_some (cond b (Some s) (find (sits c) ss))) e

session_later : (c : ℕ) (s : Session) (ss : List Session) → is_some (session_by c ss) ≡ true → is_some (session_by c (s ∷ ss)) ≡ true
session_later c s ss e = by (sits c s)
  where
    by : (b : Bool) → is_some (cond b (Some s) (find (sits c) ss)) ≡ true
    by true = refl
    by false = e

connection_first : (s : Session) (ss : List Session) (o : Option Connection) → s.here ≡ o → OnConnection (λ c. is_some (session_by c (s ∷ ss)) ≡ true) o
connection_first s ss None e = tt
connection_first s ss (Some l) e = session_first l.conn s ss (ap (λ o. option_map_or (λ (x : Connection). x.conn == l.conn) o false) e ∙ same l.conn)

connection_later : (s : Session) (ss : List Session) (o : Option Connection) → OnConnection (λ c. is_some (session_by c ss) ≡ true) o → OnConnection (λ c. is_some (session_by c (s ∷ ss)) ≡ true) o
connection_later s ss None p = tt
connection_later s ss (Some l) p = session_later l.conn s ss p

connections_there : (ss : List Session) → Every (λ (s : Session). OnConnection (λ c. is_some (session_by c ss) ≡ true) s.here) ss
connections_there [] = tt
connections_there (s ∷ ss) = (
  connection_first s ss s.here refl,
  also (λ (t : Session). OnConnection (λ c. is_some (session_by c ss) ≡ true) t.here) (λ (t : Session). OnConnection (λ c. is_some (session_by c (s ∷ ss)) ≡ true) t.here) (λ t p. connection_later s ss t.here p) ss (connections_there ss),
)

known_connection : (b : Broker) (o : Option Connection) → OnConnection (λ c. is_some (session_by c b.sessions) ≡ true) o → OnConnection (λ c. knows b c ≡ true) o
known_connection b None p = tt
known_connection b (Some l) p = or_right (list_any (is_newcomer l.conn) b.newcomers) (is_some (session_by l.conn b.sessions)) p

begins : (b : Broker) → IsIn (λ c. knows b c ≡ true) (begun b)
begins b = record {
  sends = tt;
  closes = tt;
  newcomers = also (λ (g : Newcomer). list_any (is_newcomer g.conn) b.newcomers ≡ true) (λ (g : Newcomer). knows b g.conn ≡ true) (λ g e. or_left (list_any (is_newcomer g.conn) b.newcomers) (is_some (session_by g.conn b.sessions)) e) b.newcomers (newcomers_there b.newcomers);
  connections = also (λ (s : Session). OnConnection (λ c. is_some (session_by c b.sessions) ≡ true) s.here) (λ (s : Session). OnConnection (λ c. knows b c ≡ true) s.here) (λ s p. known_connection b s.here p) b.sessions (connections_there b.sessions);
}

before_fits : (K : ℕ → Type 0) (e : Event) → AllFit K (before e)
before_fits K (Open moment) = (tt, tt)
before_fits K (Packet conn p moment) = (tt, (tt, tt))
before_fits K (Fault conn f moment) = (tt, tt)
before_fits K (Closed conn moment) = (tt, tt)
before_fits K (Tick moment) = (tt, tt)
before_fits K (Refused conn sort.QosZero moment) = (tt, (tt, tt))
before_fits K (Refused conn sort.Other moment) = (tt, tt)

-- ---- plans

shut_fits : (K : ℕ → Type 0) (conn : ℕ) → K conn → AllFit K (shut conn)
shut_fits K conn k = (tt, (k, (tt, tt)))

away_fits : (K : ℕ → Type 0) (conn code : ℕ) → K conn → AllFit K (turn_away conn code)
away_fits K conn code k = (k, (tt, (k, (tt, tt))))

by_test : (K : ℕ → Type 0) (b : Bool) (xs ys : List Act) → AllFit K xs → AllFit K ys → AllFit K (cond b xs ys)
by_test K true xs ys x y = x
by_test K false xs ys x y = y

join_fits : (K : ℕ → Type 0) (xs ys : List Act) → AllFit K xs → AllFit K ys → AllFit K (xs ++ ys)
join_fits K [] ys a b = b
join_fits K (x ∷ xs) ys a b = (a.0, join_fits K xs ys a.1 b)

publish_fits : (K : ℕ → Type 0) (conn : ℕ) (id : Option ℕ) (app_message : AppMessage) → K conn → AllFit K (puback conn id ++ Queue app_message ∷ Route ∷ [])
publish_fits K conn None app_message k = (tt, (tt, tt))
publish_fits K conn (Some id) app_message k = (k, (tt, (tt, tt)))

next_fits : (K : ℕ → Type 0) (s : Seen) (conn : ℕ) (p : Message) → K conn → AllFit K (next_packet s conn p)
next_fits K s conn (Connect client clean alive will) k = shut_fits K conn k
next_fits K s conn (ConnAck present code) k = shut_fits K conn k
next_fits K s conn (Publish dup qos retain topic id payload) k =
    let app_message : AppMessage = record { topic = topic; payload = payload; qos = qos; retain = retain } in
    by_test K (is_some (topic_refusal topic)) (shut conn) (puback conn id ++ Queue app_message ∷ Route ∷ []) (shut_fits K conn k) (publish_fits K conn id app_message k)
next_fits K s conn (PubAck id) k = (tt, tt)
next_fits K s conn (Subscribe id entries) k =
    by_test K (list_any (λ e. is_some (filter_refusal e.0)) entries || s.heavy) (shut conn) (Give conn id entries ∷ Route ∷ []) (shut_fits K conn k) (tt, (tt, tt))
next_fits K s conn (SubAck id codes) k = shut_fits K conn k
next_fits K s conn (Unsubscribe id filters) k =
    by_test K (has_bad_filter filters) (shut conn) (Take conn filters ∷ Say conn (UnsubAck id) ∷ []) (shut_fits K conn k) (tt, (k, tt))
next_fits K s conn (UnsubAck id) k = shut_fits K conn k
next_fits K s conn PingReq k = (k, tt)
next_fits K s conn PingResp k = shut_fits K conn k
next_fits K s conn Disconnect k = (tt, tt)

take_fits : (K : ℕ → Type 0) (older : Option ℕ) → AllFit K (take_over older)
take_fits K None = tt
take_fits K (Some conn) = (tt, (tt, tt))

abbrev Older : (ℕ → Type 0) → Option ℕ → Type 0
Older K None = Unit {0}
Older K (Some conn) = K conn

told_fits : (K : ℕ → Type 0) (older : Option ℕ) → Older K older → AllFit K (tell_older older)
told_fits K None k = tt
told_fits K (Some conn) k = (k, tt)

forget_fits : (K : ℕ → Type 0) (clean : Bool) (client : List ℕ) → AllFit K (cond clean (Forget client ∷ []) [])
forget_fits K true client = (tt, tt)
forget_fits K false client = tt

join_all : (K : ℕ → Type 0) (older : Option ℕ) (conn : ℕ) (client : List ℕ) (clean : Bool) (alive : ℕ) (will : Option AppMessage) → Older K older → AllFit K (join older conn client clean alive will)
join_all K older conn client clean alive will k =
    join_fits K (take_over older) (cond clean (Forget client ∷ []) [] ++ Accept conn client (not clean) alive will ∷ tell_older older) (take_fits K older)
    (join_fits K (cond clean (Forget client ∷ []) []) (Accept conn client (not clean) alive will ∷ tell_older older) (forget_fits K clean client) (tt, told_fits K older k))

connect_fits : (K : ℕ → Type 0) (s : Seen) (conn : ℕ) (client : List ℕ) (clean : Bool) (alive : ℕ) (will : Option WillData) → K conn → Older K s.older → AllFit K (connect s conn client clean alive will)
connect_fits K s conn client clean alive will k older =
    by_test K (is_empty client && not clean) (turn_away conn 2)
    (cond (has_bad_topic will) (shut conn) (cond (not clean && not s.welcome) (turn_away conn 3) (join s.older conn client clean alive (option_map will_message will))))
    (away_fits K conn 2 k)
    (by_test K (has_bad_topic will) (shut conn) (cond (not clean && not s.welcome) (turn_away conn 3) (join s.older conn client clean alive (option_map will_message will))) (shut_fits K conn k)
    (by_test K (not clean && not s.welcome) (turn_away conn 3) (join s.older conn client clean alive (option_map will_message will)) (away_fits K conn 3 k)
    (join_all K s.older conn client clean alive (option_map will_message will) older)))

first_fits : (K : ℕ → Type 0) (s : Seen) (conn : ℕ) (p : Message) → K conn → Older K s.older → AllFit K (first_packet s conn p)
first_fits K s conn (Connect client clean alive will) k older = connect_fits K s conn client clean alive will k older
first_fits K s conn (ConnAck present code) k older = shut_fits K conn k
first_fits K s conn (Publish dup qos retain topic id payload) k older = shut_fits K conn k
first_fits K s conn (PubAck id) k older = shut_fits K conn k
first_fits K s conn (Subscribe id entries) k older = shut_fits K conn k
first_fits K s conn (SubAck id codes) k older = shut_fits K conn k
first_fits K s conn (Unsubscribe id filters) k older = shut_fits K conn k
first_fits K s conn (UnsubAck id) k older = shut_fits K conn k
first_fits K s conn PingReq k older = shut_fits K conn k
first_fits K s conn PingResp k older = shut_fits K conn k
first_fits K s conn Disconnect k older = shut_fits K conn k

tick_fits : (K : ℕ → Type 0) (silent : List ℕ) → Every K silent → AllFit K (tick silent)
tick_fits K [] a = (tt, tt)
tick_fits K (c ∷ cs) a = (tt, (a.0, tick_fits K cs a.1))

-- who is taken over sits somewhere
older_fits : (K : ℕ → Type 0) (client : List ℕ) (ss : List Session) → Every (λ (s : Session). OnConnection K s.here) ss → Older K (older_in client ss)
older_fits K client ss a = by (is_empty client) (find (λ (s : Session). is_some s.here && bytes_eq s.client client) ss) refl
  where
    on : (o : Option Connection) → OnConnection K o → Older K (option_map (λ (l : Connection). l.conn) o)
    on None p = tt
    on (Some l) p = p

    by : (b : Bool) (o : Option Session) → find (λ (s : Session). is_some s.here && bytes_eq s.client client) ss ≡ o
        → Older K (cond b None (option_map_or conn_at (find (λ (s : Session). is_some s.here && bytes_eq s.client client) ss) None))
    by true o e = tt
    by false None e = subst (λ x. Older K (option_map_or conn_at x None)) (sym e) tt
    by false (Some s) e =
        subst (λ x. Older K (option_map_or conn_at x None)) (sym e) (on s.here (found (λ (u : Session). OnConnection K u.here) (λ (u : Session). is_some u.here && bytes_eq u.client client) ss s a e))

-- ---- a whole event

ends : (K : ℕ → Type 0) (b : Broker) (e : Event) (plan_ : List Act) → IsIn K (noted b e) → AllFit K plan_ → IsIn K (acts plan_ (noted b e))
ends K b e plan_ h f = kept_by_all K plan_ f (noted b e) h

planned : (b : Broker) (conn : ℕ) (p : Message) (moment : ℕ) → knows b conn ≡ true → IsIn (λ c. knows b c ≡ true) (noted b (Packet conn p moment))
    → AllFit (λ c. knows b c ≡ true) (packet (seen (noted b (Packet conn p moment)).broker (Packet conn p moment)) conn p)
planned b conn p moment k h =
    let s : Seen = seen (noted b (Packet conn p moment)).broker (Packet conn p moment) in
    by_test (λ c. knows b c ≡ true) (is_some (first_of (unwritable p))) (shut conn) (cond s.joined (next_packet s conn p) (first_packet s conn p)) (shut_fits (λ c. knows b c ≡ true) conn k)
    (by_test (λ c. knows b c ≡ true) s.joined (next_packet s conn p) (first_packet s conn p) (next_fits (λ c. knows b c ≡ true) s conn p k)
    (first_fits (λ c. knows b c ≡ true) s conn p k (older_fits (λ c. knows b c ≡ true) (client_in p) (noted b (Packet conn p moment)).broker.sessions h.connections)))

pub stays_in : (b : Broker) (e : Event) → IsOfKnown b e → Every (λ (s : Send). knows b s.conn ≡ true) (step b e).sends × Every (λ c. knows b c ≡ true) (step b e).closes
unfolding step
stays_in b (Open moment) k = (tt, tt)
stays_in b (Packet conn p moment) k =
    let h = kept_by_all (λ c. knows b c ≡ true) (before (Packet conn p moment)) (before_fits (λ c. knows b c ≡ true) (Packet conn p moment)) (begun b) (begins b) in
    let s : Seen = seen (noted b (Packet conn p moment)).broker (Packet conn p moment) in
    let done = ends (λ c. knows b c ≡ true) b (Packet conn p moment) (packet s conn p) h (planned b conn p moment k h) in
    (done.sends, done.closes)
stays_in b (Fault conn f moment) k =
    let h = kept_by_all (λ c. knows b c ≡ true) (before (Fault conn f moment)) (before_fits (λ c. knows b c ≡ true) (Fault conn f moment)) (begun b) (begins b) in
    let s : Seen = seen (noted b (Fault conn f moment)).broker (Fault conn f moment) in
    let done = ends (λ c. knows b c ≡ true) b (Fault conn f moment) (bad_bytes s conn f) h
    (by_test (λ c. knows b c ≡ true) (is_bad_level f && not s.joined) (turn_away conn 1) (shut conn) (away_fits (λ c. knows b c ≡ true) conn 1 k) (shut_fits (λ c. knows b c ≡ true) conn k)) in
    (done.sends, done.closes)
stays_in b (Closed conn moment) k =
    let h = kept_by_all (λ c. knows b c ≡ true) (before (Closed conn moment)) (before_fits (λ c. knows b c ≡ true) (Closed conn moment)) (begun b) (begins b) in
    let done = ends (λ c. knows b c ≡ true) b (Closed conn moment) (Leave conn true ∷ Route ∷ []) h (tt, (tt, tt)) in
    (done.sends, done.closes)
stays_in b (Tick moment) k =
    let h = kept_by_all (λ c. knows b c ≡ true) (before (Tick moment)) (before_fits (λ c. knows b c ≡ true) (Tick moment)) (begun b) (begins b) in
    let s : Seen = seen (noted b (Tick moment)).broker (Tick moment) in
    let done = ends (λ c. knows b c ≡ true) b (Tick moment) (tick s.silent) h
    (tick_fits (λ c. knows b c ≡ true) s.silent (silent_in (λ c. knows b c ≡ true) (noted b (Tick moment)).broker.clock (noted b (Tick moment)).broker.sessions h.connections)) in
    (done.sends, done.closes)
stays_in b (Refused conn q moment) k =
    let h = kept_by_all (λ c. knows b c ≡ true) (before (Refused conn q moment)) (before_fits (λ c. knows b c ≡ true) (Refused conn q moment)) (begun b) (begins b) in
    let s : Seen = seen (noted b (Refused conn q moment)).broker (Refused conn q moment) in
    let done = ends (λ c. knows b c ≡ true) b (Refused conn q moment) (refused s conn q) h (by_test (λ c. knows b c ≡ true) (is_fatal q s.spent) (shut conn) [] (shut_fits (λ c. knows b c ≡ true) conn k) tt) in
    (done.sends, done.closes)
