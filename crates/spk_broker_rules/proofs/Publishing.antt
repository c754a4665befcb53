-- A plain publish: QoS 0, without RETAIN.
use Rattle.std.proofs.Common.{◌≡◌, ℕ, ◌-◌, max, min, Bool, true, false, cond, eqb, List, [], ◌∷◌, ◌++◌, map, length, refl, ◌∙◌, ap, ap₂, arith, Option, Some, None}
use Rattle.std.specs.List.{flat_map}
use Rattle.std.specs.Option.{option_map, option_map_or, is_some}
use Rattle.spk_packets.specs.Fault.{first_of}
use Rattle.spk_packets.specs.Message.{Message}
use Rattle.spk_packets.specs.Spelling.{unwritable}
use Rattle.spk_topics.specs.Text.{topic_refusal}
use Rattle.spk_broker_rules.specs.Data.{AppMessage, Connection, Session, Broker, Send}
use Rattle.spk_broker_rules.specs.Words.{best, granted_of, is_heavy, level, to_connection}
use Rattle.spk_broker_rules.specs.Plan.{Event, Packet, Act, Queue, Route, shut}
use Rattle.spk_broker_rules.specs.Step.{Turn, acts, noted, step, route, route_one, serve, serve_at, conn_at, session_by, sits, connection_heard, all_grants, heavy_at, heavy_in}
use Rattle.spk_broker_rules.specs.Listening.{is_joined, is_listening, plain_publish, IsPlain, given_to}
use Rattle.spk_broker_rules.proofs.Lists.{find-map, flat_map-map, flat_map-same}
use Rattle.spk_broker_rules.proofs.Routing.{route-done, route-next}

abbrev pub app_message_of : List ℕ → List ℕ → AppMessage
app_message_of topic payload = record { topic = topic; payload = payload; qos = 0; retain = false }

no-level : (q : ℕ) → min 0 q ≡ 0
no-level q = omega arith

-- what it does to a session: nothing, but a send where it listens and is there
plain-left : (topic payload : List ℕ) (s : Session) → (serve (app_message_of topic payload) s).left ≡ s ∷ []
plain-left topic payload s = by (best topic s.grants)
  where
    by : (o : Option ℕ) → (serve_at (level 0 o) (app_message_of topic payload) s).left ≡ s ∷ []
    by None = refl
    by (Some q) = ap (λ n. (serve_at (Some n) (app_message_of topic payload) s).left) (no-level q)

plain-sends : (topic payload : List ℕ) (s : Session) → (serve (app_message_of topic payload) s).sends ≡ given_to topic payload s
plain-sends topic payload s = by (best topic s.grants)
  where
    by : (o : Option ℕ) → (serve_at (level 0 o) (app_message_of topic payload) s).sends ≡ cond (is_some o) (to_connection (conn_at s) (plain_publish topic payload)) []
    by None = refl
    by (Some q) = ap (λ n. (serve_at (Some n) (app_message_of topic payload) s).sends) (no-level q)

plain-closes : (topic payload : List ℕ) (s : Session) → (serve (app_message_of topic payload) s).closes ≡ []
plain-closes topic payload s = by (best topic s.grants)
  where
    by : (o : Option ℕ) → (serve_at (level 0 o) (app_message_of topic payload) s).closes ≡ []
    by None = refl
    by (Some q) = ap (λ n. (serve_at (Some n) (app_message_of topic payload) s).closes) (no-level q)

plain-wills : (topic payload : List ℕ) (s : Session) → (serve (app_message_of topic payload) s).wills ≡ []
plain-wills topic payload s = by (best topic s.grants)
  where
    by : (o : Option ℕ) → (serve_at (level 0 o) (app_message_of topic payload) s).wills ≡ []
    by None = refl
    by (Some q) = ap (λ n. (serve_at (Some n) (app_message_of topic payload) s).wills) (no-level q)

all-ones : (f : Session → List Session) → ((s : Session) → f s ≡ s ∷ []) → (ss : List Session) → flat_map f ss ≡ ss
all-ones f h [] = refl
all-ones f h (s ∷ ss) = ap₂ (λ xs ys. xs ++ ys) (h s) (all-ones f h ss)

all-none : {X : Type 0} (f : Session → List X) → ((s : Session) → f s ≡ []) → (ss : List Session) → flat_map f ss ≡ []
all-none f h [] = refl
all-none f h (s ∷ ss) = ap₂ (λ xs ys. xs ++ ys) (h s) (all-none f h ss)

abbrev pub turn_from : Broker → List Send → List ℕ → List AppMessage → Turn
turn_from b xs cs ps = record { broker = b; sends = xs; closes = cs; waiting = ps }

abbrev with_sessions : Broker → List Session → Broker
with_sessions b ss = record b { sessions = ss }

-- routed, it changes nothing
pub plain-routed : (topic payload : List ℕ) (b : Broker) → route (turn_from b [] [] (app_message_of topic payload ∷ [])) ≡ turn_from b (flat_map (given_to topic payload) b.sessions) [] []
plain-routed topic payload b =
    route-next m [] (turn_from b [] [] (m ∷ [])) refl ∙ ap route once ∙ route-done (turn_from b (flat_map (given_to topic payload) b.sessions) [] []) refl
  where
    m : AppMessage
    m = app_message_of topic payload

    once : route_one (app_message_of topic payload) (turn_from b [] [] []) ≡ turn_from b (flat_map (given_to topic payload) b.sessions) [] []
    once = ap (λ ss. turn_from (with_sessions b ss) (flat_map (λ (s : Session). (serve (app_message_of topic payload) s).sends) b.sessions) (flat_map (λ (s : Session). (serve (app_message_of topic payload) s).closes) b.sessions) (flat_map (λ (s : Session). (serve (app_message_of topic payload) s).wills) b.sessions))
        (all-ones (λ (s : Session). (serve (app_message_of topic payload) s).left) (plain-left topic payload) b.sessions)
        ∙ ap (λ xs. turn_from b xs (flat_map (λ (s : Session). (serve (app_message_of topic payload) s).closes) b.sessions) (flat_map (λ (s : Session). (serve (app_message_of topic payload) s).wills) b.sessions))
        (flat_map-same (λ (s : Session). (serve (app_message_of topic payload) s).sends) (given_to topic payload) (plain-sends topic payload) b.sessions)
        ∙ ap (λ cs. turn_from b (flat_map (given_to topic payload) b.sessions) cs (flat_map (λ (s : Session). (serve (app_message_of topic payload) s).wills) b.sessions))
        (all-none (λ (s : Session). (serve (app_message_of topic payload) s).closes) (plain-closes topic payload) b.sessions)
        ∙ ap (turn_from b (flat_map (given_to topic payload) b.sessions) []) (all-none (λ (s : Session). (serve (app_message_of topic payload) s).wills) (plain-wills topic payload) b.sessions)

abbrev heard_session : ℕ → ℕ → Session → Session
heard_session conn clock s = record s { here = option_map (connection_heard conn clock) s.here }

-- what is noted leaves connections at their sessions
conn-heard : (conn clock : ℕ) (s : Session) → conn_at (heard_session conn clock s) ≡ conn_at s
conn-heard conn clock s = by s.here
  where
    one : (l : Connection) (b : Bool) → (cond b (record l { heard = clock }) l).conn ≡ l.conn
    one l true = refl
    one l false = refl

    by : (o : Option Connection) → option_map (λ (l : Connection). l.conn) (option_map (connection_heard conn clock) o) ≡ option_map (λ (l : Connection). l.conn) o
    by None = refl
    by (Some l) = ap Some (one l (eqb l.conn conn))

sits-heard : (conn clock c : ℕ) (s : Session) → sits c (heard_session conn clock s) ≡ sits c s
sits-heard conn clock c s = by s.here
  where
    one : (l : Connection) (b : Bool) → (cond b (record l { heard = clock }) l).conn ≡ l.conn
    one l true = refl
    one l false = refl

    by : (o : Option Connection) → option_map_or (λ (l : Connection). eqb l.conn c) (option_map (connection_heard conn clock) o) false ≡ option_map_or (λ (l : Connection). eqb l.conn c) o false
    by None = refl
    by (Some l) = ap (λ n. eqb n c) (one l (eqb l.conn conn))

pub joined-heard : (conn clock : ℕ) (ss : List Session) → is_some (session_by conn (map (heard_session conn clock) ss)) ≡ is_some (session_by conn ss)
joined-heard conn clock ss = ap is_some (find-map (heard_session conn clock) (sits conn) (sits conn) (sits-heard conn clock conn) ss) ∙ by (session_by conn ss)
  where
    by : (o : Option Session) → is_some (option_map (heard_session conn clock) o) ≡ is_some o
    by None = refl
    by (Some s) = refl

-- what a SUBSCRIBE is given is not of when it was heard
pub heavy-heard : (b : Broker) (conn moment : ℕ) (p : Message) (entries : List (List ℕ × ℕ)) → heavy_in conn entries (noted b (Packet conn p moment)).broker ≡ heavy_in conn entries b
heavy-heard b conn moment p entries =
    ap (λ o. heavy_at o entries (noted b (Packet conn p moment)).broker) (find-map (heard_session conn k) (sits conn) (sits conn) (sits-heard conn k conn) b.sessions) ∙ by (session_by conn b.sessions)
  where
    k : ℕ
    k = max b.clock moment

    all : all_grants (map (heard_session conn k) b.sessions) ≡ all_grants b.sessions
    all = ap length (flat_map-map (heard_session conn k) (λ (s : Session). s.grants) (λ (s : Session). s.grants) (λ s. refl) b.sessions)

    by : (o : Option Session) → heavy_at (option_map (heard_session conn k) o) entries (noted b (Packet conn p moment)).broker ≡ heavy_at o entries b
    by None = refl
    by (Some s) = ap (λ n. is_heavy b.retained (granted_of (n - length s.grants) s.grants entries)) all

plain-plan : (unwritten joined bad : Bool) (conn : ℕ) (app_message : AppMessage) (first : List Act) → unwritten ≡ false → joined ≡ true → bad ≡ false
    → cond unwritten (shut conn) (cond joined (cond bad (shut conn) (Queue app_message ∷ Route ∷ [])) first) ≡ Queue app_message ∷ Route ∷ []
plain-plan unwritten joined bad conn app_message first a b c = rw (a, b, c) refl

abbrev event : ℕ → List ℕ → List ℕ → ℕ → Event
event conn topic payload moment = Packet conn (plain_publish topic payload) moment

-- the whole call
pub published : (b : Broker) (conn moment : ℕ) (topic payload : List ℕ) → IsPlain topic payload → is_joined b conn ≡ true
    → step b (event conn topic payload moment) ≡ turn_from (noted b (event conn topic payload moment)).broker (flat_map (given_to topic payload) b.sessions) [] []
unfolding step
published b conn moment topic payload plain joined =
    ap (λ l. acts l (noted b (event conn topic payload moment)))
    (plain-plan (is_some (first_of (unwritable (plain_publish topic payload)))) (is_some (session_by conn (map (heard_session conn k) b.sessions))) (is_some (topic_refusal topic)) conn (app_message_of topic payload) (shut conn)
    plain.writable (joined-heard conn k b.sessions ∙ joined) plain.named)
    ∙ plain-routed topic payload (noted b (event conn topic payload moment)).broker
    ∙ ap (λ xs. turn_from (noted b (event conn topic payload moment)).broker xs [] [])
    (flat_map-map (heard_session conn k) (given_to topic payload) (given_to topic payload)
    (λ s. ap (λ c. cond (is_listening topic s) (to_connection c (plain_publish topic payload)) []) (conn-heard conn k s)) b.sessions)
  where
    k : ℕ
    k = max b.clock moment
