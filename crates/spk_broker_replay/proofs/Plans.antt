-- What the rules plan is the same beside data without time and drops.
use Rattle.std.proofs.Common.{◌≡◌, ℕ, suc, ◌+◌, Bool, true, false, not, ◌&&◌, ◌||◌, cond, List, [], ◌∷◌, ◌++◌, map, length, refl, sym, ◌∙◌, ap, ap₂, nat_lt, Option, Some, None}
use Rattle.std.specs.List.{find, filter, list_any}
use Rattle.std.specs.Option.{option_map, option_map_or, is_some}
use Rattle.std.specs.Str.{bytes_eq}
use Rattle.std.proofs.lemmas.List.{length-append, length-map}
use Rattle.spk_packets.specs.Fault.{first_of}
use Rattle.spk_packets.specs.Grammar.{largest}
use Rattle.spk_packets.specs.Message.{Message, WillData, Connect, ConnAck, Publish, PubAck, Subscribe, SubAck, Unsubscribe, UnsubAck, PingReq, PingResp, Disconnect}
use Rattle.spk_packets.specs.Spelling.{unwritable, spelling, body, shortest, is_empty, has_bad_text, has_bad_body, is_qos_two}
use Rattle.spk_packets.specs.declared.fault.PacketFault.TheVariants.{BadText, BadBody, TooLarge, QosTwo}
use Rattle.spk_topics.specs.Text.{filter_refusal, topic_refusal}
use Rattle.spk_broker_rules.specs.Data.{AppMessage, Session, Broker}
use Rattle.spk_broker_rules.specs.Words.{granted_of, is_heavy, most_kept}
use Rattle.spk_broker_rules.specs.Plan.{Act, Queue, Route, Give, Seen, shut, turn_away, join, connect, has_bad_topic, first_packet, next_packet, packet, puback, client_in, entries_in}
use Rattle.spk_broker_rules.specs.Step.{conn_at, session_by, older_in, is_kept_of, welcome_in, heavy_at, heavy_in}
use Rattle.spk_broker_rules.proofs.Lists.{find-map, any-map, filter-map}
use Rattle.spk_broker_replay.specs.Replay.{bare_session, bare, timeless}
use Rattle.spk_broker_replay.proofs.Bare.{bare_act, conn-bare, here-bare, session_by-bare, other_grants-bare}

-- ---- what is asked of the data

joined-bare : (c : ℕ) (ss : List Session) → is_some (session_by c (map bare_session ss)) ≡ is_some (session_by c ss)
joined-bare c ss = ap is_some (session_by-bare c ss) ∙ by (session_by c ss)
  where
    by : (o : Option Session) → is_some (option_map bare_session o) ≡ is_some o
    by None = refl
    by (Some s) = refl

older-bare : (client : List ℕ) (ss : List Session) → older_in client (map bare_session ss) ≡ older_in client ss
older-bare client ss =
    ap (λ o. cond (is_empty client) None (option_map_or conn_at o None))
    (find-map bare_session (λ (s : Session). is_some s.here && bytes_eq s.client client) (λ (s : Session). is_some s.here && bytes_eq s.client client)
    (λ s. ap (λ h. h && bytes_eq s.client client) (here-bare s.here)) ss)
    ∙ ap (cond (is_empty client) None) (by (find (λ (s : Session). is_some s.here && bytes_eq s.client client) ss))
  where
    by : (o : Option Session) → option_map_or conn_at (option_map bare_session o) None ≡ option_map_or conn_at o None
    by None = refl
    by (Some s) = conn-bare s

welcome-bare : (client : List ℕ) (ss : List Session) → welcome_in client (map bare_session ss) ≡ welcome_in client ss
welcome-bare client ss = ap₂ (λ a n. a || nat_lt n most_kept)
    (any-map bare_session (is_kept_of client) (is_kept_of client) (λ s. refl) ss)
    (ap length (filter-map bare_session (λ (s : Session). s.kept) (λ (s : Session). s.kept) (λ s. refl) ss) ∙ length-map (filter (λ (s : Session). s.kept) ss) bare_session)

heavy-bare : (c : ℕ) (entries : List (List ℕ × ℕ)) (b : Broker) → heavy_in c entries (bare b) ≡ heavy_in c entries b
heavy-bare c entries b = ap (λ o. heavy_at o entries (bare b)) (session_by-bare c b.sessions) ∙ by (session_by c b.sessions)
  where
    by : (o : Option Session) → heavy_at (option_map bare_session o) entries (bare b) ≡ heavy_at o entries b
    by None = refl
    by (Some s) = ap (λ n. is_heavy b.retained (granted_of n s.grants entries)) (other_grants-bare s b.sessions)

-- of data that are the same but for time and drops
pub joined-alike : (c : ℕ) (b n : Broker) → bare b ≡ bare n → is_some (session_by c b.sessions) ≡ is_some (session_by c n.sessions)
joined-alike c b n e = sym (joined-bare c b.sessions) ∙ ap (λ (x : Broker). is_some (session_by c x.sessions)) e ∙ joined-bare c n.sessions

older-alike : (client : List ℕ) (b n : Broker) → bare b ≡ bare n → older_in client b.sessions ≡ older_in client n.sessions
older-alike client b n e = sym (older-bare client b.sessions) ∙ ap (λ (x : Broker). older_in client x.sessions) e ∙ older-bare client n.sessions

welcome-alike : (client : List ℕ) (b n : Broker) → bare b ≡ bare n → welcome_in client b.sessions ≡ welcome_in client n.sessions
welcome-alike client b n e = sym (welcome-bare client b.sessions) ∙ ap (λ (x : Broker). welcome_in client x.sessions) e ∙ welcome-bare client n.sessions

heavy-alike : (c : ℕ) (entries : List (List ℕ × ℕ)) (b n : Broker) → bare b ≡ bare n → heavy_in c entries b ≡ heavy_in c entries n
heavy-alike c entries b n e = sym (heavy-bare c entries b) ∙ ap (heavy_in c entries) e ∙ heavy-bare c entries n

-- what the rules see of an event's connection, client and entries
abbrev pub seeing : ℕ → List ℕ → List (List ℕ × ℕ) → Broker → Bool → List ℕ → Seen
seeing c client entries b spent silent = record {
  joined = is_some (session_by c b.sessions);
  older = older_in client b.sessions;
  welcome = welcome_in client b.sessions;
  spent = spent;
  silent = silent;
  heavy = heavy_in c entries b;
}

abbrev looking : Bool → Option ℕ → Bool → Bool → Bool → List ℕ → Seen
looking joined older welcome heavy spent silent = record { joined = joined; older = older; welcome = welcome; spent = spent; silent = silent; heavy = heavy }

seeing-alike : (c : ℕ) (client : List ℕ) (entries : List (List ℕ × ℕ)) (b n : Broker) (spent : Bool) (silent : List ℕ) → bare b ≡ bare n
    → seeing c client entries n spent silent ≡ seeing c client entries b spent silent
seeing-alike c client entries b n spent silent e =
    ap₂ (λ j o. looking j o (welcome_in client n.sessions) (heavy_in c entries n) spent silent) (sym (joined-alike c b n e)) (sym (older-alike client b n e))
    ∙ ap₂ (λ w h. looking (is_some (session_by c b.sessions)) (older_in client b.sessions) w h spent silent) (sym (welcome-alike client b n e)) (sym (heavy-alike c entries b n e))

-- ---- a packet without its moment

many-bare : (client : List ℕ) (clean : Bool) (alive : ℕ) (will : Option WillData) → length (body (Connect client clean 1 will)) ≡ length (body (Connect client clean alive will))
unfolding body
many-bare client clean alive will = refl

spelled : (p : Message) → length (spelling p) ≡ suc (length (shortest (length (body p))) + length (body p))
unfolding spelling
spelled p = ap suc (length-append (shortest (length (body p))) (body p))

spelled-bare : (client : List ℕ) (clean : Bool) (alive : ℕ) (will : Option WillData) → length (spelling (Connect client clean 1 will)) ≡ length (spelling (Connect client clean alive will))
spelled-bare client clean alive will =
    spelled (Connect client clean 1 will)
    ∙ ap (λ n. suc (length (shortest n) + n)) (many-bare client clean alive will)
    ∙ sym (spelled (Connect client clean alive will))

connect-unwritten : (client : List ℕ) (clean : Bool) (alive : ℕ) (will : Option WillData)
    → is_some (first_of (unwritable (Connect client clean 1 will))) ≡ is_some (first_of (unwritable (Connect client clean alive will)))
unfolding has_bad_text has_bad_body is_qos_two
connect-unwritten client clean alive will =
    ap (λ n. is_some (first_of ((has_bad_text (Connect client clean alive will), BadText) ∷ (has_bad_body (Connect client clean alive will), BadBody) ∷ (is_qos_two (Connect client clean alive will), QosTwo) ∷ (nat_lt largest n, TooLarge) ∷ [])))
    (spelled-bare client clean alive will)

unwritten : (p : Message) → is_some (first_of (unwritable (timeless p))) ≡ is_some (first_of (unwritable p))
unwritten (Connect client clean alive will) = connect-unwritten client clean alive will
unwritten (ConnAck present code) = refl
unwritten (Publish dup qos retain topic id payload) = refl
unwritten (PubAck id) = refl
unwritten (Subscribe id entries) = refl
unwritten (SubAck id codes) = refl
unwritten (Unsubscribe id filters) = refl
unwritten (UnsubAck id) = refl
unwritten PingReq = refl
unwritten PingResp = refl
unwritten Disconnect = refl

pub client-timeless : (p : Message) → client_in (timeless p) ≡ client_in p
client-timeless (Connect client clean alive will) = refl
client-timeless (ConnAck present code) = refl
client-timeless (Publish dup qos retain topic id payload) = refl
client-timeless (PubAck id) = refl
client-timeless (Subscribe id entries) = refl
client-timeless (SubAck id codes) = refl
client-timeless (Unsubscribe id filters) = refl
client-timeless (UnsubAck id) = refl
client-timeless PingReq = refl
client-timeless PingResp = refl
client-timeless Disconnect = refl

pub entries-timeless : (p : Message) → entries_in (timeless p) ≡ entries_in p
entries-timeless (Connect client clean alive will) = refl
entries-timeless (ConnAck present code) = refl
entries-timeless (Publish dup qos retain topic id payload) = refl
entries-timeless (PubAck id) = refl
entries-timeless (Subscribe id entries) = refl
entries-timeless (SubAck id codes) = refl
entries-timeless (Unsubscribe id filters) = refl
entries-timeless (UnsubAck id) = refl
entries-timeless PingReq = refl
entries-timeless PingResp = refl
entries-timeless Disconnect = refl

-- ---- what is planned

abbrev bares : List Act → List Act
bares as_list = map bare_act as_list

nest : (u j : Bool) (s n f t m g : List Act) → t ≡ bares s → m ≡ bares n → g ≡ bares f → cond u t (cond j m g) ≡ bares (cond u s (cond j n f))
nest true j s n f t m g a b c = a
nest false true s n f t m g a b c = b
nest false false s n f t m g a b c = c

pick : (u : Bool) (s n t m : List Act) → t ≡ bares s → m ≡ bares n → cond u t m ≡ bares (cond u s n)
pick true s n t m a b = a
pick false s n t m a b = b

join-bare : (older : Option ℕ) (c : ℕ) (client : List ℕ) (clean : Bool) (alive : ℕ) (will : Option AppMessage)
    → join older c client clean 1 will ≡ bares (join older c client clean alive will)
join-bare None c client true alive will = refl
join-bare None c client false alive will = refl
join-bare (Some older) c client true alive will = refl
join-bare (Some older) c client false alive will = refl

-- the rules see the same but for drops and silence
abbrev unlike : Seen → Bool → List ℕ → Seen
unlike seen spent silent = record seen { spent = spent; silent = silent }

connect-bare : (seen : Seen) (spent : Bool) (silent : List ℕ) (c : ℕ) (client : List ℕ) (clean : Bool) (alive : ℕ) (will : Option WillData)
    → connect (unlike seen spent silent) c client clean 1 will ≡ bares (connect seen c client clean alive will)
connect-bare seen spent silent c client clean alive will =
    pick (is_empty client && not clean) (turn_away c 2) _ (turn_away c 2) _ refl
    (pick (has_bad_topic will) (shut c) _ (shut c) _ refl
    (pick (not clean && not seen.welcome) (turn_away c 3) _ (turn_away c 3) _ refl (join-bare seen.older c client clean alive _)))

first-bare : (seen : Seen) (spent : Bool) (silent : List ℕ) (c : ℕ) (p : Message) → first_packet (unlike seen spent silent) c (timeless p) ≡ bares (first_packet seen c p)
first-bare seen spent silent c (Connect client clean alive will) = connect-bare seen spent silent c client clean alive will
first-bare seen spent silent c (ConnAck present code) = refl
first-bare seen spent silent c (Publish dup qos retain topic id payload) = refl
first-bare seen spent silent c (PubAck id) = refl
first-bare seen spent silent c (Subscribe id entries) = refl
first-bare seen spent silent c (SubAck id codes) = refl
first-bare seen spent silent c (Unsubscribe id filters) = refl
first-bare seen spent silent c (UnsubAck id) = refl
first-bare seen spent silent c PingReq = refl
first-bare seen spent silent c PingResp = refl
first-bare seen spent silent c Disconnect = refl

publish-bare : (c : ℕ) (id : Option ℕ) (app_message : AppMessage) (bad : Bool) → cond bad (shut c) (puback c id ++ Queue app_message ∷ Route ∷ []) ≡ bares (cond bad (shut c) (puback c id ++ Queue app_message ∷ Route ∷ []))
publish-bare c id app_message true = refl
publish-bare c None app_message false = refl
publish-bare c (Some id) app_message false = refl

next-bare : (seen : Seen) (spent : Bool) (silent : List ℕ) (c : ℕ) (p : Message) → next_packet (unlike seen spent silent) c (timeless p) ≡ bares (next_packet seen c p)
next-bare seen spent silent c (Connect client clean alive will) = refl
next-bare seen spent silent c (ConnAck present code) = refl
next-bare seen spent silent c (Publish dup qos retain topic id payload) = publish-bare c id (record { topic = topic; payload = payload; qos = qos; retain = retain }) (is_some (topic_refusal topic))
next-bare seen spent silent c (PubAck id) = refl
next-bare seen spent silent c (Subscribe id entries) =
    pick (list_any (λ (e : List ℕ × ℕ). is_some (filter_refusal e.0)) entries || seen.heavy) (shut c) (Give c id entries ∷ Route ∷ []) (shut c) (Give c id entries ∷ Route ∷ []) refl refl
next-bare seen spent silent c (SubAck id codes) = refl
next-bare seen spent silent c (Unsubscribe id filters) =
    pick (list_any (λ f. is_some (filter_refusal f)) filters) (shut c) _ (shut c) _ refl refl
next-bare seen spent silent c (UnsubAck id) = refl
next-bare seen spent silent c PingReq = refl
next-bare seen spent silent c PingResp = refl
next-bare seen spent silent c Disconnect = refl

packet-bare : (seen : Seen) (spent : Bool) (silent : List ℕ) (c : ℕ) (p : Message) → packet (unlike seen spent silent) c (timeless p) ≡ bares (packet seen c p)
packet-bare seen spent silent c p =
    ap (λ u. cond u (shut c) (cond seen.joined (next_packet (unlike seen spent silent) c (timeless p)) (first_packet (unlike seen spent silent) c (timeless p)))) (unwritten p)
    ∙ nest (is_some (first_of (unwritable p))) seen.joined (shut c) (next_packet seen c p) (first_packet seen c p) (shut c) (next_packet (unlike seen spent silent) c (timeless p)) (first_packet (unlike seen spent silent) c (timeless p))
    refl (next-bare seen spent silent c p) (first-bare seen spent silent c p)

-- a packet that comes to both
pub packet-alike : (c : ℕ) (p : Message) (b n : Broker) (spent other : Bool) (silent quiet : List ℕ) → bare b ≡ bare n
    → packet (seeing c (client_in (timeless p)) (entries_in (timeless p)) n other quiet) c (timeless p) ≡ bares (packet (seeing c (client_in p) (entries_in p) b spent silent) c p)
packet-alike c p b n spent other silent quiet e =
    ap₂ (λ client entries. packet (seeing c client entries n other quiet) c (timeless p)) (client-timeless p) (entries-timeless p)
    ∙ ap (λ seen. packet seen c (timeless p)) (seeing-alike c (client_in p) (entries_in p) b n other quiet e)
    ∙ packet-bare (seeing c (client_in p) (entries_in p) b spent silent) other quiet c p
