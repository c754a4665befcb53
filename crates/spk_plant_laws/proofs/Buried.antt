-- What a ring got of a node's NDEATH is that of a session that the node opened, as the node said it.
use Rattle.std.proofs.Common.{◌≡◌, ◌∙◌, sym, ap, refl, subst, true≢false, ℕ, ◌+◌, ◌-◌, ◌*◌, ◌/◌, ◌%◌, ◌^◌, ◌<◌, ◌≤◌, Bool, true, false, ◌&&◌, cond, eqb, List, [], ◌∷◌, ◌++◌, length, reverse, Option, Some, None, Result, Ok, Err, arith, eqb-true, length-append}
use Rattle.std.specs.Prelude.{◌==◌}
use Rattle.std.specs.Str.{bytes_eq}
use Rattle.std.proofs.lemmas.Bool.{and_parts}
use Rattle.std.proofs.lemmas.Slice.Eq.{bytes_eq-Decides}
use Rattle.spk_packets.specs.Grammar.{IsIdPart, IsNumber, Spells, bit, first_byte}
use Rattle.spk_packets.specs.Message.{Message as Packet, Connect, ConnAck, Publish, PubAck, Subscribe, SubAck, Unsubscribe, UnsubAck, PingReq, PingResp, Disconnect}
use Rattle.spk_packets.specs.Spelling.{body, id_part, number, shortest, spelling}
use Rattle.spk_payload.specs.Meaning.{PayloadData}
use Rattle.spk_topics.specs.Spark.{Named, named_at, topic_of}
use Rattle.spk_topics.specs.Spark.Named.{of_node, of_device, of_state}
use Rattle.spk_topics.specs.declared.spark.Verb.TheVariants as verb
use Rattle.spk_rings.specs.declared.item.Item.{Item}
use Rattle.spk_sequence.specs.Calls as call
use Rattle.spk_sequence.specs.HostRecord.{Input, MessageComes, DeathComes, TickComes, call_of}
use Rattle.spk_reading.specs.Data as said
use Rattle.spk_reading.specs.Data.{ContentData, HeardData, SubjectData}
use Rattle.spk_reading.specs.Meaning.{◌>>=◌, Says, birth_in, content_at, content_in, death_in, heard, or_fault, other_in, payload_in, seq_of, session_of}
use Rattle.spk_reading.specs.declared.fault.ReadFault.{ReadFault}
use Rattle.spk_reading.specs.declared.fault.ReadFault.TheVariants as fault
use Rattle.spk_host.specs.Inputs.{is_same, node_calls, with_heard}
use Rattle.spk_host_node.specs.Inputs as node
use Rattle.spk_plant_host.specs.Told.{AreToldBy, IsToldBy, asked}
use Rattle.spk_broker_rules.specs.Origins.{Says as Speaks}
use Rattle.spk_plant_broker.specs.Data.{Entry, Took, Accepted, Refused, Passed, Told}
use Rattle.spk_plant_broker.specs.Log.{IsLog, got_of, taken_of}
use Rattle.spk_plant_broker.specs.Step.{cuts_in}
use Rattle.spk_edge_rules.specs.Claims.{HasNames}
use Rattle.spk_edge_rules.specs.Config.{Setup}
use Rattle.spk_edge_rules.specs.Packets.{death_topic}
use Rattle.spk_edge_rules.specs.Run.{Message, session_number}
use Rattle.spk_heard.specs.Read.{AreRead}
use Rattle.spk_ingress.specs.Lanes.{share_of}
use Rattle.spk_tie.specs.Tie.{IsDeathOf, ReadsDeath, ack_of, death_text, host_setting}
use Rattle.spk_plant_relay.specs.Origins.{WasTaken, WasTakenOf}
use Rattle.spk_plant_relay.specs.Relayed.{AreEarlyDeaths}
use Rattle.spk_plant_relay.proofs.Heard.{last-told, newest}
use Rattle.spk_plant_relay.proofs.Parse.{head-is, same-topic, sevens-rest, shortest-sevens, tail-is}
use Rattle.spk_plant_relay.proofs.Tells.{first-of-spelled, low-qos, publish-first}
use Rattle.spk_plant_relay.proofs.Topics.{TopicFacts}
use Rattle.spk_plant_laws.specs.Deaths.{AreOpened, AreOwnDeaths, IsOwnDeath}
use Rattle.spk_plant_laws.proofs.Dying.{AllDie, IsDeathText, taken-text}
use Rattle.spk_plant_laws.proofs.Marks.{HasMark, IsMarked}
use Rattle.spk_plant_laws.proofs.Sent.{AllSent, IsSent}

-- ---- a death is read on the topic of an NDEATH

abbrev DeathNamed : Named → Result ContentData ReadFault → Type 0
DeathNamed n (Ok (said.Message m)) = Unit {0}
DeathNamed n (Ok (said.Death g m bd)) = n ≡ of_node g verb.Death m
DeathNamed n (Ok said.Nothing) = Unit {0}
DeathNamed n (Err e) = Unit {0}

named-bind : {A : Type 0} (n : Named) (r : Result A ReadFault) (f : A → Result ContentData ReadFault) → ((x : A) → DeathNamed n (f x)) → DeathNamed n (r >>= f)
named-bind n (Ok x) f each = each x
named-bind n (Err e) f each = tt

named-birth : (n : Named) (topic group name : List ℕ) (p : PayloadData) → DeathNamed n (birth_in topic group name p)
named-birth n topic group name p =
    named-bind n (or_fault fault.NoSeq (seq_of p)) _ (λ x. named-bind n (or_fault fault.NoStamp p.timestamp) _ (λ t. named-bind n (or_fault fault.NoBdSeq (session_of p.metrics)) _ (λ bd. tt)))

named-other : (n : Named) (topic group name : List ℕ) (subject : SubjectData) (p : PayloadData) → DeathNamed n (other_in topic group name subject p)
named-other n topic group name subject p = named-bind n (or_fault fault.NoSeq (seq_of p)) _ (λ x. tt)

named-death : (group name : List ℕ) (p : PayloadData) → DeathNamed (of_node group verb.Death name) (death_in group name p)
named-death group name p = named-bind (of_node group verb.Death name) (or_fault fault.NoBdSeq (session_of p.metrics)) _ (λ bd. refl)

named-content : (topic bytes : List ℕ) (n : Named) → DeathNamed n (content_in topic bytes n)
named-content topic bytes (of_node group verb.Birth name) = named-bind (of_node group verb.Birth name) (payload_in bytes) (birth_in topic group name) (named-birth (of_node group verb.Birth name) topic group name)
named-content topic bytes (of_node group verb.Death name) = named-bind (of_node group verb.Death name) (payload_in bytes) (death_in group name) (named-death group name)
named-content topic bytes (of_node group verb.Data name) = named-bind (of_node group verb.Data name) (payload_in bytes) _ (named-other (of_node group verb.Data name) topic group name _)
named-content topic bytes (of_node group verb.Command name) = tt
named-content topic bytes (of_device group verb.Birth name device) = named-bind (of_device group verb.Birth name device) (payload_in bytes) _ (named-other (of_device group verb.Birth name device) topic group name _)
named-content topic bytes (of_device group verb.Death name device) = named-bind (of_device group verb.Death name device) (payload_in bytes) _ (named-other (of_device group verb.Death name device) topic group name _)
named-content topic bytes (of_device group verb.Data name device) = named-bind (of_device group verb.Data name device) (payload_in bytes) _ (named-other (of_device group verb.Data name device) topic group name _)
named-content topic bytes (of_device group verb.Command name device) = tt
named-content topic bytes (of_state host) = tt

abbrev DeathOn : List ℕ → Result ContentData ReadFault → Type 0
DeathOn topic (Ok (said.Message m)) = Unit {0}
DeathOn topic (Ok (said.Death g m bd)) = topic ≡ topic_of (of_node g verb.Death m)
DeathOn topic (Ok said.Nothing) = Unit {0}
DeathOn topic (Err e) = Unit {0}

on-named : (topic : List ℕ) (n : Named) (r : Result ContentData ReadFault) → topic_of n ≡ topic → DeathNamed n r → DeathOn topic r
on-named topic n (Ok (said.Message m)) at named = tt
on-named topic n (Ok (said.Death g m bd)) at named = sym at ∙ ap topic_of named
on-named topic n (Ok said.Nothing) at named = tt
on-named topic n (Err e) at named = tt

on-topic : TopicFacts → (topic bytes : List ℕ) → DeathOn topic (content_at topic bytes)
unfolding content_at
on-topic t topic bytes = by (named_at topic) refl
  where
    by : (o : Option Named) → named_at topic ≡ o → DeathOn topic (or_fault fault.NotSparkplug o >>= content_in topic bytes)
    by None at = tt
    by (Some n) at = on-named topic n (content_in topic bytes n) ((t.reading topic n).0 at).1 (named-content topic bytes n)

abbrev HeardOn : List ℕ → Result HeardData ReadFault → Type 0
HeardOn topic (Ok (said.Published ack (said.Message m))) = Unit {0}
HeardOn topic (Ok (said.Published ack (said.Death g m bd))) = topic ≡ topic_of (of_node g verb.Death m)
HeardOn topic (Ok (said.Published ack said.Nothing)) = Unit {0}
HeardOn topic (Ok (said.Answered code)) = Unit {0}
HeardOn topic (Ok said.Granted) = Unit {0}
HeardOn topic (Ok said.Other) = Unit {0}
HeardOn topic (Err e) = Unit {0}

heard-on : (ack : Option ℕ) (topic : List ℕ) (r : Result ContentData ReadFault) → DeathOn topic r → HeardOn topic (r >>= λ content. Ok (said.Published ack content))
heard-on ack topic (Ok (said.Message m)) is = tt
heard-on ack topic (Ok (said.Death g m bd)) is = is
heard-on ack topic (Ok said.Nothing) is = tt
heard-on ack topic (Err e) is = tt

-- ---- what the spelling of a marked PUBLISH spells

bit-low : (b : Bool) → bit b ≤ 1
bit-low true = omega arith
bit-low false = omega arith

drop-front : (xs ys zs : List ℕ) → xs ++ ys ≡ xs ++ zs → ys ≡ zs
drop-front [] ys zs e = e
drop-front (x ∷ xs) ys zs e = drop-front xs ys zs (tail-is x x (xs ++ ys) (xs ++ zs) e)

-- the mark of the same QoS
mark-low : (qos : ℕ) (id : Option ℕ) → HasMark qos id → qos ≤ 1
mark-low qos None e = omega (arith, e)
mark-low qos (Some id) e = omega (arith, e)

same-qos : (dup : Bool) (qos : ℕ) (retain : Bool) (dup' : Bool) (qos' : ℕ) (retain' : Bool) → qos ≤ 1 → qos' ≤ 1 →
    48 + 8 * bit dup' + 2 * qos' + bit retain' ≡ (48 + 8 * bit dup + 2 * qos + bit retain) % 256 → qos ≡ qos'
same-qos dup qos retain dup' qos' retain' low low' e =
    let d = bit-low dup in let d' = bit-low dup' in let r = bit-low retain in let r' = bit-low retain' in omega (arith, low, low', e, d, d', r, r')

-- identifiers of one QoS take as many bytes
behind-id : (qos : ℕ) (id id' : Option ℕ) (part text text' : List ℕ) → HasMark qos id → IsIdPart part qos id' → id_part id ++ text ≡ part ++ text' → text ≡ text'
behind-id qos None None part text text' mark is e = e ∙ ap (λ p. p ++ text') is.1
behind-id qos None (Some n) part text text' mark is e = absurd (let one = is.0 in omega (arith, mark, one))
behind-id qos (Some m) None part text text' mark is e = absurd (let none = is.0 in omega (arith, mark, none))
behind-id qos (Some m) (Some n) part text text' mark is e =
    let two : IsNumber part n = is.1.0 in
    tail-is _ _ _ _ (tail-is _ _ _ _ (e ∙ ap (λ p. p ++ text') two.2))

same-payload : (dup : Bool) (qos : ℕ) (retain : Bool) (topic : List ℕ) (id : Option ℕ) (text : List ℕ) (dup' : Bool) (qos' : ℕ) (retain' : Bool) (topic' : List ℕ) (id' : Option ℕ) (text' : List ℕ) →
    length topic < 65536 → HasMark qos id → Spells (spelling (Publish dup qos retain topic id text)) (Publish dup' qos' retain' topic' id' text') → text ≡ text'
unfolding spelling body
same-payload dup qos retain topic id text dup' qos' retain' topic' id' text' short mark s =
    behind-id qos' id id' s.is_body.1 text text' (subst (λ q. HasMark q id) qoses mark) s.is_body.3
    (drop-front topic (id_part id ++ text) (s.is_body.1 ++ text') (rest ∙ ap (λ z. z ++ (s.is_body.1 ++ text')) (sym topics)))
  where
    own : List ℕ
    own = body (Publish dup qos retain topic id text)

    few : length own < 2097152
    few = let a = length-append (shortest (length own)) own in let b = s.small in omega (arith, a, b)

    bodies : own ≡ s.body
    bodies = sevens-rest (shortest (length own)) s.size own s.body (length own) (length s.body) (shortest-sevens (length own) few) s.is_size.1 (tail-is _ _ _ _ s.parts)

    counts : IsNumber s.is_body.2.0.0 (length topic')
    counts = s.is_body.2.0.1

    parts : length topic / 256 % 256 ∷ length topic % 256 ∷ (topic ++ (id_part id ++ text)) ≡ counts.0 ∷ counts.1 ∷ (topic' ++ (s.is_body.1 ++ text'))
    parts = bodies ∙ s.is_body.5 ∙ ap (λ name. name ++ (s.is_body.1 ++ text')) (s.is_body.2.0.2 ∙ ap (λ front. front ++ topic') counts.2)

    rest : topic ++ (id_part id ++ text) ≡ topic' ++ (s.is_body.1 ++ text')
    rest = tail-is _ _ _ _ (tail-is _ _ _ _ parts)

    topics : topic ≡ topic'
    topics = same-topic dup qos retain topic id text dup' qos' retain' topic' id' text' short s

    qoses : qos ≡ qos'
    qoses = same-qos dup qos retain dup' qos' retain' (mark-low qos id mark) (low-qos _ qos' id' s.is_body.3)
        (first-of-spelled (Publish dup qos retain topic id text) (Publish dup' qos' retain' topic' id' text') s)

-- ---- what was said of it

-- what is read of a PUBLISH that a ring got was said
read-said : (l : List Entry) (p : Packet) (dup : Bool) (qos : ℕ) (retain : Bool) (topic : List ℕ) (id : Option ℕ) (text : List ℕ) → ((t x : List ℕ) → WasTaken l t x → length t < 65536) →
    IsMarked p → Speaks (WasTaken l) p → Spells (spelling p) (Publish dup qos retain topic id text) → WasTaken l topic text
read-said l p dup qos retain topic id text short marked spoken s = by p marked spoken (first-of-spelled p (Publish dup qos retain topic id text) s) (publish-first dup qos retain (low-qos _ qos id s.is_body.3)) s
  where
    by : (p : Packet) → IsMarked p → Speaks (WasTaken l) p → 48 + 8 * bit dup + 2 * qos + bit retain ≡ first_byte p % 256 →
        (48 ≤ 48 + 8 * bit dup + 2 * qos + bit retain) × (48 + 8 * bit dup + 2 * qos + bit retain < 60) →
        Spells (spelling p) (Publish dup qos retain topic id text) → WasTaken l topic text
    by (Publish d q r t i x) marked spoken first low s =
        let few = short t x spoken in
        let topics : t ≡ topic = same-topic d q r t i x dup qos retain topic id text few s in
        let texts : x ≡ text = same-payload d q r t i x dup qos retain topic id text few marked s in
        subst (λ (z : List ℕ). WasTaken l z text) topics (subst (λ (z : List ℕ). WasTaken l t z) texts spoken)
    by (Connect client clean alive will) marked spoken first low s = absurd (let a = low.0 in omega (arith, first, a))
    by (ConnAck present code) marked spoken first low s = absurd (let a = low.0 in omega (arith, first, a))
    by (PubAck other) marked spoken first low s = absurd (let a = low.1 in omega (arith, first, a))
    by (Subscribe other filters) marked spoken first low s = absurd (let a = low.1 in omega (arith, first, a))
    by (SubAck other given) marked spoken first low s = absurd (let a = low.1 in omega (arith, first, a))
    by (Unsubscribe other filters) marked spoken first low s = absurd (let a = low.1 in omega (arith, first, a))
    by (UnsubAck other) marked spoken first low s = absurd (let a = low.1 in omega (arith, first, a))
    by PingReq marked spoken first low s = absurd (let a = low.1 in omega (arith, first, a))
    by PingResp marked spoken first low s = absurd (let a = low.1 in omega (arith, first, a))
    by Disconnect marked spoken first low s = absurd (let a = low.1 in omega (arith, first, a))

-- ---- a death

same-bd : (ack ack' : Option ℕ) (g n : List ℕ) (bd bd' : ℕ) → said.Published ack (said.Death g n bd) ≡ said.Published ack' (said.Death g n bd') → bd ≡ bd'
same-bd ack ack' g n bd bd' e = cc

pub same-death : (m n : ℕ) → call.Death m ≡ call.Death n → m ≡ n
same-death m n e = cc

-- what the law on the bytes of deaths says
abbrev pub Reading : Type 0
Reading = (s : Setup) (session time qos : ℕ) (dup retain : Bool) (id : Option ℕ) (bytes : List ℕ) → HasNames s → time < 2 ^ 63 →
    IsDeathOf s session time dup qos retain id bytes → ReadsDeath s session (ack_of qos id) bytes

-- whoever reads the bytes reads the death of a session that was said
pub death-is : TopicFacts → Reading → (s : Setup) → HasNames s → (n k : ℕ) (l : List Entry) (bytes : List ℕ) → IsSent l bytes → ((t x : List ℕ) → WasTaken l t x → length t < 65536) →
    ((x : List ℕ) → WasTaken l (death_topic s.config) x → WasTakenOf k l (death_topic s.config) x) → ((x : List ℕ) → WasTakenOf k l (death_topic s.config) x → IsDeathText s n x) →
    (ack : Option ℕ) (bd : ℕ) → Says bytes (said.Published ack (said.Death s.config.group s.config.node bd)) → IsOwnDeath s n k l bytes bd
death-is t reading s names n k l bytes sent short own texts ack bd says = by says.packet says.spelled says.is
  where
    found : (dup : Bool) (qos : ℕ) (retain : Bool) (topic : List ℕ) (id : Option ℕ) (text : List ℕ) → Spells bytes (Publish dup qos retain topic id text) →
        topic ≡ death_topic s.config → IsOwnDeath s n k l bytes bd
    found dup qos retain topic id text spelled on =
        let taken : WasTaken l (death_topic s.config) text =
        subst (λ (z : List ℕ). WasTaken l z text) on
        (read-said l sent.packet dup qos retain topic id text short sent.marked sent.said (subst (λ b. Spells b (Publish dup qos retain topic id text)) sent.spelled spelled)) in
        let mine = own text taken in
        let death = texts text mine in
        let bytes_are : IsDeathOf s death.0 death.1 dup qos retain id bytes =
        subst (λ (z : List ℕ). Spells bytes (Publish dup qos retain (death_topic s.config) id z)) death.4 (subst (λ (z : List ℕ). Spells bytes (Publish dup qos retain z id text)) on spelled) in
        let r = reading s death.0 death.1 qos dup retain id bytes names death.3 bytes_are in
        let same : bd ≡ r.bd = same-bd ack (ack_of qos id) s.config.group s.config.node bd r.bd (r.alone.only (said.Published ack (said.Death s.config.group s.config.node bd)) says) in
        record {
          session = death.0;
          below = death.2;
          named = sym (same ∙ same-death r.bd (session_number s death.0) (r.call [] 0 1 0));
          time = death.1;
          dup = dup;
          qos = qos;
          retain = retain;
          id = id;
          spelled = bytes_are;
          said = subst (λ (z : List ℕ). WasTakenOf k l (death_topic s.config) z) death.4 mine;
        }

    answered-not : (code : ℕ) → ◌≡◌ {A = Result HeardData ReadFault} (Ok (said.Answered code)) (Ok (said.Published ack (said.Death s.config.group s.config.node bd))) → ⊥
    answered-not code e = cc

    granted-not : ◌≡◌ {A = Result HeardData ReadFault} (Ok said.Granted) (Ok (said.Published ack (said.Death s.config.group s.config.node bd))) → ⊥
    granted-not e = cc

    other-not : ◌≡◌ {A = Result HeardData ReadFault} (Ok said.Other) (Ok (said.Published ack (said.Death s.config.group s.config.node bd))) → ⊥
    other-not e = cc

    by : (q : Packet) → Spells bytes q → heard q ≡ Ok (said.Published ack (said.Death s.config.group s.config.node bd)) → IsOwnDeath s n k l bytes bd
    by (Publish dup qos retain topic id text) spelled is =
        found dup qos retain topic id text spelled (subst (HeardOn topic) is (heard-on _ topic (content_at topic text) (on-topic t topic text)))
    by (ConnAck present code) spelled is = absurd (answered-not code is)
    by (SubAck id given) spelled is = absurd (granted-not is)
    by (Connect client clean alive will) spelled is = absurd (other-not is)
    by (PubAck id) spelled is = absurd (other-not is)
    by (Subscribe id filters) spelled is = absurd (other-not is)
    by (Unsubscribe id filters) spelled is = absurd (other-not is)
    by (UnsubAck id) spelled is = absurd (other-not is)
    by PingReq spelled is = absurd (other-not is)
    by PingResp spelled is = absurd (other-not is)
    by Disconnect spelled is = absurd (other-not is)
