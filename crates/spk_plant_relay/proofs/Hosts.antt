-- The frames of a host neither end its connection nor take grants back, and what it asks for fits all numbered topics of a node or none.
use Rattle.std.proofs.Common.{◌≡◌, sym, ap, refl, subst, ◌∙◌, ℕ, zero, suc, ◌+◌, ◌-◌, ◌%◌, ◌<◌, ◌≤◌, Bool, true, false, not, ◌&&◌, ◌||◌, cond, eqb, leb, ltb, List, [], ◌∷◌, ◌++◌, map, replicate, length, Option, Some, None, is_none, codes, arith, true≢false, decimal, ◌/◌, leb-true, le-ltb, ltb-false, length-append}
use Rattle.std.specs.List.{list_any, AllByRecursion}
use Rattle.std.specs.Str.{IsUtf8}
use Rattle.std.proofs.lemmas.Bool.{and_from, and_parts, or_from, or_parts}
use Rattle.std.proofs.lemmas.Fmt.{length-decimal-le}
use Rattle.std.proofs.lemmas.List.Folds.{list_any-append}
use Rattle.std.proofs.lemmas.Str.{IsUtf8-append}
use Rattle.spk_packets.specs.Fault.{first_of}
use Rattle.spk_packets.specs.declared.fault.PacketFault.{PacketFault}
use Rattle.spk_packets.specs.Grammar.{Spells, first_byte, has_zero, largest}
use Rattle.spk_packets.specs.Message.{Connect, ConnAck, Publish, PubAck, Subscribe, SubAck, Unsubscribe, UnsubAck, PingReq, PingResp, Disconnect}
use Rattle.spk_packets.specs.Message.{Message as Packet}
use Rattle.spk_packets.specs.Spelling.{HasWords, PacketFits, body, has_bad_body, has_bad_text, is_qos_two, shortest, spelling}
use Rattle.spk_topics.specs.Levels.{joined, levels}
use Rattle.spk_topics.specs.Spark.{is_name, topic_of}
use Rattle.spk_topics.specs.Spark.Named.{of_node, of_state}
use Rattle.spk_topics.specs.declared.spark.Verb.TheVariants.{Command}
use Rattle.spk_topics.specs.Text.{holds}
use Rattle.spk_broker_rules.specs.Listening.{is_disconnect, is_unsubscribe}
use Rattle.spk_plant_broker.specs.Data.{Input, Says, Breaks, Cuts, Ends}
use Rattle.spk_plant_broker.specs.Log.{Means}
use Rattle.spk_ingress.specs.declared.frame.Frame.{Frame}
use Rattle.spk_ingress.specs.declared.frame.Frame.TheVariants as frame
use Rattle.spk_reading.specs.Data as said
use Rattle.spk_reading.specs.Data.{ContentData, HeardData, NumberedData}
use Rattle.spk_edge_rules.specs.Writable.{is_writable}
use Rattle.spk_host_session.specs.Data.{Config, is_address, is_good, is_short_name}
use Rattle.spk_host_session.specs.Packets.{connect_of, filter_of, offline, online_of, rebirth_of, subscribe_of}
use Rattle.spk_host_session.specs.Step as session
use Rattle.spk_host.specs.Data.{Entry, HostData}
use Rattle.spk_host.specs.Inputs.{Call, Heard, Ticked, Connected, Stopped, Ended, Renewed, host_after}
use Rattle.spk_host.specs.Step.{acks, is_asked, packet_out, requests_at, requests_to, said_by, spelled}
use Rattle.spk_plant_host.specs.Calls.{done, is_done, out_at, packets_of}
use Rattle.spk_plant_host.specs.Told.{asked, calls_of}
use Rattle.spk_plant_relay.proofs.Dying.{DiesOwn, IsNoDeath, command-apart, state-apart}
use Rattle.spk_plant_relay.proofs.Offers.{no-yes}
use Rattle.spk_plant_relay.specs.Topics.{is_numbered_topic}
use Rattle.spk_plant_relay.proofs.Parse.{same-topic}
use Rattle.spk_plant_relay.proofs.Tells.{AsksForAll, KeepsOff, PacketFacts, ascii, first-of-spelled, one-reading, puback-quiet, publish-first, state-utf8, written}
use Rattle.spk_plant_relay.proofs.Welcome.{JoinsClean}
use Rattle.spk_plant_relay.proofs.Topics.{TopicFacts, barred, fits-alike, group-test, group-topics, name-slashless, numbered-is, slashless}

-- ---- what a host may say

pub record IsMild (q : Packet) : Type 0 where
  pub asks : AsksForAll q
  pub stays : is_disconnect q ≡ false
  pub keeps : is_unsubscribe q ≡ false

pub record IsHarmless (q : Packet) : Type 0 where
  pub asks : AsksForAll q
  pub stays : is_disconnect q ≡ false
  pub keeps : is_unsubscribe q ≡ false
  pub off : KeepsOff q
  pub clean : JoinsClean q
  pub dies : DiesOwn (λ topic. false) q

with-topics : (q : Packet) → IsMild q → KeepsOff q → JoinsClean q → DiesOwn (λ topic. false) q → IsHarmless q
with-topics q m off clean dies = record { asks = m.asks; stays = m.stays; keeps = m.keeps; off = off; clean = clean; dies = dies }

clean-first : (q : Packet) → (first_byte q ≡ 16 → ⊥) → JoinsClean q
clean-first (Connect client clean alive will) other = absurd (other refl)
clean-first (ConnAck present code) other = tt
clean-first (Publish dup qos retain topic id payload) other = tt
clean-first (PubAck id) other = tt
clean-first (Subscribe id filters) other = tt
clean-first (SubAck id given) other = tt
clean-first (Unsubscribe id filters) other = tt
clean-first (UnsubAck id) other = tt
clean-first PingReq other = tt
clean-first PingResp other = tt
clean-first Disconnect other = tt

harmless-first : (q : Packet) → (first_byte q ≡ 130 → ⊥) → (first_byte q ≡ 162 → ⊥) → (first_byte q ≡ 224 → ⊥) → IsMild q
harmless-first (Subscribe id filters) s u d = absurd (s refl)
harmless-first (Unsubscribe id filters) s u d = absurd (u refl)
harmless-first Disconnect s u d = absurd (d refl)
harmless-first (Connect client clean alive will) s u d = record { asks = λ group node one two x y. tt; stays = refl; keeps = refl }
harmless-first (ConnAck present code) s u d = record { asks = λ group node one two x y. tt; stays = refl; keeps = refl }
harmless-first (Publish dup qos retain topic id payload) s u d = record { asks = λ group node one two x y. tt; stays = refl; keeps = refl }
harmless-first (PubAck id) s u d = record { asks = λ group node one two x y. tt; stays = refl; keeps = refl }
harmless-first (SubAck id given) s u d = record { asks = λ group node one two x y. tt; stays = refl; keeps = refl }
harmless-first (UnsubAck id) s u d = record { asks = λ group node one two x y. tt; stays = refl; keeps = refl }
harmless-first PingReq s u d = record { asks = λ group node one two x y. tt; stays = refl; keeps = refl }
harmless-first PingResp s u d = record { asks = λ group node one two x y. tt; stays = refl; keeps = refl }

-- a packet whose first byte is below 128
harmless-low : (p q : Packet) → first_byte p < 128 → Spells (spelling p) q → IsMild q
harmless-low p q low says =
    let first = first-of-spelled p q says in
    harmless-first q (λ e. omega (arith, first, low, e)) (λ e. omega (arith, first, low, e)) (λ e. omega (arith, first, low, e))

-- ---- its SUBSCRIBE

short-size : (n : ℕ) → length (shortest n) ≤ 4
unfolding shortest
short-size n = by (ltb n 128) (ltb n 16384) (ltb n 2097152)
  where
    by : (a b c : Bool) → length (cond a (n ∷ []) (cond b ((n % 128 + 128) ∷ Rattle.std.specs.Prelude.◌/◌ n 128 ∷ [])
        (cond c ((n % 128 + 128) ∷ (Rattle.std.specs.Prelude.◌/◌ n 128 % 128 + 128) ∷ Rattle.std.specs.Prelude.◌/◌ n 16384 ∷ [])
        ((n % 128 + 128) ∷ (Rattle.std.specs.Prelude.◌/◌ n 128 % 128 + 128) ∷ (Rattle.std.specs.Prelude.◌/◌ n 16384 % 128 + 128) ∷ Rattle.std.specs.Prelude.◌/◌ n 2097152 ∷ [])))) ≤ 4
    by true b c = omega arith
    by false true c = omega arith
    by false false true = omega arith
    by false false false = omega arith

none-zero : (text : List ℕ) → is_name text ≡ true → holds 0 text ≡ false
none-zero text e = by (not (Rattle.spk_topics.specs.Levels.is_empty text)) (not (holds 47 text)) (Rattle.spk_topics.specs.Text.is_plain text) (holds 0 text) e
  where
    by : (a b c d : Bool) → (a && b && c && not d) ≡ true → d ≡ false
    by true true true false e = refl
    by true true true true e = absurd (no-yes e)
    by true true false d e = absurd (no-yes e)
    by true false c d e = absurd (no-yes e)
    by false b c d e = absurd (no-yes e)

group-size : (g : List ℕ) → length (codes "spBv1.0/" ++ (g ++ codes "/#")) ≡ length g + 10
group-size g = let e = length-append g (codes "/#") in omega (arith, e)

four-refusals : (a b c d : Bool) (w x y z : PacketFault) → a ≡ false → b ≡ false → c ≡ false → d ≡ false →
    is_none (first_of ((a, w) ∷ (b, x) ∷ (c, y) ∷ (d, z) ∷ [])) ≡ true
four-refusals false false false false w x y z p q r s = refl
four-refusals true b c d w x y z p q r s = absurd (true≢false p)
four-refusals false true c d w x y z p q r s = absurd (true≢false q)
four-refusals false false true d w x y z p q r s = absurd (true≢false r)
four-refusals false false false true w x y z p q r s = absurd (true≢false s)

request-size : (f : List ℕ) → length (body (Subscribe 1 ((f, 1) ∷ []))) ≡ length f + 5
unfolding body
request-size f = let a = length-append f (1 ∷ []) in let b = length-append (f ++ 1 ∷ []) [] in omega (arith, a, b)

pub can-subscribe : (c : Config) → is_short_name c.group ≡ true → is_writable (subscribe_of c) ≡ true
unfolding has_bad_text has_bad_body is_qos_two spelling
can-subscribe c short = four-refusals _ _ _ _ _ _ _ _ text refl refl size
  where
    parts : (is_name c.group ≡ true) × (leb (length c.group) 60000 ≡ true)
    parts = and_parts _ _ short

    low : length c.group ≤ 60000
    low = leb-true (length c.group) 60000 parts.1

    zeros : has_zero (filter_of c) ≡ false
    zeros = list_any-append (λ b. eqb b 0) c.group (codes "/#") ∙ or_from _ _ (none-zero c.group parts.0) refl

    text : (ltb 65535 (length (filter_of c)) || has_zero (filter_of c) || false) ≡ false
    text = or_from _ _ (or_from _ _ (le-ltb 65535 (length (filter_of c)) (let g = group-size c.group in let l = low in omega (arith, g, l))) zeros) refl

    size : ltb largest (length (first_byte (subscribe_of c) % 256 ∷ (shortest (length (body (subscribe_of c))) ++ body (subscribe_of c)))) ≡ false
    size = le-ltb largest _ (let a = length-append (shortest (length (body (subscribe_of c)))) (body (subscribe_of c)) in let s = short-size (length (body (subscribe_of c))) in
        let b = request-size (filter_of c) in let g = group-size c.group in let l = low in omega (arith, a, s, b, g, l))

pub subscribe-fits : (c : Config) → IsUtf8 c.group → PacketFits (subscribe_of c)
unfolding HasWords
subscribe-fits c group = (omega arith, (IsUtf8-append (codes "spBv1.0/") (c.group ++ codes "/#") (ascii (codes "spBv1.0/") refl) (IsUtf8-append c.group (codes "/#") group (ascii (codes "/#") refl)), tt))

group-levels : TopicFacts → (g : List ℕ) → is_name g ≡ true → levels (codes "spBv1.0/" ++ (g ++ codes "/#")) ≡ codes "spBv1.0" ∷ g ∷ (35 ∷ []) ∷ []
group-levels t g name = t.again (codes "spBv1.0") (g ∷ (35 ∷ []) ∷ []) (Rattle.spk_plant_relay.proofs.Topics.three-levels g (name-slashless g name))

pub group-asks : TopicFacts → (c : Config) → is_name c.group ≡ true → AsksForAll (subscribe_of c)
group-asks t c name group node one other x y = (
  fits-alike t group node (filter_of c) (codes "spBv1.0" ∷ c.group ∷ (35 ∷ []) ∷ []) (group-levels t c.group name)
      (record { plain = refl; verdict = group-test c.group group; same = group-topics c.group group node }) one other x y,
  tt,
)

-- ---- the packets of a host

-- none of any node's numbered topics
abbrev IsOffTopic : List ℕ → Type 0
IsOffTopic topic = (group node : List ℕ) → barred group node topic ≡ false

pub data IsHosts (c : Config) (p : Packet) : Type 0 where
  Acks : (id : ℕ) → p ≡ PubAck id → IsHosts c p
  Joins : p ≡ connect_of c 0 → IsHosts c p
  Asks : p ≡ subscribe_of c → IsHosts c p
  Publishes : (qos : ℕ) (retain : Bool) (topic : List ℕ) (id : Option ℕ) (payload : List ℕ) → qos ≤ 1 → IsOffTopic topic → IsNoDeath topic → p ≡ Publish false qos retain topic id payload → IsHosts c p

abbrev pub AreHosts : Config → List Packet → Type 0
AreHosts c [] = Unit {0}
AreHosts c (p ∷ ps) = IsHosts c p × AreHosts c ps

-- a PUBLISH off these topics is read as one off them
publish-off : (qos : ℕ) (retain : Bool) (topic : List ℕ) (id : Option ℕ) (payload : List ℕ) (q : Packet) → qos ≤ 1 → IsOffTopic topic → Spells (spelling (Publish false qos retain topic id payload)) q → KeepsOff q
publish-off qos retain topic id payload (Publish d r t other i l) low off s = λ group node.
    let short = ltb-false 65535 (length topic) (or_parts (is_numbered_topic group node topic) (ltb 65535 (length topic)) (off group node)).1 in
    subst (λ (x : List ℕ). barred group node x ≡ false) (same-topic false qos retain topic id payload d r t other i l (omega (arith, short)) s) (off group node)
publish-off qos retain topic id payload (Connect client clean alive will) low off s = absurd
    (let first = first-of-spelled (Publish false qos retain topic id payload) (Connect client clean alive will) s in let b = publish-first false qos retain low in let x = b.0 in let y = b.1 in omega (arith, first, x, y))
publish-off qos retain topic id payload (ConnAck present code) low off s = λ group node. tt
publish-off qos retain topic id payload (PubAck other) low off s = λ group node. tt
publish-off qos retain topic id payload (Subscribe other filters) low off s = λ group node. tt
publish-off qos retain topic id payload (SubAck other given) low off s = λ group node. tt
publish-off qos retain topic id payload (Unsubscribe other filters) low off s = λ group node. tt
publish-off qos retain topic id payload (UnsubAck other) low off s = λ group node. tt
publish-off qos retain topic id payload PingReq low off s = λ group node. tt
publish-off qos retain topic id payload PingResp low off s = λ group node. tt
publish-off qos retain topic id payload Disconnect low off s = λ group node. tt

-- and one on no node's NDEATH as such a one
publish-apart : (qos : ℕ) (retain : Bool) (topic : List ℕ) (id : Option ℕ) (payload : List ℕ) (q : Packet) → qos ≤ 1 → IsOffTopic topic → IsNoDeath topic → Spells (spelling (Publish false qos retain topic id payload)) q →
    DiesOwn (λ topic. false) q
publish-apart qos retain topic id payload (Publish d r t other i l) low off apart s group node text named h =
    let short = ltb-false 65535 (length topic) (or_parts (is_numbered_topic group node topic) (ltb 65535 (length topic)) (off group node)).1 in
    absurd (apart group node named (same-topic false qos retain topic id payload d r t other i l (omega (arith, short)) s ∙ h.0))
publish-apart qos retain topic id payload (Connect client clean alive will) low off apart s group node text named h = absurd
    (let first = first-of-spelled (Publish false qos retain topic id payload) (Connect client clean alive will) s in let b = publish-first false qos retain low in let x = b.0 in let y = b.1 in omega (arith, first, x, y))
publish-apart qos retain topic id payload (ConnAck present code) low off apart s group node text named h = absurd h
publish-apart qos retain topic id payload (PubAck other) low off apart s group node text named h = absurd h
publish-apart qos retain topic id payload (Subscribe other filters) low off apart s group node text named h = absurd h
publish-apart qos retain topic id payload (SubAck other given) low off apart s group node text named h = absurd h
publish-apart qos retain topic id payload (Unsubscribe other filters) low off apart s group node text named h = absurd h
publish-apart qos retain topic id payload (UnsubAck other) low off apart s group node text named h = absurd h
publish-apart qos retain topic id payload PingReq low off apart s group node text named h = absurd h
publish-apart qos retain topic id payload PingResp low off apart s group node text named h = absurd h
publish-apart qos retain topic id payload Disconnect low off apart s group node text named h = absurd h

-- ---- STATE and commands

state-size : (h : List ℕ) → length (topic_of (of_state h)) ≡ length h + 14
state-size h = omega arith

pub state-off : TopicFacts → (h : List ℕ) → is_short_name h ≡ true → IsOffTopic (topic_of (of_state h))
state-off t h short group node =
    let two = and_parts (is_name h) (leb (length h) 60000) short in
    let low = leb-true (length h) 60000 two.1 in
    let size = state-size h in
    or_from _ _ (numbered-is t group node (of_state h) two.0) (le-ltb 65535 (length (topic_of (of_state h))) (omega (arith, low, size)))

command-size : (g n : List ℕ) → length (topic_of (of_node g Command n)) ≡ length g + length n + 14
command-size g n = let a = length-append g (47 ∷ 78 ∷ 67 ∷ 77 ∷ 68 ∷ 47 ∷ n) in omega (arith, a)

address-names : (g n : List ℕ) → is_address g n ≡ true → (is_name g && is_name n) ≡ true
address-names g n e = by (is_name g) (is_name n) (leb (length g) 65521) (leb (length n) (65521 - length g)) e
  where
    by : (a b c d : Bool) → (a && b && c && d) ≡ true → (a && b) ≡ true
    by true true c d e = refl
    by true false c d e = absurd (no-yes e)
    by false b c d e = absurd (no-yes e)

command-off : TopicFacts → (g n : List ℕ) → is_address g n ≡ true → IsOffTopic (topic_of (of_node g Command n))
command-off t g n e group node =
    let parts = by (is_name g) (is_name n) (leb (length g) 65521) (leb (length n) (65521 - length g)) e in
    let low = leb-true (length g) 65521 parts.2 in
    let less = leb-true (length n) (65521 - length g) parts.3 in
    let size = command-size g n in
    or_from _ _ (numbered-is t group node (of_node g Command n) (and_from _ _ parts.0 parts.1)) (le-ltb 65535 (length (topic_of (of_node g Command n))) (omega (arith, low, less, size)))
  where
    by : (a b c d : Bool) → (a && b && c && d) ≡ true → (a ≡ true) × (b ≡ true) × (c ≡ true) × (d ≡ true)
    by true true true true e = (refl, refl, refl, refl)
    by true true true false e = absurd (no-yes e)
    by true true false d e = absurd (no-yes e)
    by true false c d e = absurd (no-yes e)
    by false b c d e = absurd (no-yes e)

-- ---- its CONNECT

offline-size : length (offline 0) ≤ 40
offline-size = let a = length-append (decimal 0) (codes "}") in let b = length-decimal-le 1 0 (omega arith) (omega arith) (omega arith) in omega (arith, a, b)

connect-size : (c : Config) → length (body (connect_of c 0)) ≡ 16 + length c.name + length (topic_of (of_state c.name)) + length (offline 0)
unfolding body
connect-size c =
    let topic = topic_of (of_state c.name) in
    let a = length-append topic (length (offline 0) / 256 % 256 ∷ length (offline 0) % 256 ∷ offline 0) in
    let b = length-append c.name (length topic / 256 % 256 ∷ length topic % 256 ∷ (topic ++ (length (offline 0) / 256 % 256 ∷ length (offline 0) % 256 ∷ offline 0))) in
    omega (arith, a, b)

pub can-connect : (c : Config) → is_short_name c.name ≡ true → is_writable (connect_of c 0) ≡ true
unfolding has_bad_text has_bad_body is_qos_two spelling
can-connect c short = four-refusals _ _ _ _ _ _ _ _ text message refl size
  where
    parts : (is_name c.name ≡ true) × (leb (length c.name) 60000 ≡ true)
    parts = and_parts _ _ short

    low : length c.name ≤ 60000
    low = leb-true (length c.name) 60000 parts.1

    zeros : has_zero c.name ≡ false
    zeros = none-zero c.name parts.0

    topic-low : length (topic_of (of_state c.name)) ≤ 60014
    topic-low = let s = state-size c.name in let l = low in omega (arith, s, l)

    text : ((ltb 65535 (length c.name) || has_zero c.name) || (ltb 65535 (length (topic_of (of_state c.name))) || has_zero (topic_of (of_state c.name)))) ≡ false
    text = or_from _ _ (or_from _ _ (le-ltb 65535 (length c.name) (let l = low in omega (arith, l))) zeros)
        (or_from _ _ (le-ltb 65535 (length (topic_of (of_state c.name))) (let l = topic-low in omega (arith, l))) zeros)

    message : (ltb 65535 (length (offline 0)) || false) ≡ false
    message = or_from _ _ (le-ltb 65535 (length (offline 0)) (let o = offline-size in omega (arith, o))) refl

    size : ltb largest (length (first_byte (connect_of c 0) % 256 ∷ (shortest (length (body (connect_of c 0))) ++ body (connect_of c 0)))) ≡ false
    size = le-ltb largest _ (let a = length-append (shortest (length (body (connect_of c 0)))) (body (connect_of c 0)) in let s = short-size (length (body (connect_of c 0))) in
        let b = connect-size c in let l = low in let t = topic-low in let o = offline-size in omega (arith, a, s, b, l, t, o))

connect-fits : (c : Config) → IsUtf8 c.name → c.keep < 65536 → PacketFits (connect_of c 0)
unfolding HasWords
connect-fits c name keep = (keep, (name, state-utf8 c.name name))

-- what a host has
pub record HostTexts (c : Config) : Type 0 where
  pub good : is_good c ≡ true
  pub name : IsUtf8 c.name
  pub group : IsUtf8 c.group
  pub keep : c.keep < 65536

pub hosts-harmless : PacketFacts → TopicFacts → (c : Config) → HostTexts c → (p q : Packet) → IsHosts c p → Spells (spelling p) q → IsHarmless q
hosts-harmless f t c h p q (Acks id is) says =
    with-topics q (harmless-low p q (subst (λ x. first_byte x < 128) (sym is) (omega arith)) says) (puback-quiet (λ topic. false) id q (subst (λ x. Spells (spelling x) q) is says)).2 (puback-quiet (λ topic. false) id q (subst (λ x. Spells (spelling x) q) is says)).3
    (puback-quiet (λ topic. false) id q (subst (λ x. Spells (spelling x) q) is says)).4
hosts-harmless f t c h p q (Joins is) says =
    let short = (and_parts (is_short_name c.name) (is_short_name c.group) h.good).0 in
    let own = written f (connect_of c 0) (connect-fits c h.name h.keep) (can-connect c short) in
    subst IsHarmless (sym (one-reading f (spelling (connect_of c 0)) (connect_of c 0) q own (subst (λ x. Spells (spelling x) q) is says)))
    (record { asks = λ group node one two x y. tt; stays = refl; keeps = refl; off = state-off t c.name short; clean = refl; dies = λ group node payload named h. absurd (state-apart t c.name (and_parts (is_name c.name) (leb (length c.name) 60000) short).0 group node named h.0) })
hosts-harmless f t c h p q (Publishes qos retain topic id payload low off apart is) says =
    with-topics q (harmless-low p q (subst (λ x. first_byte x < 128) (sym is) (let b = (publish-first false qos retain low).1 in omega (arith, b))) says)
    (publish-off qos retain topic id payload q low off (subst (λ x. Spells (spelling x) q) is says))
    (clean-first q (λ e. let first = first-of-spelled (Publish false qos retain topic id payload) q (subst (λ x. Spells (spelling x) q) is says) in
    let b = publish-first false qos retain low in let u = b.0 in let v = b.1 in omega (arith, first, e, u, v)))
    (publish-apart qos retain topic id payload q low off apart (subst (λ x. Spells (spelling x) q) is says))
hosts-harmless f t c h p q (Asks is) says =
    let short = (and_parts (is_short_name c.name) (is_short_name c.group) h.good).1 in
    let own = written f (subscribe_of c) (subscribe-fits c h.group) (can-subscribe c short) in
    let name = (and_parts (is_name c.group) (leb (length c.group) 60000) short).0 in
    subst IsHarmless (sym (one-reading f (spelling (subscribe_of c)) (subscribe_of c) q own (subst (λ x. Spells (spelling x) q) is says)))
    (record { asks = group-asks t c name; stays = refl; keeps = refl; off = λ group node. tt; clean = tt; dies = λ group node payload named h. absurd h })

hosts-append : (c : Config) (xs ys : List Packet) → AreHosts c xs → AreHosts c ys → AreHosts c (xs ++ ys)
hosts-append c [] ys x y = y
hosts-append c (p ∷ xs) ys x y = (x.0, hosts-append c xs ys x.1 y)

hosts-acks : (c : Config) (ack : Option ℕ) → AreHosts c (acks ack)
hosts-acks c None = tt
hosts-acks c (Some id) = (Acks id refl, tt)

hosts-many : TopicFacts → (c : Config) (group name : List ℕ) (now n : ℕ) → is_address group name ≡ true → AreHosts c (replicate n (rebirth_of group name now))
hosts-many t c group name now zero can = tt
hosts-many t c group name now (suc n) can = (Publishes 0 false _ None _ (omega arith) (command-off t group name can) (command-apart t group name (address-names group name can)) refl, hosts-many t c group name now n can)

hosts-requests : TopicFacts → (c : Config) (group name : List ℕ) (now n : ℕ) → AreHosts c (requests_to group name now n)
hosts-requests t c group name now n = by (is_address group name) refl
  where
    by : (b : Bool) → is_address group name ≡ b → AreHosts c (cond b (replicate n (rebirth_of group name now)) [])
    by true at = hosts-many t c group name now n at
    by false at = tt

hosts-ticks : TopicFacts → (c : Config) (now : ℕ) (es : List Entry) → AreHosts c (requests_at now es)
hosts-ticks t c now [] = tt
hosts-ticks t c now (x ∷ es) = hosts-append c _ (requests_at now es) (by (is_asked now x)) (hosts-ticks t c now es)
  where
    by : (b : Bool) → AreHosts c (cond b (requests_to x.group x.node now 1) [])
    by true = hosts-requests t c x.group x.node now 1
    by false = tt

-- bytes that are spellings of such packets
pub record AreBytes (c : Config) (bytes : List (List ℕ)) : Type 0 where
  pub packets : List Packet
  pub hosts : AreHosts c packets
  pub spell : bytes ≡ spelled packets

hosts-published : TopicFacts → (c : Config) (h : HostData) (ack : Option ℕ) (content : ContentData) (now : ℕ) → AreBytes c (Rattle.spk_host.specs.Step.published_out h ack content now).packets
hosts-published t c h ack (said.Message m) now = record { packets = acks ack ++ _; hosts = hosts-append c (acks ack) _ (hosts-acks c ack) (hosts-requests t c m.group m.node now _); spell = refl }
hosts-published t c h ack (said.Death group name bd) now = record { packets = acks ack; hosts = hosts-acks c ack; spell = refl }
hosts-published t c h ack said.Nothing now = record { packets = acks ack; hosts = hosts-acks c ack; spell = refl }

hosts-heard : TopicFacts → (c : Config) (h : HostData) (heard : HeardData) (now : ℕ) → is_short_name c.name ≡ true → h.session.config ≡ c → AreBytes c (packet_out h heard now).packets
hosts-heard t c h (said.Published ack content) now short same = hosts-published t c h ack content now
hosts-heard t c h (said.Answered code) now short same = record { packets = said_by (session.says h.session (session.Answered code)); hosts = by h.session.began; spell = refl }
  where
    answered : (b : Bool) → AreHosts c (cond b (subscribe_of h.session.config ∷ []) [])
    answered true = (Asks (ap subscribe_of same), tt)
    answered false = tt

    by : (o : Option ℕ) → AreHosts c (said_by (session.within o (λ began. cond (eqb code 0) (subscribe_of h.session.config ∷ []) [])))
    by None = tt
    by (Some began) = answered (eqb code 0)
hosts-heard t c h said.Granted now short same = record { packets = said_by (session.says h.session session.Granted); hosts = by h.session.began; spell = refl }
  where
    by : (o : Option ℕ) → AreHosts c (said_by (session.within o (λ began. online_of h.session.config began ∷ [])))
    by None = tt
    by (Some began) = (
      Publishes 1 true _ (Some 2) _ (omega arith) (subst (λ (x : Config). IsOffTopic (topic_of (of_state x.name))) (sym same) (state-off t c.name short))
          (subst (λ (x : Config). IsNoDeath (topic_of (of_state x.name))) (sym same) (state-apart t c.name (and_parts (is_name c.name) (leb (length c.name) 60000) short).0)) refl,
      tt,
    )
hosts-heard t c h said.Other now short same = record { packets = []; hosts = tt; spell = refl }

-- calls of a run: a session is begun, and the rest is heard
abbrev pub IsOfRun : Call → Type 0
IsOfRun (Heard heard now) = Unit {0}
IsOfRun (Ticked now) = Unit {0}
IsOfRun (Connected now) = now ≡ 0
IsOfRun (Stopped now) = ⊥
IsOfRun Ended = ⊥
IsOfRun (Renewed now) = ⊥

hosts-call : TopicFacts → (c : Config) (h : HostData) (call : Call) → is_short_name c.name ≡ true → h.session.config ≡ c → IsOfRun call → AreBytes c (out_at h call).packets
hosts-call t c h (Heard heard now) short same run = hosts-heard t c h heard now short same
hosts-call t c h (Ticked now) short same run = record { packets = requests_at now h.nodes; hosts = hosts-ticks t c now h.nodes; spell = refl }
hosts-call t c h (Connected now) short same run = record { packets = said_by (session.says h.session (session.Connected now)); hosts = by h.session.began; spell = refl }
  where
    by : (o : Option ℕ) → AreHosts c (said_by (session.outside o (connect_of h.session.config now ∷ [])))
    by None = (Joins (ap (λ (x : Config). connect_of x now) same ∙ ap (connect_of c) run), tt)
    by (Some began) = tt
hosts-call t c h (Stopped now) short same run = absurd run
hosts-call t c h Ended short same run = absurd run
hosts-call t c h (Renewed now) short same run = absurd run

config-with : (h : HostData) (call : Call) → (Rattle.spk_host.specs.Inputs.host_with h call).session.config ≡ h.session.config
config-with h (Heard (said.Published ack content) now) = refl
config-with h (Heard (said.Answered code) now) = refl
config-with h (Heard said.Granted now) = refl
config-with h (Heard said.Other now) = refl
config-with h (Ticked now) = refl
config-with h (Connected now) = refl
config-with h (Stopped now) = refl
config-with h Ended = refl
config-with h (Renewed now) = refl

config-after : (c : Config) (calls : List Call) → (host_after c calls).session.config ≡ c
config-after c [] = refl
config-after c (call ∷ calls) = config-with (host_after c calls) call ∙ config-after c calls

map-both : (xs ys : List Packet) → spelled (xs ++ ys) ≡ spelled xs ++ spelled ys
map-both [] ys = refl
map-both (x ∷ xs) ys = ap (λ l. spelling x ∷ l) (map-both xs ys)

bytes-append : (c : Config) (xs ys : List (List ℕ)) → AreBytes c xs → AreBytes c ys → AreBytes c (xs ++ ys)
bytes-append c xs ys x y = record {
  packets = x.packets ++ y.packets;
  hosts = hosts-append c x.packets y.packets x.hosts y.hosts;
  spell = ap (λ l. l ++ ys) x.spell ∙ ap (λ l. spelled x.packets ++ l) y.spell ∙ sym (map-both x.packets y.packets);
}

hosts-calls : TopicFacts → (c : Config) (calls : List Call) → is_short_name c.name ≡ true → AllByRecursion (λ call. IsOfRun call) calls → AreBytes c (packets_of c calls)
unfolding packets_of
hosts-calls t c [] short run = record { packets = []; hosts = tt; spell = refl }
hosts-calls t c (call ∷ calls) short run = bytes-append c (packets_of c calls) _ (hosts-calls t c calls short run.1) (hosts-call t c (host_after c calls) call short (config-after c calls) run.0)

run-asked : (told : List (Option HeardData)) → AllByRecursion (λ call. IsOfRun call) (asked told)
run-asked [] = (refl, tt)
run-asked (Some heard ∷ told) = (tt, (tt, run-asked told))
run-asked (None ∷ told) = (tt, run-asked told)

run-done : (c : Config) (calls : List Call) → AllByRecursion (λ call. IsOfRun call) calls → AllByRecursion (λ call. IsOfRun call) (done c calls)
unfolding done
run-done c [] run = tt
run-done c (call ∷ calls) run = by (is_done (host_after c (done c calls)) call) (run-done c calls run.1)
  where
    by : (b : Bool) → AllByRecursion (λ call. IsOfRun call) (done c calls) → AllByRecursion (λ call. IsOfRun call) (cond b (call ∷ done c calls) (done c calls))
    by true rest = (run.0, rest)
    by false rest = rest

-- ---- the frames of a host

abbrev pub IsHarmlessIn : Input → Type 0
IsHarmlessIn (Says q) = IsHarmless q
IsHarmlessIn (Breaks g) = ⊥
IsHarmlessIn Cuts = ⊥
IsHarmlessIn Ends = Unit {0}

pub record IsHostFrame (f : Frame) : Type 0 where
  pub means : (i : Input) → Means f i → IsHarmlessIn i

packet-frame-harmless : (bytes : List ℕ) → ((q : Packet) → Spells bytes q → IsHarmless q) → IsHostFrame (frame.Packet bytes)
packet-frame-harmless bytes says = record { means = by }
  where
    by : (i : Input) → Means (frame.Packet bytes) i → IsHarmlessIn i
    by (Says q) m = says q m
    by (Breaks g) m = absurd m
    by Cuts m = absurd m
    by Ends m = tt

pub end-harmless : IsHostFrame frame.End
end-harmless = record { means = by }
  where
    by : (i : Input) → Means frame.End i → IsHarmlessIn i
    by (Says q) m = absurd m
    by (Breaks g) m = absurd m
    by Cuts m = absurd m
    by Ends m = tt

frames-harmless : PacketFacts → TopicFacts → (c : Config) → HostTexts c → (ps : List Packet) → AreHosts c ps → AllByRecursion (λ f. IsHostFrame f) (map frame.Packet (spelled ps) ++ frame.End ∷ [])
frames-harmless f t c h [] own = (end-harmless, tt)
frames-harmless f t c h (p ∷ ps) own = (packet-frame-harmless (spelling p) (λ q says. hosts-harmless f t c h p q own.0 says), frames-harmless f t c h ps own.1)

pub host-frames : PacketFacts → TopicFacts → (c : Config) → HostTexts c → (told : List (Option HeardData)) →
    AllByRecursion (λ f. IsHostFrame f) (map frame.Packet (packets_of c (calls_of c told)) ++ frame.End ∷ [])
host-frames f t c h told =
    let b = hosts-calls t c (calls_of c told) (and_parts (is_short_name c.name) (is_short_name c.group) h.good).0 (run-done c (asked told) (run-asked told)) in
    subst (λ xs. AllByRecursion (λ x. IsHostFrame x) (map frame.Packet xs ++ frame.End ∷ [])) (sym b.spell) (frames-harmless f t c h b.packets b.hosts)
