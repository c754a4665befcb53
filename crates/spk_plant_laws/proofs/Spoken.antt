-- In a plant what is said is on short topics, and on the topic of a node's NDEATH it is the node that says it.
use Rattle.std.proofs.Common.{◌≡◌, ◌∙◌, ◌⊎◌, inl, inr, sym, ap, refl, subst, true≢false, ℕ, ◌+◌, ◌<◌, ◌≤◌, Bool, true, false, ltb, List, [], ◌∷◌, ◌++◌, length, Option, Some, None, is_none, is_some, arith, eq-eqb}
use Rattle.std.specs.List.{AllByRecursion}
use Rattle.std.proofs.lemmas.Bool.{cases_eq, ltb-false, or_parts}
use Rattle.spk_payload.specs.Spelling as payload
use Rattle.spk_packets.specs.Fault.{first_of}
use Rattle.spk_packets.specs.Message.{Message as Packet, Connect, ConnAck, Publish, PubAck, Subscribe, SubAck, Unsubscribe, UnsubAck, PingReq, PingResp, Disconnect}
use Rattle.spk_packets.specs.Spelling.{unwritable}
use Rattle.spk_topics.specs.Spark.{has_names, topic_of}
use Rattle.spk_topics.specs.Spark.Named.{of_node}
use Rattle.spk_topics.specs.declared.spark.Verb.TheVariants.{Birth, Death}
use Rattle.spk_broker_rules.specs.Listening.{plain_publish}
use Rattle.spk_broker_rules.specs.Origins.{SaidBy}
use Rattle.spk_broker_rules.specs.Topics.{IsOff, TopicIn}
use Rattle.spk_ingress.specs.Lanes.{share_of}
use Rattle.spk_ingress.specs.declared.frame.Frame.{Frame}
use Rattle.spk_ingress.specs.declared.rule.Message.{Message}
use Rattle.spk_plant_broker.specs.Data.{Input, Says, Breaks, Cuts, Ends, Entry, Took, Accepted, Refused, Passed, Told}
use Rattle.spk_plant_broker.specs.Log.{IsLog, Means, taken_of}
use Rattle.spk_edge_rules.specs.Config.{Setup}
use Rattle.spk_edge_rules.specs.Messages.{named_by, payload_of}
use Rattle.spk_edge_rules.specs.Packets.{death_topic}
use Rattle.spk_edge_rules.specs.Run as run
use Rattle.spk_plant_relay.specs.Origins.{IsSaying, WasTaken, WasTakenOf}
use Rattle.spk_plant_relay.proofs.Dying.{DiesIn, own-birth}
use Rattle.spk_plant_relay.proofs.Hosts.{IsHarmlessIn, IsHostFrame}
use Rattle.spk_plant_relay.proofs.Nodes.{IsMessageFrame, Last, on_of, tells-last, wire_at}
use Rattle.spk_plant_relay.proofs.Plant.{Along, all-parts, along-before, message-means, share-own}
use Rattle.spk_plant_relay.proofs.Silence.{same-node}
use Rattle.spk_plant_relay.proofs.Tells.{IsQuiet, KeepsIn, PacketFacts, short-topic}
use Rattle.spk_plant_relay.proofs.Topics.{TopicFacts, barred, numbered-is}

no-yes : false ≡ true → ⊥
no-yes e = true≢false (sym e)

-- ---- short topics

low-topic : (topic t : List ℕ) → topic ≡ t → ltb 65535 (length topic) ≡ false → length t < 65536
low-topic topic t same short =
    let low = ltb-false 65535 (length topic) short in
    let long : length topic ≡ length t = ap (λ (x : List ℕ). length x) same in omega (arith, low, long)

off-topic : (topic t : List ℕ) → topic ≡ t → barred [] [] topic ≡ false → length t < 65536
off-topic topic t same off = low-topic topic t same (or_parts _ (ltb 65535 (length topic)) off).1

off-short : (q : Packet) → TopicIn (IsOff (barred [] [])) q → (t text : List ℕ) → SaidBy q t text → length t < 65536
off-short (Connect client clean alive None) off t text h = absurd h
off-short (Connect client clean alive (Some w)) off t text h = off-topic w.topic t h.0 off
off-short (ConnAck present code) off t text h = absurd h
off-short (Publish dup qos retain topic id body) off t text h = off-topic topic t h.0 off
off-short (PubAck id) off t text h = absurd h
off-short (Subscribe id entries) off t text h = absurd h
off-short (SubAck id given) off t text h = absurd h
off-short (Unsubscribe id filters) off t text h = absurd h
off-short (UnsubAck id) off t text h = absurd h
off-short PingReq off t text h = absurd h
off-short PingResp off t text h = absurd h
off-short Disconnect off t text h = absurd h

-- whatever it says is on a short topic
abbrev pub IsShort : Input → Type 0
IsShort i = (t text : List ℕ) → IsSaying i t text → length t < 65536

keeps-short : (i : Input) → KeepsIn i → (t text : List ℕ) → IsSaying i t text → length t < 65536
keeps-short (Says q) keeps t text h = off-short q (keeps [] []) t text h
keeps-short (Breaks g) keeps t text h = absurd h
keeps-short Cuts keeps t text h = absurd h
keeps-short Ends keeps t text h = absurd h

harmless-short : (i : Input) → IsHarmlessIn i → (t text : List ℕ) → IsSaying i t text → length t < 65536
harmless-short (Says q) harm t text h = off-short q (harm.off [] []) t text h
harmless-short (Breaks g) harm t text h = absurd h
harmless-short Cuts harm t text h = absurd h
harmless-short Ends harm t text h = absurd h

none-from : {X : Type 0} (o : Option X) → is_some o ≡ false → is_none o ≡ true
none-from None e = refl
none-from (Some x) e = absurd (true≢false e)

message-short : PacketFacts → (s : Setup) (all : List run.Message) (p : ℕ) (f : Frame) (i : Input) → IsMessageFrame s all p f → Means f i → (t text : List ℕ) → IsSaying i t text → length t < 65536
message-short pf s all p f i x m t text h =
    low-topic topic t said.0 (short-topic false 0 false topic None body (none-from (first_of (unwritable (plain_publish topic body))) x.plain.writable))
  where
    topic : List ℕ
    topic = topic_of (named_by s.config x.message.draft)

    body : List ℕ
    body = payload.spelling (payload_of (run.number_at s all p) x.message.draft)

    said : SaidBy (wire_at s all p x.message.draft) t text
    said = subst (λ j. IsSaying j t text) (message-means pf s all p f i x m) h

last-short : PacketFacts → (s : Setup) (all : List run.Message) (xs : List Frame) (f : Frame) (p q : ℕ) (i : Input) → Last s all xs f p q → Means f i → (t text : List ℕ) → IsSaying i t text → length t < 65536
last-short pf s all xs f p q i l m t text h = by l.is
  where
    by : (IsQuiet (on_of s) f × (l.middle ≡ q)) ⊎ (IsMessageFrame s all l.middle f × (l.middle + 1 ≡ q)) → length t < 65536
    by (inl x) = keeps-short i (x.0.keeps i m) t text h
    by (inr x) = message-short pf s all l.middle f i x.0 m t text h

took-short : PacketFacts → (edges : ℕ) (setup : ℕ → Setup) (all : ℕ → List run.Message) (xs : List Message) (m : Message) (i : Input) → Along edges setup all (xs ++ m ∷ []) → Means m.frame i →
    (t text : List ℕ) → IsSaying i t text → length t < 65536
took-short pf edges setup all xs m i a means t text h = elim (cases_eq m.sender edges) [
  | inl same ↦ harmless-short i
      ((all-parts (λ f. IsHostFrame f) (share_of edges xs) m.frame (subst (λ fs. AllByRecursion (λ f. IsHostFrame f) fs) (share-own edges xs m (eq-eqb m.sender edges same)) a.host)).1.means i means) t text h
  | inr other ↦
      (let high = (all-parts (λ (x : Message). x.sender < edges + 1) xs m a.senders).1 in
      let below : m.sender < edges = omega (arith, high, other) in
      let tells = a.nodes m.sender below in
      last-short pf (setup m.sender) (all m.sender) (share_of m.sender xs) m.frame 0 tells.0 i
      (tells-last (setup m.sender) (all m.sender) (share_of m.sender xs) m.frame 0 tells.0
      (subst (λ fs. Rattle.spk_plant_relay.proofs.Nodes.Tells (setup m.sender) (all m.sender) fs 0 tells.0) (share-own m.sender xs m (eq-eqb m.sender m.sender refl)) tells.1)) means t text h)
]

pub taken-short : PacketFacts → (limit edges : ℕ) (setup : ℕ → Setup) (all : ℕ → List run.Message) (l : List Entry) → IsLog limit edges l → Along edges setup all (taken_of l) → (t text : List ℕ) → WasTaken l t text → length t < 65536
taken-short pf limit edges setup all [] log a t text h = absurd h
taken-short pf limit edges setup all (Took m i ∷ l) log a t text (inl h) = took-short pf edges setup all (taken_of l) m i a log.1.0 t text h
taken-short pf limit edges setup all (Took m i ∷ l) log a t text (inr h) = taken-short pf limit edges setup all l log.0 (along-before edges setup all (taken_of l) m a) t text h
taken-short pf limit edges setup all (Accepted j o ∷ l) log a t text h = taken-short pf limit edges setup all l log.0 a t text h
taken-short pf limit edges setup all (Refused j o ∷ l) log a t text h = taken-short pf limit edges setup all l log.0 a t text h
taken-short pf limit edges setup all (Passed o ∷ l) log a t text h = taken-short pf limit edges setup all l log.0 a t text h
taken-short pf limit edges setup all (Told o ∷ l) log a t text h = taken-short pf limit edges setup all l log.0 a t text h

-- ---- who speaks on the topic of an NDEATH

-- whoever says something on the topic of a node's NDEATH has that node's numbered topics
has-topics : (on : List ℕ → Bool) (g n text : List ℕ) (i : Input) → DiesIn on i → has_names (of_node g Death n) ≡ true → IsSaying i (topic_of (of_node g Death n)) text → on (topic_of (of_node g Birth n)) ≡ true
has-topics on g n text (Says q) dies named h = dies g n text named h
has-topics on g n text (Breaks f) dies named h = absurd h
has-topics on g n text Cuts dies named h = absurd h
has-topics on g n text Ends dies named h = absurd h

harmless-dies : (i : Input) → IsHarmlessIn i → DiesIn (λ topic. false) i
harmless-dies (Says q) h = h.dies
harmless-dies (Breaks g) h = tt
harmless-dies Cuts h = tt
harmless-dies Ends h = tt

-- a numbered message isn't on the topic of a node's NDEATH
message-never : PacketFacts → TopicFacts → (s : Setup) (g n text : List ℕ) (all : List run.Message) (p : ℕ) (f : Frame) (i : Input) → has_names (of_node g Death n) ≡ true →
    IsMessageFrame s all p f → Means f i → IsSaying i (topic_of (of_node g Death n)) text → ⊥
message-never pf t s g n text all p f i named x m h = true≢false (sym x.on_topic ∙ ap (on_of s) said.0 ∙ numbered-is t s.config.group s.config.node (of_node g Death n) named)
  where
    said : SaidBy (wire_at s all p x.message.draft) (topic_of (of_node g Death n)) text
    said = subst (λ j. IsSaying j (topic_of (of_node g Death n)) text) (message-means pf s all p f i x m) h

module _ (pf : PacketFacts) (t : TopicFacts) (edges k : ℕ) (setup : ℕ → Setup) (all : ℕ → List run.Message) (low : k < edges) (named : has_names (of_node (setup k).config.group Death (setup k).config.node) ≡ true)
    (distinct : (i j : ℕ) → i < edges → j < edges → (setup i).config.group ≡ (setup j).config.group → (setup i).config.node ≡ (setup j).config.node → i ≡ j) where
  abbrev birth : List ℕ
  birth = topic_of (of_node (setup k).config.group Birth (setup k).config.node)

  own : on_of (setup k) birth ≡ true
  own = own-birth t (setup k).config.group (setup k).config.node (setup k).config.group (setup k).config.node named named refl

  same-place : (j : ℕ) → j < edges → on_of (setup j) birth ≡ true → j ≡ k
  same-place j below on =
      let one = same-node (setup j).config.group (setup j).config.node (setup k).config.group (setup k).config.node birth on own in
      distinct j k below low one.group one.node

  of-last : (j : ℕ) (xs : List Frame) (f : Frame) (q : ℕ) (i : Input) (text : List ℕ) → j < edges → Last (setup j) (all j) xs f 0 q → Means f i → IsSaying i (death_topic (setup k).config) text → j ≡ k
  of-last j xs f q i text below l m h = by l.is
    where
      by : (IsQuiet (on_of (setup j)) f × (l.middle ≡ q)) ⊎ (IsMessageFrame (setup j) (all j) l.middle f × (l.middle + 1 ≡ q)) → j ≡ k
      by (inl x) = same-place j below (has-topics (on_of (setup j)) (setup k).config.group (setup k).config.node text i (x.0.dies i m) named h)
      by (inr x) = absurd (message-never pf t (setup j) (setup k).config.group (setup k).config.node text (all j) l.middle f i named x.0 m h)

  took-own : (xs : List Message) (m : Message) (i : Input) → Along edges setup all (xs ++ m ∷ []) → Means m.frame i → (text : List ℕ) → IsSaying i (death_topic (setup k).config) text → m.sender ≡ k
  took-own xs m i a means text h = elim (cases_eq m.sender edges) [
    | inl same ↦ absurd (no-yes (has-topics (λ topic. false) (setup k).config.group (setup k).config.node text i
        (harmless-dies i ((all-parts (λ f. IsHostFrame f) (share_of edges xs) m.frame (subst (λ fs. AllByRecursion (λ f. IsHostFrame f) fs) (share-own edges xs m (eq-eqb m.sender edges same)) a.host)).1.means i means)) named h))
    | inr other ↦
        (let high = (all-parts (λ (x : Message). x.sender < edges + 1) xs m a.senders).1 in
        let below : m.sender < edges = omega (arith, high, other) in
        let tells = a.nodes m.sender below in
        of-last m.sender (share_of m.sender xs) m.frame tells.0 i text below
        (tells-last (setup m.sender) (all m.sender) (share_of m.sender xs) m.frame 0 tells.0
        (subst (λ fs. Rattle.spk_plant_relay.proofs.Nodes.Tells (setup m.sender) (all m.sender) fs 0 tells.0) (share-own m.sender xs m (eq-eqb m.sender m.sender refl)) tells.1)) means h)
  ]

  pub taken-own : (limit : ℕ) (l : List Entry) → IsLog limit edges l → Along edges setup all (taken_of l) → (text : List ℕ) → WasTaken l (death_topic (setup k).config) text → WasTakenOf k l (death_topic (setup k).config) text
  taken-own limit [] log a text h = absurd h
  taken-own limit (Took m i ∷ l) log a text (inl h) = inl (took-own (taken_of l) m i a log.1.0 text h, h)
  taken-own limit (Took m i ∷ l) log a text (inr h) = inr (taken-own limit l log.0 (along-before edges setup all (taken_of l) m a) text h)
  taken-own limit (Accepted j o ∷ l) log a text h = taken-own limit l log.0 a text h
  taken-own limit (Refused j o ∷ l) log a text h = taken-own limit l log.0 a text h
  taken-own limit (Passed o ∷ l) log a text h = taken-own limit l log.0 a text h
  taken-own limit (Told o ∷ l) log a text h = taken-own limit l log.0 a text h
