-- On the topic of a node's NDEATH only that node speaks.
use Rattle.std.proofs.Common.{◌≡◌, ◌⊎◌, inl, inr, sym, ap, refl, subst, ◌∙◌, ℕ, ◌+◌, ◌-◌, ◌*◌, ◌<◌, Bool, true, false, List, Option, [], ◌∷◌, ◌++◌, arith, true≢false, eq-eqb}
use Rattle.std.specs.List.{AllByRecursion}
use Rattle.std.proofs.lemmas.Bool.{and_from, cases_eq}
use Rattle.spk_topics.specs.Spark.{has_names, topic_of}
use Rattle.spk_topics.specs.Spark.Named.{of_node}
use Rattle.spk_topics.specs.declared.spark.Verb.TheVariants.{Birth, Death}
use Rattle.spk_ingress.specs.Lanes.{share_of}
use Rattle.spk_ingress.specs.declared.frame.Frame.{Frame}
use Rattle.spk_ingress.specs.declared.rule.Message.{Message}
use Rattle.spk_plant_broker.specs.Data.{Input, Says, Breaks, Cuts, Ends, Entry, Took, Accepted, Refused, Passed, Told}
use Rattle.spk_plant_broker.specs.Log.{IsLog, Means, taken_of}
use Rattle.spk_edge_rules.specs.Config.{Setup}
use Rattle.spk_edge_rules.specs.Inputs as edge
use Rattle.spk_edge_rules.specs.Packets.{death_topic}
use Rattle.spk_edge_rules.specs.Run as run
use Rattle.spk_reading.specs.Data.{HeardData}
use Rattle.spk_host_session.specs.Data as host
use Rattle.spk_plant_relay.specs.Origins.{AllSaidBefore, AreOwnOn, IsSaying, WasTaken, WasTakenOf}
use Rattle.spk_plant_relay.specs.Speech.{IsPlant}
use Rattle.spk_plant_relay.proofs.Dying.{DiesIn, own-birth}
use Rattle.spk_plant_relay.proofs.Hosts.{IsHarmlessIn, IsHostFrame}
use Rattle.spk_plant_relay.proofs.Nodes.{EdgeFacts, IsMessageFrame, Last, Tells, on_of, tells-last, wire_at}
use Rattle.spk_plant_relay.proofs.Origins.{OriginLaw, more, relayed-from}
use Rattle.spk_plant_relay.proofs.Plant.{Along, all-parts, all_of, along, along-before, message-means, share-own}
use Rattle.spk_plant_relay.proofs.Silence.{same-node}
use Rattle.spk_plant_relay.proofs.Tells.{IsQuiet, PacketFacts}
use Rattle.spk_plant_relay.proofs.Topics.{TopicFacts, numbered-is}

-- ---- any log

-- only the client at place k says anything on the topic
abbrev AllOnly : (topic : List ℕ) → ℕ → List Entry → Type 0
AllOnly topic k [] = Unit {0}
AllOnly topic k (Took m i ∷ l) = ((payload : List ℕ) → IsSaying i topic payload → m.sender ≡ k) × AllOnly topic k l
AllOnly topic k (Accepted j o ∷ l) = AllOnly topic k l
AllOnly topic k (Refused j o ∷ l) = AllOnly topic k l
AllOnly topic k (Passed o ∷ l) = AllOnly topic k l
AllOnly topic k (Told o ∷ l) = AllOnly topic k l

taken-own : (topic : List ℕ) (k : ℕ) (l : List Entry) → AllOnly topic k l → (t payload : List ℕ) → WasTaken l t payload → t ≡ topic → WasTakenOf k l t payload
taken-own topic k [] only t payload h is = absurd h
taken-own topic k (Took m i ∷ l) only t payload (inl h) is = inl (only.0 payload (subst (λ (x : List ℕ). IsSaying i x payload) is h), h)
taken-own topic k (Took m i ∷ l) only t payload (inr h) is = inr (taken-own topic k l only.1 t payload h is)
taken-own topic k (Accepted j o ∷ l) only t payload h is = taken-own topic k l only t payload h is
taken-own topic k (Refused j o ∷ l) only t payload h is = taken-own topic k l only t payload h is
taken-own topic k (Passed o ∷ l) only t payload h is = taken-own topic k l only t payload h is
taken-own topic k (Told o ∷ l) only t payload h is = taken-own topic k l only t payload h is

own-on : (topic : List ℕ) (k : ℕ) (l : List Entry) → AllOnly topic k l → AllSaidBefore l → AreOwnOn topic k l
own-on topic k [] only said = tt
own-on topic k (Took m i ∷ l) only said = own-on topic k l only.1 said
own-on topic k (Accepted j o ∷ l) only said = (
  record {
    packet = said.0.packet;
    spelled = said.0.spelled;
    own = more (WasTaken l) (λ t payload. t ≡ topic → WasTakenOf k l t payload) (λ t payload h is. taken-own topic k l only t payload h is) said.0.packet said.0.said;
  },
  own-on topic k l only said.1,
)
own-on topic k (Refused j o ∷ l) only said = own-on topic k l only said
own-on topic k (Passed o ∷ l) only said = own-on topic k l only said
own-on topic k (Told o ∷ l) only said = own-on topic k l only said

-- ---- frames

never-false : false ≡ true → ⊥
never-false e = true≢false (sym e)

-- whoever says something on the topic of a node's NDEATH has that node's numbered topics
has-topics : (on : List ℕ → Bool) (g n payload : List ℕ) (i : Input) → DiesIn on i → has_names (of_node g Death n) ≡ true → IsSaying i (topic_of (of_node g Death n)) payload → on (topic_of (of_node g Birth n)) ≡ true
has-topics on g n payload (Says q) dies named h = dies g n payload named h
has-topics on g n payload (Breaks f) dies named h = absurd h
has-topics on g n payload Cuts dies named h = absurd h
has-topics on g n payload Ends dies named h = absurd h

harmless-dies : (i : Input) → IsHarmlessIn i → DiesIn (λ topic. false) i
harmless-dies (Says q) h = h.dies
harmless-dies (Breaks g) h = tt
harmless-dies Cuts h = tt
harmless-dies Ends h = tt

-- a numbered message isn't on the topic of a node's NDEATH
message-never : PacketFacts → TopicFacts → (s : Setup) (g n payload : List ℕ) (all : List run.Message) (p : ℕ) (f : Frame) (i : Input) → has_names (of_node g Death n) ≡ true →
    IsMessageFrame s all p f → Means f i → IsSaying i (topic_of (of_node g Death n)) payload → ⊥
message-never pf t s g n payload all p f i named x m h = true≢false (sym x.on_topic ∙ ap (on_of s) said.0 ∙ numbered-is t s.config.group s.config.node (of_node g Death n) named)
  where
    said : IsSaying (Says (wire_at s all p x.message.draft)) (topic_of (of_node g Death n)) payload
    said = subst (λ j. IsSaying j (topic_of (of_node g Death n)) payload) (message-means pf s all p f i x m) h

module _ (pf : PacketFacts) (t : TopicFacts) (edges k : ℕ) (setup : ℕ → Setup) (all : ℕ → List run.Message) (low : k < edges) (named : has_names (of_node (setup k).config.group Death (setup k).config.node) ≡ true)
    (distinct : (i j : ℕ) → i < edges → j < edges → (setup i).config.group ≡ (setup j).config.group → (setup i).config.node ≡ (setup j).config.node → i ≡ j) where
  abbrev birth : List ℕ
  birth = topic_of (of_node (setup k).config.group Birth (setup k).config.node)

  own : on_of (setup k) birth ≡ true
  own = own-birth t (setup k).config.group (setup k).config.node (setup k).config.group (setup k).config.node named named refl

  same-place : (j : ℕ) → j < edges → on_of (setup j) birth ≡ true → j ≡ k
  same-place j below on =
      let one = same-node (setup j).config.group (setup j).config.node (setup k).config.group (setup k).config.node birth on own in
      distinct j k below low one.group one.node

  of-last : (j : ℕ) (xs : List Frame) (f : Frame) (q : ℕ) (i : Input) (payload : List ℕ) → j < edges → Last (setup j) (all j) xs f 0 q → Means f i → IsSaying i (death_topic (setup k).config) payload → j ≡ k
  of-last j xs f q i payload below l m h = by l.is
    where
      by : (IsQuiet (on_of (setup j)) f × (l.middle ≡ q)) ⊎ (IsMessageFrame (setup j) (all j) l.middle f × (l.middle + 1 ≡ q)) → j ≡ k
      by (inl x) = same-place j below (has-topics (on_of (setup j)) (setup k).config.group (setup k).config.node payload i (x.0.dies i m) named h)
      by (inr x) = absurd (message-never pf t (setup j) (setup k).config.group (setup k).config.node payload (all j) l.middle f i named x.0 m h)

  took-own : (xs : List Message) (m : Message) (i : Input) → Along edges setup all (xs ++ m ∷ []) → Means m.frame i → (payload : List ℕ) → IsSaying i (death_topic (setup k).config) payload → m.sender ≡ k
  took-own xs m i a means payload h = elim (cases_eq m.sender edges) [
    | inl same ↦ absurd (never-false (has-topics (λ topic. false) (setup k).config.group (setup k).config.node payload i
        (harmless-dies i ((all-parts (λ f. IsHostFrame f) (share_of edges xs) m.frame (subst (λ fs. AllByRecursion (λ f. IsHostFrame f) fs) (share-own edges xs m (eq-eqb m.sender edges same)) a.host)).1.means i means)) named h))
    | inr other ↦
        (let high = (all-parts (λ (x : Message). x.sender < edges + 1) xs m a.senders).1 in
        let below : m.sender < edges = omega (arith, high, other) in
        let tells = a.nodes m.sender below in
        of-last m.sender (share_of m.sender xs) m.frame tells.0 i payload below
        (tells-last (setup m.sender) (all m.sender) (share_of m.sender xs) m.frame 0 tells.0
        (subst (λ fs. Tells (setup m.sender) (all m.sender) fs 0 tells.0) (share-own m.sender xs m (eq-eqb m.sender m.sender refl)) tells.1)) means h)
  ]

  all-own : (limit : ℕ) (l : List Entry) → IsLog limit edges l → Along edges setup all (taken_of l) → AllOnly (death_topic (setup k).config) k l
  all-own limit [] log a = tt
  all-own limit (Took m i ∷ l) log a = ((λ payload h. took-own (taken_of l) m i a log.1.0 payload h), all-own limit l log.0 (along-before edges setup all (taken_of l) m a))
  all-own limit (Accepted j o ∷ l) log a = all-own limit l log.0 a
  all-own limit (Refused j o ∷ l) log a = all-own limit l log.0 a
  all-own limit (Passed o ∷ l) log a = all-own limit l log.0 a
  all-own limit (Told o ∷ l) log a = all-own limit l log.0 a

pub plant-deaths : OriginLaw → PacketFacts → TopicFacts → EdgeFacts → (width edges k : ℕ) (setup : ℕ → Setup) (inputs : ℕ → List edge.Input) (c : host.Config) (told : List (Option HeardData)) (log : List Entry) → k < edges →
    IsPlant width edges setup inputs c told log → AreOwnOn (death_topic (setup k).config) k log
plant-deaths law f t e width edges k setup inputs c told log low p =
    own-on (death_topic (setup k).config) k log
    (all-own f t edges k setup (all_of setup inputs) low (and_from _ _ (p.nodes k low).names.group (p.nodes k low).names.node) p.distinct (256 - 2 * width) log p.is_log
    (along f t e width edges setup inputs c told log p))
    (relayed-from law (256 - 2 * width) edges log p.is_log)
