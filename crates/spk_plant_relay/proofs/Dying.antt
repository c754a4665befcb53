-- The topic of a node's NDEATH is that node's alone.
use Rattle.std.proofs.Common.{◌≡◌, sym, ap, ◌∙◌, refl, ℕ, Bool, true, List, Some}
use Rattle.std.proofs.lemmas.Bool.{and_from}
use Rattle.std.proofs.lemmas.Slice.Eq.{bytes_eq-Decides}
use Rattle.spk_packets.specs.Message.{Message as Packet}
use Rattle.spk_topics.specs.Spark.{Named, has_names, named_at, topic_of}
use Rattle.spk_topics.specs.Spark.Named.{of_node, of_state}
use Rattle.spk_topics.specs.declared.spark.Verb.TheVariants.{Birth, Death, Command}
use Rattle.spk_broker_rules.specs.Origins.{SaidBy}
use Rattle.spk_plant_broker.specs.Data.{Input, Says, Breaks, Cuts, Ends}
use Rattle.spk_plant_relay.specs.Topics.{is_numbered_topic}
use Rattle.spk_plant_relay.proofs.Topics.{TopicFacts, numbered-is}

some-is : (m n : Named) → Some m ≡ Some n → m ≡ n
some-is m n e = cc

same-named : TopicFacts → (m n : Named) → has_names m ≡ true → has_names n ≡ true → topic_of m ≡ topic_of n → m ≡ n
same-named t m n x y e = some-is m n (sym ((t.reading (topic_of m) m).1 (x, refl)) ∙ ap named_at e ∙ (t.reading (topic_of n) n).1 (y, refl))

node-group : (g n h k : List ℕ) → of_node g Death n ≡ of_node h Death k → g ≡ h
node-group g n h k e = cc

node-name : (g n h k : List ℕ) → of_node g Death n ≡ of_node h Death k → n ≡ k
node-name g n h k e = cc

state-differs : (h g n : List ℕ) → of_state h ≡ of_node g Death n → ⊥
state-differs h g n e = cc

command-differs : (h k g n : List ℕ) → of_node h Command k ≡ of_node g Death n → ⊥
command-differs h k g n e = cc

-- whoever says something on the topic of a node's NDEATH has that node's numbered topics
abbrev pub DiesOwn : (List ℕ → Bool) → Packet → Type 0
DiesOwn on q = (group node payload : List ℕ) → has_names (of_node group Death node) ≡ true → SaidBy q (topic_of (of_node group Death node)) payload → on (topic_of (of_node group Birth node)) ≡ true

abbrev pub DiesIn : (List ℕ → Bool) → Input → Type 0
DiesIn on (Says q) = DiesOwn on q
DiesIn on (Breaks f) = Unit {0}
DiesIn on Cuts = Unit {0}
DiesIn on Ends = Unit {0}

-- a topic that is no node's NDEATH
abbrev pub IsNoDeath : List ℕ → Type 0
IsNoDeath topic = (group node : List ℕ) → has_names (of_node group Death node) ≡ true → topic ≡ topic_of (of_node group Death node) → ⊥

pub own-birth : TopicFacts → (g n group node : List ℕ) → has_names (of_node g Death n) ≡ true → has_names (of_node group Death node) ≡ true →
    topic_of (of_node g Death n) ≡ topic_of (of_node group Death node) → is_numbered_topic g n (topic_of (of_node group Birth node)) ≡ true
own-birth t g n group node x y e =
    let is = same-named t (of_node g Death n) (of_node group Death node) x y e in
    numbered-is t g n (of_node group Birth node) y
    ∙ and_from _ _ ((bytes_eq-Decides group g).1 (sym (node-group g n group node is))) ((bytes_eq-Decides node n).1 (sym (node-name g n group node is)))

pub state-apart : TopicFacts → (h : List ℕ) → has_names (of_state h) ≡ true → IsNoDeath (topic_of (of_state h))
state-apart t h x group node y e = state-differs h group node (same-named t (of_state h) (of_node group Death node) x y e)

pub command-apart : TopicFacts → (g n : List ℕ) → has_names (of_node g Command n) ≡ true → IsNoDeath (topic_of (of_node g Command n))
command-apart t g n x group node y e = command-differs g n group node (same-named t (of_node g Command n) (of_node group Death node) x y e)
