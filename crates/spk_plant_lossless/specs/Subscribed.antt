-- When the host of a plant subscribed, and whether a node's connection stood when it published (own rules).
use Rattle.spk_sequence.specs.Budget.{budget}
use Rattle.std.specs.Prelude.{◌≡◌, ℕ, Bool, true, List, [], ◌∷◌, ◌++◌, length, Some, is_some}
use Rattle.std.specs.List.{flat_map, range_with_len}
use Rattle.spk_packets.specs.Message.{Subscribe}
use Rattle.spk_topics.specs.Fitting.{is_match}
use Rattle.spk_ingress.specs.declared.rule.Message.{Message}
use Rattle.spk_broker_rules.specs.Plan.{Packet}
use Rattle.spk_broker_rules.specs.Step.{after}
use Rattle.spk_broker_listening.specs.Granted.{Grants, IsAnswered}
use Rattle.spk_plant_broker.specs.Data.{Entry, Took, Says}
use Rattle.spk_plant_broker.specs.Log.{room_of, taken_of}
use Rattle.spk_plant_broker.specs.Step.{conn_at}
use Rattle.spk_heard.specs.Read.{AreMessagesAt}
use Rattle.spk_plant_host.specs.Told.{consumed_for}
use Rattle.spk_plan.specs.declared.plan.Plan.{Plan}
use Rattle.spk_plant.specs.declared.report.Report.{Report}
use Rattle.spk_plant_relay.specs.Shown.{is_numbered}
use Rattle.spk_plant_laws.specs.Places.{is_topic_at, published_at, setup_at}
use Rattle.spk_plant_laws.specs.Standing.{room_at}

-- Behind these entries the host's SUBSCRIBE is taken on its connection; and its SUBACK grants a filter that matches a topic of a numbered
-- message of the node at place k.
pub record TakesSubscribe (p : Plan) (k : ℕ) (m : Message) (id : ℕ) (entries : List (List ℕ × ℕ)) (before : List Entry) : Type 0 where
  pub sender : m.sender ≡ length p.nodes.items
  pub conn : ℕ
  pub has : conn_at (budget p.width) (room_at p before) (length p.nodes.items) ≡ Some conn
  pub codes : List ℕ
  pub answered : IsAnswered (after (budget p.width) (room_at p before).events)
      (Packet conn (Subscribe id entries) (length (taken_of (Took m (Says (Subscribe id entries)) ∷ before)))) conn id codes
  pub filter : List ℕ
  pub granted : Grants filter entries codes
  pub topic : List ℕ
  pub on : is_topic_at p k topic ≡ true
  pub matches : is_match filter topic ≡ true

-- Wherever a numbered message of the node is taken along `later`, which came behind `before`, the node's connection stands.
abbrev pub HasConnection : (limit edges : ℕ) → (List ℕ → Bool) → ℕ → (later before : List Entry) → Type 0
HasConnection limit edges on k [] before = Unit {0}
HasConnection limit edges on k (Took m i ∷ l) before =
    (is_numbered on k m i ≡ true → is_some (conn_at limit (room_of limit edges (l ++ before)) k) ≡ true) × HasConnection limit edges on k l before
HasConnection limit edges on k (_ ∷ l) before = HasConnection limit edges on k l before

-- that of the node at place k of the plan
abbrev pub HasConnectionAt : Plan → ℕ → (later before : List Entry) → Type 0
HasConnectionAt p k later before = HasConnection (budget p.width) (length p.nodes.items) (is_topic_at p k) k later before

-- the broker closed the client at place k by then
abbrev pub is_closed_at : Plan → List Entry → ℕ → Bool
is_closed_at p l k = (room_at p l).closed k

-- What the host consumed of the node is what the node published: the message of each position, in order, once.
abbrev pub ConsumesAll : Plan → Report → ℕ → Type 0
ConsumesAll p r k =
    AreMessagesAt (setup_at p k) (published_at p r k) (range_with_len 0 (length (published_at p r k)))
    (flat_map (consumed_for (setup_at p k).config.group (setup_at p k).config.node) r.given.items)
