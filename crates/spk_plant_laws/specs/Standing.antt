-- How long the host's ring of a plant stands, and what is taken of a node from its subscription on (own rules).
use Rattle.spk_sequence.specs.Budget.{budget}
use Rattle.std.specs.Prelude.{◌≡◌, ℕ, Bool, true, not, ◌&&◌, List, [], ◌∷◌, ◌++◌, length, Some, is_some, if◌then◌else◌}
use Rattle.spk_broker_rules.specs.Listening.{listens}
use Rattle.spk_broker_rules.specs.Step.{after}
use Rattle.spk_plan.specs.declared.plan.Plan.{Plan}
use Rattle.spk_plant_broker.specs.Data.{Entry, Took, Room}
use Rattle.spk_plant_broker.specs.Log.{room_of, taken_of}
use Rattle.spk_plant_broker.specs.Step.{conn_at, have_ended, is_dropped}
use Rattle.spk_plant_relay.specs.Shown.{count_numbered, is_numbered}
use Rattle.spk_plant_laws.specs.Places.{is_topic_at}

-- what stands after these entries of a log of the plan's plant
abbrev pub room_at : Plan → List Entry → Room
room_at p l = room_of (budget p.width) (length p.nodes.items) l

-- the host's ring stands then
abbrev pub rings_at : Plan → List Entry → Bool
rings_at p l = not (is_dropped (room_at p l).over (room_at p l).closed (length p.nodes.items))

-- the connection of the client at place k stands then
abbrev pub has_connection_at : Plan → List Entry → ℕ → Bool
has_connection_at p l k = is_some (conn_at (budget p.width) (room_at p l) k)

-- each edge node's end was taken by then
abbrev pub have_nodes_ended : Plan → List Entry → Bool
have_nodes_ended p l = have_ended (length p.nodes.items) (taken_of l)

-- The host has a connection of these entries' broker, with a grant that matches each of these topics.
pub record Subscribes (limit host : ℕ) (on : List ℕ → Bool) (r : Room) : Type 0 where
  pub conn : ℕ
  pub has : conn_at limit r host ≡ Some conn
  pub granted : (topic : List ℕ) → on topic ≡ true → listens (after limit r.events) conn topic ≡ true

-- after these entries the host is subscribed to all numbered messages of the node at place k
abbrev pub IsSubscribed : Plan → ℕ → List Entry → Type 0
IsSubscribed p k l = Subscribes (budget p.width) (length p.nodes.items) (is_topic_at p k) (room_at p l)

-- The positions of the node's numbered messages that were taken along the entries `later`, which came behind `before`, while the
-- node's connection stood. Newest first.
abbrev pub taken_since : (limit edges : ℕ) → (List ℕ → Bool) → ℕ → (later before : List Entry) → List ℕ
taken_since limit edges on k [] before = []
taken_since limit edges on k (Took m i ∷ l) before =
    if is_numbered on k m i && is_some (conn_at limit (room_of limit edges (l ++ before)) k)
    then count_numbered on k (l ++ before) ∷ taken_since limit edges on k l before
    else taken_since limit edges on k l before
taken_since limit edges on k (_ ∷ l) before = taken_since limit edges on k l before

-- those of the node at place k of the plan
abbrev pub since_at : Plan → ℕ → (later before : List Entry) → List ℕ
since_at p k later before = taken_since (budget p.width) (length p.nodes.items) (is_topic_at p k) k later before
