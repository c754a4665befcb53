-- What the threads of a plant begin with.
use Rattle.std.specs.Prelude.{◌≡◌, ℕ, ◌+◌, List, [], length, map, Some}
use Rattle.std.specs.List.{slice_get}
use Rattle.std.specs.String.{string_bytes}
use Rattle.spk_edge.specs.Along.{node_of}
use Rattle.spk_host.specs.Inputs.{new_host}
use Rattle.spk_ingress.specs.Passes.{PutsInto, TakesFrom, frames_put, frames_taken}
use Rattle.spk_ingress.specs.declared.channel.Ingress.{Ingress}
use Rattle.spk_ingress.specs.declared.channel.PutPass.{PutPass}
use Rattle.spk_rings.specs.Ring.{AreEnds, free, offered, popped}
use Rattle.spk_rings.specs.declared.inlet.Inlet.{Inlet}
use Rattle.spk_rings.specs.declared.outlet.Outlet.{Outlet}
use Rattle.spk_plan.specs.declared.plan.Plan.{Plan}
use Rattle.spk_plan.specs.declared.plan.PlanNode.{PlanNode}
use Rattle.spk_plant_edge.specs.declared.edge.EdgeStart.{EdgeStart}
use Rattle.spk_plan_rules.specs.Plan.{edge_setup, host_in}
use Rattle.spk_plant_broker.specs.declared.part.BrokerStart.{BrokerStart}
use Rattle.spk_plant_host.specs.declared.ends.HostStart.{HostStart}

-- an element of a list at a place, of which something holds
pub record HasAt (A : Type 0) (P : A → Type 0) (xs : List A) (k : ℕ) : Type 0 where
  pub element : A
  pub there : slice_get xs k ≡ Some element
  pub holds : P element

-- the two ends of a new ring
pub record IsRing (o : Outlet) (i : Inlet) : Type 0 where
  pub ends : AreEnds o i
  pub offered : offered o ≡ []
  pub popped : popped i ≡ []

-- so many new rings with room for so many items each: their ends, place by place
pub record AreRings (capacity count : ℕ) (os : List Outlet) (is : List Inlet) : Type 0 where
  pub outlets : length os ≡ count
  pub inlets : length is ≡ count
  pub each : (k : ℕ) (i : Inlet) → slice_get is k ≡ Some i → HasAt Outlet (λ o. IsRing o i) os k
  pub fresh : (k : ℕ) (o : Outlet) → slice_get os k ≡ Some o → offered o ≡ []
  pub room : (k : ℕ) (o : Outlet) → slice_get os k ≡ Some o → free o ≡ capacity

-- a new pass of a sender
pub record IsPass (n : Ingress) (k : ℕ) (p : PutPass) : Type 0 where
  pub into : PutsInto n p
  pub sender : p.sender ≡ k
  pub fresh : frames_put p ≡ []

-- what an edge's thread begins with, from its node, its pass and its end of its ring
pub record IsStart (group host : List ℕ) (n : PlanNode) (s : EdgeStart) : Type 0 where
  pub node : s.node ≡ node_of (edge_setup group host n) []
  pub script : s.script ≡ n.script

-- the names of nodes, in their order
abbrev pub names_in : List PlanNode → List (List ℕ)
names_in ns = map (λ (n : PlanNode). string_bytes n.node) ns

-- those of these nodes, passes and ends, place by place
pub record AreStarts (group host : List ℕ) (ns : List PlanNode) (ps : List PutPass) (is : List Inlet) (ss : List EdgeStart) : Type 0 where
  pub sized : length ss ≡ length ns
  pub nodes : (k : ℕ) (s : EdgeStart) → slice_get ss k ≡ Some s → HasAt PlanNode (λ n. IsStart group host n s) ns k
  pub passes : (k : ℕ) (s : EdgeStart) → slice_get ss k ≡ Some s → slice_get ps k ≡ Some s.pass
  pub inlets : (k : ℕ) (s : EdgeStart) → slice_get ss k ≡ Some s → slice_get is k ≡ Some s.inlet
  pub places : (k : ℕ) (s : EdgeStart) → slice_get ss k ≡ Some s → s.place ≡ k

-- what all threads begin with
pub record AreParts (p : Plan) (n : Ingress) (ss : List EdgeStart) (b : BrokerStart) (h : HostStart) : Type 0 where
  pub senders : n.senders ≡ length p.nodes.items + 1
  pub sized : length ss ≡ length p.nodes.items
  pub edges : (k : ℕ) (s : EdgeStart) → slice_get ss k ≡ Some s
      → HasAt PlanNode (λ n. IsStart (string_bytes p.group) (string_bytes p.host) n s) p.nodes.items k
  pub passes : (k : ℕ) (s : EdgeStart) → slice_get ss k ≡ Some s → IsPass n k s.pass
  pub rings : (k : ℕ) (s : EdgeStart) → slice_get ss k ≡ Some s
      → HasAt Outlet (λ o. IsRing o s.inlet) b.outlets.items k
  pub places : (k : ℕ) (s : EdgeStart) → slice_get ss k ≡ Some s → s.place ≡ k
  pub names : map (λ name. string_bytes name) h.nodes.items ≡ names_in p.nodes.items
  pub width : b.width ≡ p.width
  pub taker : TakesFrom n b.pass
  pub none : frames_taken b.pass ≡ []
  pub outlets : length b.outlets.items ≡ n.senders
  pub fresh : (k : ℕ) (o : Outlet) → slice_get b.outlets.items k ≡ Some o → offered o ≡ []
  pub room : (k : ℕ) (o : Outlet) → slice_get b.outlets.items k ≡ Some o → free o ≡ p.ring
  pub host : h.host ≡ new_host (host_in p)
  pub pass : IsPass n (length p.nodes.items) h.pass
  pub ring : HasAt Outlet (λ o. IsRing o h.inlet) b.outlets.items (length p.nodes.items)
