-- Plans of a plant that can run, and what their nodes and their host are made of (own rules).
use Rattle.std.specs.Prelude.{◌≡◌, ℕ, ◌+◌, ◌<◌, ◌≤◌, ◌&&◌, Bool, true, false, not, List, [], ◌∷◌, length, nat_le, count_by, Some, None}
use Rattle.std.specs.List.{AllByRecursion, list_all, list_any, slice_get}
use Rattle.std.specs.String.{string_bytes}
use Rattle.std.specs.Str.{bytes_eq}
use Rattle.spk_device.specs.Lawful.{IsLawful}
use Rattle.spk_sequence.specs.NodeRecord.{RunsOn}
use Rattle.spk_edge_rules.specs.Config as edge
use Rattle.spk_edge.specs.Patch as edge_patch
use Rattle.spk_host_session.specs.Data as host_names
use Rattle.spk_plan.specs.declared.plan.Plan.{Plan}
use Rattle.spk_plan.specs.declared.plan.PlanNode.{PlanNode}
use Rattle.spk_plan.specs.declared.script.Step.{Step}
use Rattle.spk_plan.specs.declared.script.Step.TheVariants as step

-- ---- limits

-- the step opens a connection
abbrev pub is_open : Step → Bool
is_open step.Open = true
is_open _ = false

-- how many changes a step asks for
abbrev pub changes_at : Step → ℕ
changes_at (step.Set alias value) = 1
changes_at (step.Ramp alias kind changes) = changes
changes_at _ = 0

-- how many changes these steps ask for together
abbrev pub changes_in : List Step → ℕ
changes_in [] = 0
changes_in (x ∷ xs) = changes_at x + changes_in xs

-- a node's script opens at most 200 connections, and asks for at most 100,000 changes
abbrev pub fits : PlanNode → Bool
fits n = nat_le (count_by is_open n.script.items) 200 && nat_le (changes_in n.script.items) 100000

-- the node has this name
abbrev pub has_name : List ℕ → PlanNode → Bool
has_name name n = bytes_eq (string_bytes n.node) name

-- no two nodes have one name
abbrev pub are_distinct : List PlanNode → Bool
are_distinct [] = true
are_distinct (n ∷ ns) = not (list_any (has_name (string_bytes n.node)) ns) && are_distinct ns

-- Within its limits: 1 to 16 nodes of different names, rings of 4 to 65,536 places, an ingress of 1 to 65,536, and scripts that
-- fit.
pub record IsWithin (p : Plan) : Type 0 where
  pub some : 1 ≤ length p.nodes.items
  pub most : length p.nodes.items ≤ 16
  pub ring_from : 4 ≤ p.ring
  pub ring_to : p.ring ≤ 65536
  pub ingress_from : 1 ≤ p.ingress
  pub ingress_to : p.ingress ≤ 65536
  pub scripts : list_all fits p.nodes.items ≡ true
  pub distinct : are_distinct p.nodes.items ≡ true

-- ---- nodes and host

-- a node of these names: the plan's host is its primary host, without keep alive; its numbers run on
abbrev pub edge_config : (group host node : List ℕ) → edge.Config
edge_config group host node = record { group = group; node = node; primary = Some host; keep = 0; numbering = RunsOn }

-- it begins with nothing done before
abbrev pub edge_setup : (group host : List ℕ) → PlanNode → edge.Setup
edge_setup group host n = record {
  config = edge_config group host (string_bytes n.node);
  capacity = n.capacity;
  seq = 0;
  bd = 0;
  stamp = None;
  book = n.registry;
}

-- an edge node can be made of it
abbrev pub is_edge : (group host : List ℕ) → PlanNode → Bool
is_edge group host n = edge_patch.is_good (edge_config group host (string_bytes n.node)) n.capacity

-- what a node of the plan begins with
abbrev pub setup_in : Plan → PlanNode → edge.Setup
setup_in p n = edge_setup (string_bytes p.group) (string_bytes p.host) n

-- the host follows the plan's group, without keep alive
abbrev pub host_config : (group host : List ℕ) → (wait width : ℕ) → host_names.Config
host_config group host wait width = record { name = host; group = group; wait = wait; keep = 0; width = width }

-- the host of the plan
abbrev pub host_in : Plan → host_names.Config
host_in p = host_config (string_bytes p.group) (string_bytes p.host) p.wait p.width

-- of each node of these an edge node can be made
abbrev pub AreEdges : (group host : List ℕ) → List PlanNode → Type 0
AreEdges group host ns = (k : ℕ) (n : PlanNode) → slice_get ns k ≡ Some n → is_edge group host n ≡ true

-- Within its limits, and with names of which its nodes and its host can be made.
pub record CanRun (p : Plan) : Type 0 where
  pub within : IsWithin p
  pub edges : AreEdges (string_bytes p.group) (string_bytes p.host) p.nodes.items
  pub host : host_names.is_good (host_in p) ≡ true

-- ---- every plan

-- the node's registry is as every registry is
abbrev pub HasLawful : PlanNode → Type 0
HasLawful n = IsLawful n.registry

-- What the parts of every plan are, since there are no others: a window of 1 to 96 places, and lawful registries.
pub record IsMade (p : Plan) : Type 0 where
  pub some : 0 < p.width
  pub most : p.width ≤ 96
  pub lawful : AllByRecursion HasLawful p.nodes.items
