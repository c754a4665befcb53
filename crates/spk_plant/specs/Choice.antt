-- Why a plant has no report: which fault is answered of several, and what makes a plant unsettled whose threads ran to their ends (own
-- rules). Of several faults it is the broker's, else that of the first edge node in the plan's order, else the host's.
use Rattle.std.specs.Prelude.{◌≡◌, ◌⊎◌, ℕ, ◌<◌, List, [], ◌∷◌, ◌++◌, length, map, Option, Some, None, Result, Ok, Err, IfOk, IfErr, Vec}
use Rattle.std.specs.declared.alloc.Global.{Global}
use Rattle.std.specs.List.{slice_get}
use Rattle.spk_ingress.specs.Passes.{AllTaken, frames_taken}
use Rattle.spk_ingress.specs.declared.channel.Ingress.{Ingress}
use Rattle.spk_ingress.specs.declared.channel.PutPass.{PutPass}
use Rattle.spk_rings.specs.Ring.{all_offered, popped}
use Rattle.spk_rings.specs.declared.inlet.Inlet.{Inlet}
use Rattle.spk_rings.specs.declared.item.Item.{Item}
use Rattle.spk_rings.specs.declared.token.Token.{Token}
use Rattle.spk_plan.specs.declared.fault.PlantFault.{PlantFault}
use Rattle.spk_plan.specs.declared.fault.PlantFault.TheVariants as fault
use Rattle.spk_plan.specs.declared.plan.Plan.{Plan}
use Rattle.spk_plan_rules.specs.Plan.{CanRun}
use Rattle.spk_plant_edge.specs.Done.{EdgeFailed}
use Rattle.spk_plant_edge.specs.Fault.{fault_of as edge_fault}
use Rattle.spk_plant_edge.specs.declared.edge.EdgeStart.{EdgeStart}
use Rattle.spk_plant_edge.specs.declared.edge.EdgeEnd.{EdgeEnd}
use Rattle.spk_plant_edge.specs.declared.edge.EdgeFailure.{EdgeFailure}
use Rattle.spk_plant_broker.specs.Done.{BrokerDone}
use Rattle.spk_plant_broker.specs.Fault.{fault_of as broker_fault}
use Rattle.spk_plant_broker.specs.declared.fault.BrokerFailed.{BrokerFailed}
use Rattle.spk_plant_broker.specs.declared.part.BrokerStart.{BrokerStart}
use Rattle.spk_plant_broker.specs.declared.part.BrokerEnd.{BrokerEnd}
use Rattle.spk_plant_host.specs.Ends.{HostBroke, HostDone}
use Rattle.spk_plant_host.specs.Fault.{fault_of as host_fault}
use Rattle.spk_plant_host.specs.declared.ends.HostStart.{HostStart}
use Rattle.spk_plant_host.specs.declared.ends.HostEnd.{HostEnd}
use Rattle.spk_plant_host.specs.declared.ends.HostFailed.{HostFailed}
use Rattle.spk_plant.specs.Start.{AreParts, HasAt}
use Rattle.spk_plant.specs.Done.{AllDone, AreDone}
use Rattle.spk_plant.specs.declared.choice.Ends.{Ends}
use Rattle.spk_plant.specs.declared.start.Parts.{Parts}

-- ---- of several faults

-- the fault of edge nodes, and of one more that stands last in the plan: the one that stands first
abbrev pub fault_of_edges : Result (Vec EdgeEnd Global) PlantFault → Result EdgeEnd EdgeFailure → Option PlantFault
fault_of_edges (Err e) last = Some e
fault_of_edges (Ok es) (Err f) = Some (edge_fault f.cause)
fault_of_edges (Ok es) (Ok e) = None

-- edge nodes that all ran to their ends, and one more that did, last
abbrev pub AreJoined : Result (Vec EdgeEnd Global) PlantFault → Result EdgeEnd EdgeFailure → List EdgeEnd → Type 0
AreJoined (Err e) last all = ⊥
AreJoined (Ok es) (Err f) all = ⊥
AreJoined (Ok es) (Ok e) all = all ≡ es.items ++ e ∷ []

-- the broker's fault, else the edge nodes', else the host's
abbrev pub fault_of_all : Result BrokerEnd BrokerFailed → Result (Vec EdgeEnd Global) PlantFault → Result HostEnd HostFailed → Option PlantFault
fault_of_all (Err e) edges host = Some (broker_fault e)
fault_of_all (Ok b) (Err e) host = Some e
fault_of_all (Ok b) (Ok es) (Err f) = Some (host_fault f.cause)
fault_of_all (Ok b) (Ok es) (Ok h) = None

-- all ran to their ends, which are these
pub record AreAll (b : Result BrokerEnd BrokerFailed) (es : Result (Vec EdgeEnd Global) PlantFault) (h : Result HostEnd HostFailed) (ends : Ends) : Type 0 where
  pub broker : b ≡ Ok ends.broker
  pub edges : es ≡ Ok ends.edges
  pub host : h ≡ Ok ends.host

-- ---- the threads

-- what a thread may fail with: a growth was refused, or the other end of the ingress is gone
abbrev pub IsThreads : PlantFault → Type 0
IsThreads e = (e ≡ fault.NoMemory) ⊎ (e ≡ fault.Closed)

-- an edge node failed with this fault, and all those before it ran to their ends
pub record IsFirst (n : Ingress) (ss : List EdgeStart) (e : PlantFault) : Type 0 where
  pub before : List EdgeStart
  pub start : EdgeStart
  pub after : List EdgeStart
  pub parts : ss ≡ before ++ start ∷ after
  pub ends : List EdgeEnd
  pub done : AreDone n before ends
  pub failure : EdgeFailure
  pub failed : EdgeFailed start failure
  pub is : edge_fault failure.cause ≡ e

-- why not all edge nodes ran to their ends: the fault of the first one that failed, unless memory was refused for the list of their ends
abbrev pub IsOfEdges : Ingress → List EdgeStart → PlantFault → Type 0
IsOfEdges n ss e = (e ≡ fault.NoMemory) ⊎ IsFirst n ss e

-- The fault is the one that is due of what the threads came to, each of them by its own promise. A thread says Closed only by what
-- an ingress refused it with.
pub record IsChosen (n : Ingress) (ss : List EdgeStart) (b : BrokerStart) (h : HostStart) (e : PlantFault) : Type 0 where
  pub broker : Result BrokerEnd BrokerFailed
  pub edges : Result (Vec EdgeEnd Global) PlantFault
  pub host : Result HostEnd HostFailed
  pub broker_done : IfOk broker (λ r. BrokerDone n b r)
  pub edges_done : IfOk edges (λ es. AreDone n ss es.items)
  pub edges_failed : IfErr edges (IsOfEdges n ss)
  pub host_done : IfOk host (λ r. HostDone n h r)
  pub host_failed : IfErr host (HostBroke n h)
  pub chosen : fault_of_all broker edges host ≡ Some e

-- ---- all threads ran to their ends

-- the token of a ring isn't there
abbrev pub IsMissing : List (Option Token) → Type 0
IsMissing ts = (k : ℕ) × (slice_get ts k ≡ Some None)

-- items are left in a ring
pub record IsLeft (i : Inlet) (t : Option Token) : Type 0 where
  pub token : Token
  pub there : t ≡ Some token
  pub items : List Item
  pub left : popped i ++ items ≡ all_offered token
  pub some : 0 < length items

abbrev pub passes_of : Ends → List PutPass
passes_of ends = map (λ (e : EdgeEnd). e.pass) ends.edges.items ++ ends.host.pass ∷ []

-- not all frames that were put were taken
abbrev pub HasFramesLeft : Ends → Type 0
HasFramesLeft ends = AllTaken (frames_taken ends.broker.pass) (passes_of ends) → ⊥

-- A ring's token isn't there, the host's ring isn't empty, or frames weren't taken.
abbrev pub IsUnsettled : Ends → Type 0
IsUnsettled ends = IsMissing ends.broker.tokens.items
    ⊎ (HasAt (Option Token) (IsLeft ends.host.inlet) ends.broker.tokens.items (length ends.edges.items) ⊎ HasFramesLeft ends)

-- ---- the plant

-- memory was refused, or the plan can't run
abbrev pub IsRefused : Plan → PlantFault → Type 0
IsRefused p e = (e ≡ fault.NoMemory) ⊎ ((e ≡ fault.BadPlan) × (CanRun p → ⊥))

-- the threads ran to their ends, and the plant is unsettled
pub record HasLeft (n : Ingress) (ss : List EdgeStart) (b : BrokerStart) (h : HostStart) (e : PlantFault) : Type 0 where
  pub is : e ≡ fault.Unsettled
  pub ends : Ends
  pub done : AllDone n ss b h ends
  pub left : IsUnsettled ends

-- the threads began as the plan says, and one of them failed, or the plant is unsettled
pub record HasRun (p : Plan) (e : PlantFault) : Type 0 where
  pub can : CanRun p
  pub begun : Parts
  pub parts : AreParts p begun.ingress begun.edges.items begun.broker begun.host
  pub why : (IsChosen begun.ingress begun.edges.items begun.broker begun.host e × IsThreads e)
      ⊎ HasLeft begun.ingress begun.edges.items begun.broker begun.host e

-- Why there is no report: memory was refused, the plan can't run, or its threads ran and came to this.
abbrev pub IsFault : Plan → PlantFault → Type 0
IsFault p e = IsRefused p e ⊎ HasRun p e
