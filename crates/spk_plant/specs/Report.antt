-- What a report of a plant says: a log of its broker, and of each thread what it did along it (own rules).
use Rattle.spk_sequence.specs.Budget.{budget}
use Rattle.std.specs.Prelude.{◌≡◌, ℕ, ◌+◌, ◌^◌, ◌<◌, ◌≤◌, true, List, [], ◌∷◌, ◌++◌, length, map, Some}
use Rattle.std.specs.List.{AllByRecursion, slice_get}
use Rattle.spk_edge.specs.Along.{AllWhole, messages_from}
use Rattle.spk_edge.specs.View.{message_view}
use Rattle.spk_edge_rules.specs.Config.{Setup}
use Rattle.spk_edge_rules.specs.Run.{published, run_of}
use Rattle.spk_ingress.specs.Lanes.{share_of}
use Rattle.spk_ingress.specs.declared.frame.Frame.{Frame}
use Rattle.spk_ingress.specs.declared.frame.Frame.TheVariants as frame
use Rattle.spk_ingress.specs.declared.rule.Message.{Message}
use Rattle.spk_rings.specs.declared.item.Item.{Item}
use Rattle.spk_plan.specs.declared.plan.Plan.{Plan}
use Rattle.spk_plan.specs.declared.plan.PlanNode.{PlanNode}
use Rattle.spk_plan.specs.declared.script.Step.{Step}
use Rattle.spk_plan.specs.declared.script.Step.TheVariants.{Stop}
use Rattle.spk_plant_edge.specs.Frames.{frames_of}
use Rattle.spk_plant_edge.specs.Log as edge
use Rattle.spk_plant_edge.specs.Script.{Leads}
use Rattle.spk_plant_edge.specs.Told.{newest_first}
use Rattle.spk_plant_broker.specs.Data.{Entry}
use Rattle.spk_plant_broker.specs.Done.{refused_to}
use Rattle.spk_plant_broker.specs.Log.{AtRefusals, IsLog, accepted_of, got_of, refusals_of, room_of, taken_of}
use Rattle.spk_plant_broker.specs.Step.{has_ended}
use Rattle.spk_host_session.specs.Data.{Config}
use Rattle.spk_plant_host.specs.Calls.{packets_of}
use Rattle.spk_plant_host.specs.Told.{AreToldBy, calls_of, consumed_by, consumptions, heard_in, told_in}
use Rattle.spk_plant_host.specs.declared.ends.Given.{Given}
use Rattle.spk_plant.specs.Done.{IsFront}
use Rattle.spk_plan_rules.specs.Plan.{host_in, setup_in}
use Rattle.spk_plant_given.specs.Handed.{IsOfNode}
use Rattle.std.specs.String.{string_bytes}
use Rattle.spk_plant.specs.Start.{HasAt}
use Rattle.spk_plant.specs.declared.report.NodeReport.{NodeReport}
use Rattle.spk_plant.specs.declared.report.Report.{Report}

-- ---- the broker

-- The report's lists are read off a log of the broker, in which all is offered and told, and each sender has ended.
pub record IsLogged (limit edges : ℕ) (log : List Entry) (r : Report) : Type 0 where
  pub is_log : IsLog limit edges log
  pub offered : (room_of limit edges log).pending ≡ []
  pub told : (room_of limit edges log).untold ≡ []
  pub ended : (k : ℕ) → k < edges + 1 → has_ended k (taken_of log) ≡ true
  pub taken : r.taken.items ≡ taken_of log
  -- each frame is one of the edge nodes or of the host behind them, and a count of 64 bits counts them
  pub senders : AllByRecursion (λ (m : Message). m.sender < edges + 1) (taken_of log)
  pub counted : length (taken_of log) < 2 ^ 64
  pub refusals : r.refusals.items ≡ refusals_of log
  pub refused : r.refused ≡ refused_to edges (refusals_of log)
  pub accepted : r.accepted.items ≡ accepted_of edges log
  pub is_cut : r.is_cut ≡ (room_of limit edges log).closed edges

-- ---- an edge node

-- An edge node ran its script and stopped last: there is a log of what it did, off which its inputs are read. What it published is what
-- the rules publish for these inputs, the frames taken of it are those that these inputs give and its end, and the items that it
-- took out are a front of what its ring got.
pub record IsNode (s : Setup) (steps : List Step) (frames_taken : List Frame) (got : List Item) (r : NodeReport) : Type 0 where
  pub log : List edge.Move
  pub lawful : edge.IsLog s log
  pub script : Leads s (steps ++ Stop ∷ []) [] log
  pub inputs : newest_first r.inputs.items ≡ edge.inputs_of log
  pub messages : map message_view r.published.items ≡ messages_from s (published (run_of s (edge.inputs_of log))) 0
  pub whole : AllWhole s (published (run_of s (edge.inputs_of log)))
  pub frames : frames_taken ≡ frames_of s (edge.inputs_of log) ++ frame.End ∷ []
  pub heard : IsFront (edge.items_of log) got

-- the node of a place
abbrev pub IsNodeAt : Plan → List Entry → ℕ → NodeReport → Type 0
IsNodeAt p log k r =
    HasAt PlanNode (λ n. IsNode (setup_in p n) n.script.items (share_of k (taken_of log)) (got_of k log) r) p.nodes.items k

-- ---- the host

-- All that its ring got was told to the host, one by one; its packets are those of the calls that this makes, and then its end; and of
-- each item there is what the host consumed at it.
pub record IsHost (c : Config) (taken : List Frame) (got : List Item) (given : List Given) : Type 0 where
  pub told : AreToldBy got (map heard_in given)
  pub frames : taken ≡ map frame.Packet (packets_of c (calls_of c (told_in given))) ++ frame.End ∷ []
  pub consumed : consumed_by given ≡ consumptions c (told_in given)

-- ---- what the host was handed of a node

-- What the report has of the node of a place, `given` and `consumed`, is what its own lists say: of the positions, the sessions and the
-- moments of what the host was handed, and of the positions consumed.
abbrev pub IsHandedAt : Plan → Report → ℕ → NodeReport → Type 0
IsHandedAt p r k x =
    HasAt PlanNode (λ n. IsOfNode (string_bytes p.group) (string_bytes n.node) k
    r.taken.items r.accepted.items r.given.items x.given.items x.consumed.items) p.nodes.items k

-- ---- the plant

-- a ring refuses nothing before it got as many items as it has room for by the plan
abbrev pub HasRoom : Plan → List Entry → Type 0
HasRoom p log = AtRefusals (λ k got. p.ring ≤ length got) log

pub record RunsAs (p : Plan) (r : Report) : Type 0 where
  pub log : List Entry
  pub logged : IsLogged (budget p.width) (length p.nodes.items) log r
  pub room : HasRoom p log
  pub sized : length r.nodes.items ≡ length p.nodes.items
  pub nodes : (k : ℕ) (x : NodeReport) → slice_get r.nodes.items k ≡ Some x → IsNodeAt p log k x
  pub handed : (k : ℕ) (x : NodeReport) → slice_get r.nodes.items k ≡ Some x → IsHandedAt p r k x
  pub host : IsHost (host_in p) (share_of (length p.nodes.items) (taken_of log)) (got_of (length p.nodes.items) log) r.given.items
