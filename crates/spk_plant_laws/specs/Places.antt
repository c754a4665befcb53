-- The edge nodes of a plant by their places, as its plan and its report have them (own rules).
use Rattle.std.specs.Prelude.{ℕ, Bool, List, [], length, None}
use Rattle.std.specs.List.{slice_get}
use Rattle.std.specs.Option.{option_map_or}
use Rattle.spk_sequence.specs.Budget.{budget}
use Rattle.spk_sequence.specs.NodeRecord.{RunsOn}
use Rattle.spk_device.specs.Book.{empty_book}
use Rattle.spk_edge_rules.specs.Config.{Setup}
use Rattle.spk_edge_rules.specs.Inputs.{Input}
use Rattle.spk_edge_rules.specs.Run.{Message, published, run_of}
use Rattle.spk_plan.specs.declared.plan.Plan.{Plan}
use Rattle.spk_plant_edge.specs.Told.{newest_first}
use Rattle.spk_plant_broker.specs.Data.{Entry}
use Rattle.spk_plan_rules.specs.Plan.{setup_in}
use Rattle.spk_plant.specs.declared.report.NodeReport.{NodeReport}
use Rattle.spk_plant.specs.declared.report.Report.{Report}
use Rattle.spk_plant_relay.specs.Due.{due}
use Rattle.spk_plant_relay.specs.Shown.{shown}
use Rattle.spk_plant_relay.specs.Topics.{is_numbered_topic}

-- where a plan has no node
abbrev pub no_setup : Setup
no_setup = record {
  config = record { group = []; node = []; primary = None; keep = 0; numbering = RunsOn };
  capacity = 0;
  seq = 0;
  bd = 0;
  stamp = None;
  book = empty_book;
}

-- what the node of a place is made of, by the plan
abbrev pub setup_at : Plan → ℕ → Setup
setup_at p k = option_map_or (setup_in p) (slice_get p.nodes.items k) no_setup

-- what it was told, by the report, newest first
abbrev pub inputs_at : Report → ℕ → List Input
inputs_at r k = option_map_or (λ (x : NodeReport). newest_first x.inputs.items) (slice_get r.nodes.items k) []

-- what the rules publish for that
abbrev pub published_at : Plan → Report → ℕ → List Message
published_at p r k = published (run_of (setup_at p k) (inputs_at r k))

-- the topics of its numbered messages
abbrev pub is_topic_at : Plan → ℕ → List ℕ → Bool
is_topic_at p k = is_numbered_topic (setup_at p k).config.group (setup_at p k).config.node

-- the positions of its messages that the host's ring got along a log of the broker, newest first
abbrev pub shown_at : Plan → List Entry → ℕ → List ℕ
shown_at p log k = shown (is_topic_at p k) k (length p.nodes.items) log

-- those that were due to the host: taken while the node's connection and the host's ring stood and the host was subscribed
abbrev pub due_at : Plan → List Entry → ℕ → List ℕ
due_at p log k = due (budget p.width) (length p.nodes.items) (is_topic_at p k) k (length p.nodes.items) log
