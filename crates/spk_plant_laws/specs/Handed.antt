-- What a report says that the host was handed of an edge node, as the inputs of the order of the node's messages (Sparkplug 3.0.0, chapter 5).
use Rattle.std.specs.Prelude.{◌≡◌, ℕ, List, length}
use Rattle.spk_sequence.specs.HostRecord.{Input}
use Rattle.spk_sequence.specs.NodeRecord.{Setting}
use Rattle.spk_host.specs.Inputs.{node_calls}
use Rattle.spk_plant_host.specs.Told.{asked, told_in}
use Rattle.spk_plant_given.specs.Handed.{handed_in, with_moments}
use Rattle.spk_plan.specs.declared.plan.Plan.{Plan}
use Rattle.spk_plant.specs.declared.report.NodeReport.{NodeReport}
use Rattle.spk_plant.specs.declared.report.Report.{Report}
use Rattle.spk_plant_relay.specs.Given.{IsHeard}
use Rattle.spk_tie.specs.Tie.{host_setting}
use Rattle.spk_plant_laws.specs.Places.{published_at, setup_at}

-- what the report of the node says that the host was handed, and behind each item a moment: newest first
abbrev pub handed_at : Report → NodeReport → List Input
handed_at r x = with_moments (length r.given.items) (handed_in x.given.items)

-- the order of what the node at place k published
abbrev pub setting_at : Plan → Report → ℕ → Setting
setting_at p r k = host_setting (setup_at p k) (published_at p r k) p.wait p.width

-- What the host was told of the node at place k was read at these inputs, one by one, and these are its positions.
pub record IsHeardAt (p : Plan) (r : Report) (k : ℕ) (positions : List ℕ) (inputs : List Input) : Type 0 where
  pub heard : IsHeard (setup_at p k) (published_at p r k) p.wait p.width positions
      (node_calls (asked (told_in r.given.items)) (setup_at p k).config.group (setup_at p k).config.node)
  pub are : heard.inputs ≡ inputs
