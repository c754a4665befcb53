-- The events of a file by the data, and steps one after another.
use Rattle.std.specs.Prelude.{◌≡◌, ℕ, List, [], ◌∷◌, map, None}
use Rattle.spk_world_rules.specs.Answers.{Answer}
use Rattle.spk_world_rules.specs.Events.{Deed, World, no_node}
use Rattle.spk_world_rules.specs.Files.{Event, deed_of}
use Rattle.spk_edge_rules.specs.Config.{Setup}
use Rattle.spk_world_run.specs.Data.{NodePart, WorldData}
use Rattle.spk_world_run.specs.Step.{IsStep}
use Rattle.spk_world_run.specs.Tests.{refusal_at}

-- a node of this configuration; of a file's events no more is needed
abbrev pub setup_at : NodePart → Setup
setup_at part = record no_node { config = part.node.config }

abbrev pub configs_at : WorldData → World
configs_at d = record { nodes = map setup_at d.nodes; hosts = [] }

-- what an event does
abbrev pub deed_at : WorldData → Event → Deed
deed_at d event = deed_of (configs_at d) event

-- the data after events, each of them done after those before it
pub record IsNext (d : WorldData) (event : Event) (after : WorldData) : Type 0 where
  pub answer : Answer
  pub passed : refusal_at d (deed_at d event) ≡ None
  pub step : IsStep d (deed_at d event) after answer

abbrev pub AreSteps : WorldData → List Event → WorldData → Type 0
AreSteps d [] after = after ≡ d
AreSteps d (event ∷ events) after = (next : WorldData) × IsNext d event next × AreSteps next events after
