-- A world by the list of all that was done in it, newest first.
use Rattle.std.specs.Prelude.{◌≡◌, ◌⊎◌, ℕ, ◌<◌, List, [], ◌∷◌, length, None, map, slice_get, take, Some}
use Rattle.spk_device.specs.Book.{Book}
use Rattle.spk_edge.specs.Patch.{setup_of}
use Rattle.spk_edge.specs.View as edge
use Rattle.spk_edge.specs.declared.config.EdgeConfig.{EdgeConfig}
use Rattle.spk_edge_rules.specs.Config.{Setup}
use Rattle.spk_heard.specs.Read.{AreRead}
use Rattle.spk_host.specs.Data.{HostData}
use Rattle.spk_host.specs.Inputs.{Call, host_after, node_calls}
use Rattle.spk_host.specs.Nodes.{node_or}
use Rattle.spk_host_node.specs.Data.{fresh_node}
use Rattle.spk_host_node.specs.Inputs as node
use Rattle.spk_host_node.specs.Inputs.{events_of, since_end}
use Rattle.spk_host_rules.specs.Showing.{IsShown}
use Rattle.spk_host_session.specs.Data.{Config}
use Rattle.spk_host_session.specs.View as host
use Rattle.spk_host_session.specs.declared.config.HostConfig.{HostConfig}
use Rattle.spk_world_rules.specs.Events.{Deed, World, host_at, node_at}
use Rattle.spk_world_rules.specs.Files.{Event, deed_of}
use Rattle.spk_world_rules.specs.Queries.{inputs_of, published_of}
use Rattle.spk_world_rules.specs.Refusals.{refusal_of}
use Rattle.spk_world_run.specs.Data.{WorldData}
use Rattle.spk_world_run.specs.Fresh.{host_of}
use Rattle.spk_world_run.specs.Run.{IsRun}
use Rattle.spk_world.specs.declared.answer.Stopped.{Stopped}
use Rattle.spk_world.specs.declared.fault.WorldFault.{WorldFault}
use Rattle.spk_world.specs.declared.fault.WorldFault.TheVariants.{NoMemory}
use Rattle.spk_world.specs.Fault.{IsRefusal}

-- the world of these nodes and hosts: each node begins with 0
abbrev pub setup_in : EdgeConfig × Book → Setup
setup_in p = setup_of (edge.config_view p.0) p.0.capacity (record { seq = 0; bd = 0; stamp = None }) p.1

abbrev pub world_of : List (EdgeConfig × Book) → List HostConfig → World
world_of nodes hosts = record { nodes = map setup_in nodes; hosts = map (λ c. host_of (host.config_view c)) hosts }

-- a list of what was done, and these events done after it
abbrev pub with_events : World → List Event → List Deed → List Deed
with_events w [] done = done
with_events w (event ∷ events) done = with_events w events (deed_of w event ∷ done)

-- memory was refused, or it is the refusal that the list asks for
abbrev pub IsRefusedBy : World → List Deed → Event → WorldFault → Type 0
IsRefusedBy w done event e = (e ≡ NoMemory) ⊎ IsRefusal (refusal_of w done (deed_of w event)) e

-- The events before it were done, and it is refused after them.
pub record IsStoppedBy (w : World) (done : List Deed) (events : List Event) (after : WorldData) (s : Stopped) : Type 0 where
  pub event : Event
  pub there : slice_get events s.index ≡ Some event
  pub before : IsRun w (with_events w (take s.index events) done) after
  pub refused : IsRefusedBy w (with_events w (take s.index events) done) event s.fault

-- what of a host's calls concerns a node of the world
abbrev pub calls_at : World → ℕ → List Call → List node.Input
calls_at w n calls = node_calls calls (node_at w n).config.group (node_at w n).config.node

-- A host was told these calls, newest first. What it was told of a node in its present session is what came of that node, message by message of
-- its position; and of each node it shows the values at the last message consumed, stale and online as these calls make it.
pub record IsHeard (w : World) (done : List Deed) (h : ℕ) (host : HostData) : Type 0 where
  pub config : Config
  pub calls : List Call
  pub is : host ≡ host_after config calls
  pub waits : config.wait ≡ (host_at w h).wait
  pub wide : config.width ≡ (host_at w h).width
  pub read : (n : ℕ) → n < length w.nodes → AreRead (node_at w n) (published_of w done n) (inputs_of done h n) (since_end (calls_at w n calls))
  pub shows : (n : ℕ) → n < length w.nodes → IsShown (events_of config.wait config.width (calls_at w n calls))
      (node_or (fresh_node config.wait config.width) host.nodes (node_at w n).config.group (node_at w n).config.node).watch.view
