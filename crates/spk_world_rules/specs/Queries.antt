-- What is asked of the list of all that was done in a world, newest first. Nothing here steps any data.
use Rattle.std.specs.Prelude.{ℕ, ◌==◌, ◌&&◌, List, [], ◌∷◌, if◌then◌else◌}
use Rattle.spk_sequence.specs.HostRecord as order
use Rattle.spk_sequence.specs.HostRecord.{HostRecord, MessageComes, DeathComes, TickComes}
use Rattle.spk_sequence.specs.NodeRecord.{Setting}
use Rattle.spk_edge_rules.specs.Inputs as edge
use Rattle.spk_edge_rules.specs.Run as run
use Rattle.spk_edge_rules.specs.Run.{run_of}
use Rattle.spk_tie.specs.Tie.{host_setting}
use Rattle.spk_world_rules.specs.Events.{World, Deed, AtNode, Hand, Death, Tick, Renew, node_at, host_at}

-- ---- nodes

-- the inputs of a node, with what is done
abbrev pub with_call : Deed → ℕ → List edge.Input → List edge.Input
with_call (AtNode m input) n calls = if m == n then input ∷ calls else calls
with_call _ n calls = calls

-- the inputs of a node
abbrev pub calls_of : List Deed → ℕ → List edge.Input
calls_of [] n = []
calls_of (e ∷ done) n = with_call e n (calls_of done n)

-- what a node published, oldest first: the edge's run of its inputs
abbrev pub published_of : World → List Deed → ℕ → List run.Message
published_of w done n = run.published (run_of (node_at w n) (calls_of done n))

-- how many sessions it opened
abbrev pub sessions_of : World → List Deed → ℕ → ℕ
sessions_of w done n = run.opened (run_of (node_at w n) (calls_of done n))

-- ---- hosts

-- what came to a host of a node, with what is done; a new session of the host begins with nothing
abbrev pub with_input : Deed → (h n : ℕ) → List order.Input → List order.Input
with_input (AtNode m input) h n is = is
with_input (Hand k m p now) h n is = if (k == h) && (m == n) then MessageComes p now ∷ is else is
with_input (Death k m session now) h n is = if (k == h) && (m == n) then DeathComes session now ∷ is else is
with_input (Tick k now) h n is = if k == h then TickComes now ∷ is else is
with_input (Renew k now) h n is = if k == h then [] else is

-- what came to a host of a node in the host's present session
abbrev pub inputs_of : List Deed → (h n : ℕ) → List order.Input
inputs_of [] h n = []
inputs_of (e ∷ done) h n = with_input e h n (inputs_of done h n)

-- what a node published, as a host of this wait and width orders it
abbrev pub setting_of : World → List Deed → (h n : ℕ) → Setting
setting_of w done h n =
    host_setting (node_at w n) (published_of w done n) (host_at w h).wait (host_at w h).width

-- what was answered and consumed in the host's present session
abbrev pub record_of : World → List Deed → (h n : ℕ) → HostRecord
record_of w done h n = order.record_of (setting_of w done h n) (inputs_of done h n)

-- the positions consumed in it, in the order of time
abbrev pub consumed_of : World → List Deed → (h n : ℕ) → List ℕ
consumed_of w done h n = order.consumed_of (record_of w done h n)
