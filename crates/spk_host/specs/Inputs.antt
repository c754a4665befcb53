-- What a host was told along any list of calls that were done, newest first; and what of it concerns one node.
use Rattle.std.specs.Prelude.{ℕ, ◌==◌, Bool, ◌&&◌, List, [], ◌∷◌, map, None, if◌then◌else◌}
use Rattle.std.specs.Str.{bytes_eq}
use Rattle.spk_reading.specs.Data as said
use Rattle.spk_reading.specs.Data.{ContentData, HeardData}
use Rattle.spk_host_session.specs.Data.{Config}
use Rattle.spk_host_session.specs.Step as session
use Rattle.spk_host_node.specs.Inputs as node
use Rattle.spk_host.specs.Data.{HostData}
use Rattle.spk_host.specs.Step.{after_packet, over_all, tick_entry}

-- A packet came that says this, and a moment passed, within a session; a session was begun, left with a farewell, was over with
-- its connection, or was renewed.
pub data Call : Type 0 where
  Heard : (heard : HeardData) (now : ℕ) → Call
  Ticked : (now : ℕ) → Call
  Connected : (now : ℕ) → Call
  Stopped : (now : ℕ) → Call
  Ended : Call
  Renewed : (now : ℕ) → Call

-- ---- the host

-- a host outside a session, that heard of no node
abbrev pub new_host : Config → HostData
new_host config = record { session = record { config = config; began = None }; nodes = [] }

abbrev pub tick_all : HostData → ℕ → HostData
tick_all h now = record h { nodes = map (tick_entry now) h.nodes }

abbrev pub in_session : HostData → session.Call → HostData
in_session h call = record h { session = session.after h.session call }

abbrev pub host_with : HostData → Call → HostData
host_with h (Heard heard now) = after_packet h heard now
host_with h (Ticked now) = tick_all h now
host_with h (Connected now) = in_session h (session.Connected now)
host_with h (Stopped now) = over_all (in_session h (session.Stopped now))
host_with h Ended = over_all (in_session h session.Ended)
host_with h (Renewed now) = over_all (in_session h (session.Renewed now))

-- what a host is after the calls
abbrev pub host_after : Config → List Call → HostData
host_after config [] = new_host config
host_after config (call ∷ before) = host_with (host_after config before) call

-- ---- one node

-- the first names are the second
abbrev pub is_same : (group name : List ℕ) → (other_group other_name : List ℕ) → Bool
is_same group name other_group other_name = bytes_eq group other_group && bytes_eq name other_name

-- What a node is told by a PUBLISH, after what it was told before: a message and an NDEATH of these names.
abbrev pub with_content : ContentData → ℕ → (group name : List ℕ) → List node.Input → List node.Input
with_content (said.Message m) now group name before =
    if is_same group name m.group m.node then node.Comes m now ∷ before else before
with_content (said.Death other_group other_name bd) now group name before =
    if is_same group name other_group other_name then node.Dies bd ∷ before else before
with_content said.Nothing now group name before = before

-- A CONNACK that turns the host away ends its session.
abbrev pub with_heard : HeardData → ℕ → (group name : List ℕ) → List node.Input → List node.Input
with_heard (said.Published ack content) now group name before = with_content content now group name before
with_heard (said.Answered code) now group name before = if code == 0 then before else node.Ends ∷ before
with_heard said.Granted now group name before = before
with_heard said.Other now group name before = before

abbrev pub with_node_call : Call → (group name : List ℕ) → List node.Input → List node.Input
with_node_call (Heard heard now) group name before = with_heard heard now group name before
with_node_call (Ticked now) group name before = node.Ticks now ∷ before
with_node_call (Connected now) group name before = before
with_node_call _ group name before = node.Ends ∷ before

-- what the node of these names is told by the calls
abbrev pub node_calls : List Call → (group name : List ℕ) → List node.Input
node_calls [] group name = []
node_calls (call ∷ before) group name = with_node_call call group name (node_calls before group name)
