-- The events of a world's file, and what each of them does: the calls of a node, what is handed to a host, its timer, its sessions.
use Rattle.std.specs.Prelude.{ℕ, Bool, true, List, [], ◌∷◌, Option, Some, None}
use Rattle.spk_payload.specs.Meaning.{Flag, PayloadData}
use Rattle.spk_payload.specs.Spelling.{spelling}
use Rattle.spk_payload.specs.Typing.{Typed}
use Rattle.spk_topics.specs.Spark.{topic_of}
use Rattle.spk_topics.specs.Spark.Named.{of_node}
use Rattle.spk_topics.specs.declared.spark.Verb.TheVariants as verb
use Rattle.spk_state.specs.Text.{state_text}
use Rattle.spk_edge_rules.specs.Births.{rebirth_metric}
use Rattle.spk_edge_rules.specs.Config.{Config}
use Rattle.spk_edge_rules.specs.Inputs as edge
use Rattle.spk_world_rules.specs.Events as deed
use Rattle.spk_world_rules.specs.Events.{Deed, World, node_at}

-- Nodes and hosts by number, moments in milliseconds. A value is set at an alias; a device is up or down by its name; a position counts
-- the node's messages from 0, a session its Opens.
pub data Event : Type 0 where
  Open : (node now : ℕ) → Event
  Accepted : (node now : ℕ) → Event
  Drain : (node now : ℕ) → Event
  Stop : (node now : ℕ) → Event
  Cut : (node : ℕ) → Event
  Set : (node now alias : ℕ) (value : Option Typed) → Event
  Device : (node now : ℕ) (name : List ℕ) (up : Bool) → Event
  -- a command for a rebirth
  Rebirth : (node now : ℕ) → Event
  -- a STATE of the primary host
  State : (node now : ℕ) (online : Bool) (timestamp : ℕ) → Event
  Hand : (host node position now : ℕ) → Event
  Death : (host node session now : ℕ) → Event
  Tick : (host now : ℕ) → Event
  -- the host's session ends, and its next begins
  Session : (host now : ℕ) → Event

-- an NCMD with `Node Control/Rebirth`, true (Sparkplug 3.0.0, chapter 6)
abbrev pub rebirth_payload : ℕ → PayloadData
rebirth_payload now = record {
  timestamp = Some now;
  metrics = (record (rebirth_metric now) { value = Some (Flag true) }) ∷ [];
  seq = None;
}

-- the command that asks a node for a rebirth
abbrev pub rebirth_of : Config → ℕ → edge.Act
rebirth_of c now = edge.Command (topic_of (of_node c.group verb.Command c.node)) (spelling (rebirth_payload now))

-- a STATE of the primary host as it comes to a node
abbrev pub state_of : Bool → ℕ → edge.Act
state_of online timestamp = edge.State (state_text (record { online = online; timestamp = timestamp }))

-- an act comes to a node at a moment
abbrev pub at_node : ℕ → ℕ → edge.Act → Deed
at_node node now act = deed.AtNode node (record { now = now; ack = None; act = act })

-- a cut has the moment 0
abbrev pub deed_of : World → Event → Deed
deed_of w (Open node now) = at_node node now edge.Open
deed_of w (Accepted node now) = at_node node now edge.Accepted
deed_of w (Drain node now) = at_node node now edge.Drain
deed_of w (Stop node now) = at_node node now edge.Stop
deed_of w (Cut node) = at_node node 0 edge.Cut
deed_of w (Set node now alias value) = at_node node now (edge.Change alias value)
deed_of w (Device node now name up) = at_node node now (edge.Turn name up)
deed_of w (Rebirth node now) = at_node node now (rebirth_of (node_at w node).config now)
deed_of w (State node now online timestamp) = at_node node now (state_of online timestamp)
deed_of w (Hand host node position now) = deed.Hand host node position now
deed_of w (Death host node session now) = deed.Death host node session now
deed_of w (Tick host now) = deed.Tick host now
deed_of w (Session host now) = deed.Renew host now
