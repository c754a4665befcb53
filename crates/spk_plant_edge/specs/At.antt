-- Where an edge's thread stands while it runs.
use Rattle.std.specs.Prelude.{◌≡◌, ◌+◌, ℕ, Bool, true, false, List, [], ◌∷◌, ◌++◌, map, Option, Some, None}
use Rattle.spk_packets.specs.Grammar.{Spells}
use Rattle.spk_packets.specs.View.{view}
use Rattle.spk_packets.specs.declared.packet.Packet.{Packet}
use Rattle.spk_edge.specs.Along.{AllWhole, messages_from, node_of}
use Rattle.spk_edge.specs.View.{message_view}
use Rattle.spk_edge_rules.specs.Arriving.{input_of}
use Rattle.spk_edge_rules.specs.Config.{Config, Setup}
use Rattle.spk_edge_rules.specs.Inputs.{Input, Pass}
use Rattle.spk_edge_rules.specs.Run.{published, run_of}
use Rattle.spk_ingress.specs.Frame.{IsOnePacket}
use Rattle.spk_ingress.specs.Passes.{PutsInto, frames_put}
use Rattle.spk_ingress.specs.declared.channel.Ingress.{Ingress}
use Rattle.spk_ingress.specs.declared.channel.PutPass.{PutPass}
use Rattle.spk_ingress.specs.declared.frame.Frame.{Frame}
use Rattle.spk_rings.specs.Ring.{SameInlet, popped}
use Rattle.spk_rings.specs.declared.inlet.Inlet.{Inlet}
use Rattle.spk_rings.specs.declared.item.Item.{Item}
use Rattle.spk_plant_edge.specs.Frames.{cuts_in, ends_put, frames_of}
use Rattle.spk_plant_edge.specs.Log.{Move, Asks, Hears, Passes, IsLog, inputs_of, items_of}
use Rattle.spk_plant_edge.specs.Script.{AreDrains, Asked, was_refused}
use Rattle.spk_plant_edge.specs.Told.{newest_first}
use Rattle.spk_plant_edge.specs.Vain.{in_vain}
use Rattle.spk_plant_edge.specs.declared.desk.Desk.{Desk}
use Rattle.spk_plant_edge.specs.declared.sending.Sender.{Sender}

-- where it began
pub record Origin : Type 0 where
  pub setup : Setup
  pub pass : PutPass
  pub inlet : Inlet

-- the same sender's pass, of this ingress; no end of the sender was put since
pub record PutsOn (n : Ingress) (a b : PutPass) : Type 0 where
  pub into : PutsInto n b
  pub sender : b.sender ≡ a.sender
  pub ends : ends_put b ≡ ends_put a

-- it put these frames
pub record HasPut (a b : Sender) (frames : List Frame) : Type 0 where
  pub put : frames_put b.pass ≡ frames_put a.pass ++ frames
  pub cuts : b.cuts ≡ a.cuts + cuts_in frames

-- the node was told these inputs, the newest first, and what it answered was put
pub record Stands (o : Origin) (is : List Input) (d : Desk) : Type 0 where
  pub node : d.node ≡ node_of o.setup is
  pub inputs : newest_first d.inputs.items ≡ is
  pub messages : map message_view d.published.items ≡ messages_from o.setup (published (run_of o.setup is)) 0
  pub whole : AllWhole o.setup (published (run_of o.setup is))
  pub frames : frames_put d.sender.pass ≡ frames_put o.pass ++ frames_of o.setup is
  pub cuts : d.sender.cuts ≡ cuts_in (frames_of o.setup is)
  pub vain : d.in_vain ≡ in_vain o.setup is

-- this is what was done
pub record IsAt (o : Origin) (log : List Move) (d : Desk) : Type 0 where
  pub stands : Stands o (inputs_of log) d
  pub lawful : IsLog o.setup log
  pub items : popped d.inlet ≡ popped o.inlet ++ items_of log
  pub inlet : SameInlet o.inlet d.inlet

-- wherever it stood, it went on so
abbrev pub Goes : (Setup → List Move → List Move → Type 0) → Desk → Desk → Type 0
Goes P a b = (o : Origin) (log : List Move) → IsAt o log a → (after : List Move) × IsAt o after b × P o.setup log after

-- what was made of an item
abbrev pub IsOf : Item → Move → Type 0
IsOf item (Asks i) = ⊥
IsOf item (Hears x i) = x ≡ item
IsOf item (Passes x) = x ≡ item

-- drains so far, none of them refused
pub record Draining (s : Setup) (before after : List Move) : Type 0 where
  pub drains : List Move
  pub grown : after ≡ drains ++ before
  pub each : AreDrains s before drains
  pub taken : was_refused s before drains ≡ false

-- the packet that bytes are, if they are one
abbrev pub IsReadAs : List ℕ → Option Packet → Type 0
IsReadAs bytes (Some p) = Spells bytes (view p)
IsReadAs bytes None = IsOnePacket bytes → ⊥

-- the input that it is, at a moment
abbrev pub input_in : Config → ℕ → Option Packet → Input
input_in c now (Some p) = input_of c now (view p)
input_in c now None = record { now = now; ack = None; act = Pass }
