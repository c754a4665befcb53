-- What contracts see of the crate's types.
use Rattle.std.specs.Prelude.{ℕ, Bool, List, map, Option, Some, None}
use Rattle.std.specs.Option.{option_map}
use Rattle.std.specs.String.{string_bytes}
use Rattle.spk_payload.specs.Meaning.{PayloadData}
use Rattle.spk_payload.specs.Typing.{typed_view}
use Rattle.spk_payload.specs.View.{payload_view}
use Rattle.spk_packets.specs.Message as packets
use Rattle.spk_packets.specs.View.{view}
use Rattle.spk_topics.specs.Spark.{topic_of}
use Rattle.spk_sequence.specs.NodeRecord as sequence
use Rattle.spk_store.specs.Data.{Kept}
use Rattle.spk_store.specs.Calls as store
use Rattle.spk_store.specs.declared.change.Change.{Change}
use Rattle.spk_edge_rules.specs.declared.phase.Phase.{Phase}
use Rattle.spk_edge_rules.specs.Config.{Config}
use Rattle.spk_edge_rules.specs.Inputs as inputs
use Rattle.spk_edge_rules.specs.Inputs.{ChangeData, WriteData}
use Rattle.spk_edge_rules.specs.Messages.{Draft, named_by, opens}
use Rattle.spk_edge_rules.specs.Rules as rules
use Rattle.spk_edge_rules.specs.Step as step
use Rattle.spk_edge_rules.specs.Step.{Standing}
use Rattle.spk_edge.specs.declared.config.Record.{Record}
use Rattle.spk_edge.specs.declared.config.EdgeConfig.{EdgeConfig}
use Rattle.spk_edge.specs.declared.config.Numbering.{Numbering}
use Rattle.spk_edge.specs.declared.config.Numbering.TheVariants.{RunsOn, Restarts}
use Rattle.spk_edge.specs.declared.input.Act.{Act}
use Rattle.spk_edge.specs.declared.input.Act.TheVariants.{Open, Accepted, Change as Changing, Device, Command, State, Drain, Stop, Cut, TurnedAway, Pass}
use Rattle.spk_edge.specs.declared.input.Input.{Input}
use Rattle.spk_edge.specs.declared.message.Given.{Given}
use Rattle.spk_edge.specs.declared.message.Keeping.{Keeping}
use Rattle.spk_edge.specs.declared.message.Keeping.TheVariants.{Nothing, Push, DropFront}
use Rattle.spk_edge.specs.declared.message.Published.{Published}
use Rattle.spk_edge.specs.declared.message.Write.{Write}
use Rattle.spk_edge.specs.declared.node.EdgeNode.TheInside.{Inside}

-- ---- what a node is

abbrev pub numbering_view : Numbering → sequence.Numbering
numbering_view RunsOn = sequence.RunsOn
numbering_view Restarts = sequence.Restarts

abbrev pub config_view : EdgeConfig → Config
config_view c = record {
  group = string_bytes c.group;
  node = string_bytes c.node;
  primary = option_map string_bytes c.primary;
  keep = c.keep;
  numbering = numbering_view c.numbering;
}

abbrev pub change_view : Change → ChangeData
change_view c = record { owner = c.owner; alias = c.alias; value = option_map typed_view c.value; time = c.time }

abbrev pub kept_view : Kept Change → Kept ChangeData
kept_view s = record { items = map change_view s.items; capacity = s.capacity; lost = s.lost }

-- A node: what it is, and how it stands.
pub record NodeData : Type 0 where
  pub config : Config
  pub standing : Standing

abbrev pub node_view : Inside → NodeData
node_view n = record {
  config = config_view n.config;
  standing = record {
    asked = record {
      phase = n.tally.phase;
      book = n.registry;
      store = kept_view n.store;
      heard = n.tally.heard;
      stamp = n.tally.stamp;
      bd = n.tally.bd;
      will_bd = n.tally.will_bd;
      will_time = n.tally.will_time;
    };
    seq = n.tally.seq;
  };
}

abbrev pub record_view : Record → step.Record
record_view r = record { seq = r.seq; bd = r.bd; stamp = r.stamp }

-- ---- what it gives

-- a message with its topic and payload, whether or not it has its number
pub record MessageData : Type 0 where
  pub topic : List ℕ
  pub payload : PayloadData
  pub stamp : ℕ
  pub opens : Bool

abbrev pub message_view : Published → MessageData
message_view m = record { topic = string_bytes m.topic; payload = payload_view m.payload; stamp = m.stamp; opens = m.opens }

abbrev pub write_view : Write → WriteData
write_view w = record { alias = w.alias; value = typed_view w.value }

pub record GivenData : Type 0 where
  pub plain : List packets.Message
  pub messages : List MessageData
  pub writes : List WriteData
  pub close : Bool
  pub phase : Phase
  pub heard : Option ℕ
  pub kept : Option (store.Call ChangeData)

-- what is done to the kept changes, as a call of the store
abbrev pub keeping_view : Keeping → Option (store.Call ChangeData)
keeping_view Nothing = None
keeping_view (Push change) = Some (store.Push (change_view change))
keeping_view (DropFront n is_lost) = Some (store.DropFront n is_lost)

abbrev pub given_view : Given → GivenData
given_view g = record {
  plain = map view g.plain.items;
  messages = map message_view g.messages.items;
  writes = map write_view g.writes.items;
  close = g.close;
  phase = g.phase;
  heard = g.heard;
  kept = keeping_view g.kept;
}

-- a message of the rules before it has its number
abbrev pub unnumbered : Config → Draft → MessageData
unnumbered c d = record {
  topic = topic_of (named_by c d);
  payload = record { timestamp = Some d.stamp; metrics = d.metrics; seq = None };
  stamp = d.stamp;
  opens = opens d;
}

-- what the rules give, as the code has it, and the greatest timestamp heard after it
abbrev pub given_of : Config → Option ℕ → rules.Given → GivenData
given_of c heard g = record {
  plain = g.plain;
  messages = map (unnumbered c) g.drafts;
  writes = g.writes;
  close = g.close;
  phase = g.phase;
  heard = heard;
  kept = g.store;
}

-- ---- what it is told

abbrev pub act_view : Act → inputs.Act
act_view Open = inputs.Open
act_view Accepted = inputs.Accepted
act_view (Changing alias value) = inputs.Change alias (option_map typed_view value.now)
act_view (Device name up) = inputs.Turn name.now up
act_view (Command topic payload) = inputs.Command topic.now payload.now
act_view (State payload) = inputs.State payload.now
act_view Drain = inputs.Drain
act_view Stop = inputs.Stop
act_view Cut = inputs.Cut
act_view TurnedAway = inputs.TurnedAway
act_view Pass = inputs.Pass

abbrev pub input_view : Input → inputs.Input
input_view i = record { now = i.now; ack = i.ack; act = act_view i.act }
