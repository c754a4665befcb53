-- What the message of one change says.
use Rattle.std.specs.Prelude.{Bool, true, false, ℕ, List, [], ◌∷◌, Option, Some, None, option_copied}
use Rattle.std.specs.Option.{option_map}
use Rattle.spk_payload.specs.Meaning.{MetricData, PayloadData}
use Rattle.spk_payload.specs.Spelling as payload
use Rattle.spk_payload.specs.View.{content_of}
use Rattle.spk_packets.specs.Message.{Message, Publish}
use Rattle.spk_topics.specs.Spark.{Named, topic_of}
use Rattle.spk_topics.specs.Spark.Named.{of_node, of_device}
use Rattle.spk_topics.specs.declared.spark.Verb.TheVariants.{Data}
use Rattle.spk_edge.specs.declared.packet.Saying.{Saying}

-- a metric that isn't null says nothing of it
abbrev pub null_said : Bool → Option Bool
null_said true = Some true
null_said false = None

abbrev pub metric_said : Saying → MetricData
metric_said s = record {
  name = None;
  alias = Some s.alias;
  timestamp = Some s.stamp;
  datatype = None;
  historical = None;
  transient = None;
  null = null_said s.null;
  value = option_map content_of s.value.now;
}

abbrev pub payload_said : Saying → PayloadData
payload_said s = record { timestamp = Some s.stamp; metrics = metric_said s ∷ []; seq = Some s.seq }

-- its topic: that of the data of the node, or of a device
abbrev pub named_of : List ℕ → List ℕ → Option (List ℕ) → Named
named_of group node None = of_node group Data node
named_of group node (Some device) = of_device group Data node device

abbrev pub topic_said : Saying → List ℕ
topic_said s = topic_of (named_of s.group.now s.node.now (option_copied s.device))

-- its packet: QoS 0, not retained
abbrev pub said : Saying → Message
said s = Publish false 0 false (topic_said s) None (payload.spelling (payload_said s))
