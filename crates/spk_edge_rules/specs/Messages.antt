-- The numbered messages of an edge node (Sparkplug 3.0.0, chapter 6): births, data, and the deaths of devices.
use Rattle.std.specs.Prelude.{ℕ, ◌&&◌, Bool, true, false, List, Option, Some, None, is_none}
use Rattle.spk_payload.specs.Meaning.{MetricData, PayloadData}
use Rattle.spk_payload.specs.Spelling as payload
use Rattle.spk_packets.specs.Message.{Message, Publish}
use Rattle.spk_topics.specs.Spark.{Named, topic_of}
use Rattle.spk_topics.specs.Spark.Named.{of_node, of_device}
use Rattle.spk_topics.specs.declared.spark.Verb.{Verb}
use Rattle.spk_topics.specs.declared.spark.Verb.TheVariants.{Birth}
use Rattle.spk_edge_rules.specs.Config.{Config}

-- A message before it has its number: what is sent, of which device (none is the node itself), its stamp in
-- milliseconds since 1970, and its metrics.
pub record Draft : Type 0 where
  pub verb : Verb
  pub device : Option (List ℕ)
  pub stamp : ℕ
  pub metrics : List MetricData

-- it is an NBIRTH or a DBIRTH
abbrev pub is_birth : Verb → Bool
is_birth Birth = true
is_birth _ = false

-- it is an NBIRTH
abbrev pub opens : Draft → Bool
opens d = is_birth d.verb && is_none d.device

-- its topic
abbrev pub spark_of : Config → Verb → Option (List ℕ) → Named
spark_of c verb None = of_node c.group verb c.node
spark_of c verb (Some device) = of_device c.group verb c.node device

-- the topic of a message, by its names
abbrev pub named_by : Config → Draft → Named
named_by c d = spark_of c d.verb d.device

-- its payload, under a number
abbrev pub payload_of : ℕ → Draft → PayloadData
payload_of number d = record { timestamp = Some d.stamp; metrics = d.metrics; seq = Some number }

-- The packet: QoS 0, not retained (Sparkplug 3.0.0, chapter 6).
abbrev pub wire : Config → ℕ → Draft → Message
wire c number d = Publish false 0 false (topic_of (named_by c d)) None (payload.spelling (payload_of number d))
