-- The other packets of an edge node (Sparkplug 3.0.0, chapters 5 and 6).
use Rattle.std.specs.Prelude.{ℕ, true, false, List, [], ◌∷◌, Option, Some, None, codes}
use Rattle.spk_payload.specs.Meaning.{MetricData, PayloadData, Long}
use Rattle.spk_payload.specs.Spelling as payload
use Rattle.spk_packets.specs.Message.{Message, WillData, Connect, Publish, Subscribe, Disconnect}
use Rattle.spk_topics.specs.Levels.{joined}
use Rattle.spk_topics.specs.Spark.{topic_of}
use Rattle.spk_topics.specs.Spark.Named.{of_node, of_device, of_state}
use Rattle.spk_topics.specs.declared.spark.Verb.TheVariants.{Death, Command}
use Rattle.spk_edge_rules.specs.Config.{Config}

-- the metric `bdSeq`, an Int64
abbrev pub session_metric : ℕ → Option ℕ → MetricData
session_metric bd time = record {
  name = Some (codes "bdSeq");
  alias = None;
  timestamp = time;
  datatype = Some 4;
  historical = None;
  transient = None;
  null = None;
  value = Some (Long bd);
}

-- An NDEATH says the bdSeq of its session and when that was opened. It has no sequence number.
abbrev pub death_payload : ℕ → ℕ → PayloadData
death_payload bd time = record { timestamp = Some time; metrics = session_metric bd None ∷ []; seq = None }

-- the topic of the node's NDEATH
abbrev pub death_topic : Config → List ℕ
death_topic c = topic_of (of_node c.group Death c.node)

-- the will of a session: its NDEATH, at QoS 1, not retained
abbrev pub will_of : Config → ℕ → ℕ → WillData
will_of c bd time = record { topic = death_topic c; message = payload.spelling (death_payload bd time); qos = 1; retain = false }

-- the client id is `group/node` (own rule)
abbrev pub client_of : Config → List ℕ
client_of c = joined (c.group ∷ c.node ∷ [])

-- CONNECT, with clean session
abbrev pub connect_of : Config → ℕ → ℕ → Message
connect_of c bd time = Connect (client_of c) true c.keep (Some (will_of c bd time))

-- Commands to the node, commands to its devices, and the STATE of the primary host, each at QoS 1.
abbrev pub state_filter : Option (List ℕ) → List (List ℕ × ℕ)
state_filter None = []
state_filter (Some host) = (topic_of (of_state host), 1) ∷ []

-- the SUBSCRIBE of a session
abbrev pub subscribe_of : Config → Message
subscribe_of c = Subscribe 1
    ((topic_of (of_node c.group Command c.node), 1)
    ∷ (topic_of (of_device c.group Command c.node (codes "+")), 1)
    ∷ state_filter c.primary)

-- The end of a session in order: its NDEATH at QoS 1, and DISCONNECT.
abbrev pub farewell : Config → ℕ → ℕ → List Message
farewell c bd time =
    Publish false 1 false (death_topic c) (Some 2) (payload.spelling (death_payload bd time)) ∷ Disconnect ∷ []
