-- Which input a packet of the server is (MQTT 3.1.1, chapter 3).
use Rattle.std.specs.Prelude.{ℕ, ◌==◌, Bool, false, List, None, if◌then◌else◌}
use Rattle.std.specs.Option.{option_map_or}
use Rattle.std.specs.Str.{bytes_eq}
use Rattle.spk_packets.specs.Message.{Message, Connect, ConnAck, Publish, PubAck, Subscribe, SubAck, Unsubscribe, UnsubAck, PingReq, PingResp, Disconnect}
use Rattle.spk_topics.specs.Spark.{topic_of}
use Rattle.spk_topics.specs.Spark.Named.{of_state}
use Rattle.spk_edge_rules.specs.Config.{Config}
use Rattle.spk_edge_rules.specs.Inputs.{Accepted, Command, State, TurnedAway, Pass, Input}

-- the topic of the primary host's STATE
abbrev pub is_primary : Config → List ℕ → Bool
is_primary c topic = option_map_or (λ host. bytes_eq topic (topic_of (of_state host))) c.primary false

-- CONNACK is the server's answer; a PUBLISH is a STATE or a command, and is acknowledged where its QoS is 1; any other
-- packet asks for nothing.
abbrev pub input_of : Config → ℕ → Message → Input
input_of c now (ConnAck present code) = record { now = now; ack = None; act = if code == 0 then Accepted else TurnedAway }
input_of c now (Publish dup qos retain topic id payload) = record {
  now = now;
  ack = if qos == 1 then id else None;
  act = if is_primary c topic then State payload else Command topic payload;
}
input_of c now (Connect client clean keep will) = record { now = now; ack = None; act = Pass }
input_of c now (PubAck id) = record { now = now; ack = None; act = Pass }
input_of c now (Subscribe id filters) = record { now = now; ack = None; act = Pass }
input_of c now (SubAck id codes) = record { now = now; ack = None; act = Pass }
input_of c now (Unsubscribe id filters) = record { now = now; ack = None; act = Pass }
input_of c now (UnsubAck id) = record { now = now; ack = None; act = Pass }
input_of c now PingReq = record { now = now; ack = None; act = Pass }
input_of c now PingResp = record { now = now; ack = None; act = Pass }
input_of c now Disconnect = record { now = now; ack = None; act = Pass }
