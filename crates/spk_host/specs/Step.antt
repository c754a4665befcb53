-- What a host does at each call: what it hands out, and its data after it, by the steps of its session (`spk_host_session`) and of the
-- node concerned (`spk_host_node`).
use Rattle.std.specs.Prelude.{ℕ, ◌<◌, ◌==◌, Bool, false, List, [], ◌∷◌, ◌++◌, length, map, replicate, slice_get, Option, Some, None, Result, Ok, Err, if◌then◌else◌}
use Rattle.std.specs.List.{filter, range_with_len}
use Rattle.std.specs.Option.{option_map_or}
use Rattle.spk_packets.specs.Message.{Message, PubAck}
use Rattle.spk_packets.specs.Spelling.{spelling}
use Rattle.spk_sequence.specs.declared.answer.Step.{Step}
use Rattle.spk_sequence.specs.declared.answer.Step.TheVariants as step
use Rattle.spk_sequence.specs.Data.{Standing}
use Rattle.spk_sequence.specs.Step as sequence
use Rattle.spk_topics.specs.Spark.{Named}
use Rattle.spk_topics.specs.Spark.Named.{of_node}
use Rattle.spk_topics.specs.declared.spark.Verb.TheVariants.{Command}
use Rattle.spk_reading.specs.Data as said
use Rattle.spk_reading.specs.Data.{ContentData, HeardData, NumberedData}
use Rattle.spk_host_session.specs.Data.{is_address}
use Rattle.spk_host_session.specs.Packets.{rebirth_of}
use Rattle.spk_host_session.specs.Step as session
use Rattle.spk_host_session.specs.declared.fault.HostFault.{HostFault}
use Rattle.spk_host_node.specs.Data.{NodeData, fresh_node}
use Rattle.spk_host_node.specs.Step as node
use Rattle.spk_host.specs.Data.{Entry, HostData, OutData}
use Rattle.spk_host.specs.Nodes.{change_node, node_or, put_node}

-- ---- what is sent

abbrev pub spelled : List Message → List (List ℕ)
spelled packets = map spelling packets

-- the acknowledgement of a PUBLISH at QoS 1
abbrev pub acks : Option ℕ → List Message
acks None = []
acks (Some id) = PubAck id ∷ []

-- No identifier is 0 (MQTT 3.1.1, section 2.3.1).
abbrev pub IsIdentified : Option ℕ → Type 0
IsIdentified None = Unit {0}
IsIdentified (Some id) = 0 < id

abbrev pub HasIdentifier : HeardData → Type 0
HasIdentifier (said.Published ack content) = IsIdentified ack
HasIdentifier _ = Unit {0}

-- So many rebirth requests to a node. A node whose NCMD topic can't be written is asked for none.
abbrev pub topics_to : List ℕ → List ℕ → ℕ → List Named
topics_to group name count = if is_address group name then replicate count (of_node group Command name) else []

abbrev pub requests_to : List ℕ → List ℕ → ℕ → ℕ → List Message
requests_to group name now count = if is_address group name then replicate count (rebirth_of group name now) else []

abbrev pub nothing : OutData
nothing = record { consumed = []; steps = []; gaps = []; death = None; rebirths = []; packets = [] }

abbrev pub sends : List Message → OutData
sends packets = record nothing { packets = spelled packets }

-- ---- a message of a node

-- the acknowledgement first, then the requests
abbrev pub message_out : NodeData → Option ℕ → NumberedData → ℕ → OutData
message_out n ack m now = record {
  consumed = node.taken_of n.order m now;
  steps = node.step_of n.order m now ∷ [];
  gaps = [];
  death = None;
  rebirths = topics_to m.group m.node (node.requests_of n m now);
  packets = spelled (acks ack ++ requests_to m.group m.node now (node.requests_of n m now));
}

-- ---- an NDEATH of a node, with its bdSeq

-- the acknowledgement, and whether it is that of the session of the birth taken last
abbrev pub death_out : Standing → Option ℕ → ℕ → OutData
death_out s ack bd = record (sends (acks ack)) { death = Some (sequence.match_of s bd) }

-- ---- a packet

abbrev pub fresh : HostData → NodeData
fresh h = fresh_node h.session.config.wait h.session.config.width

-- how the order of a node stands, one that was never heard included
abbrev pub standing_of : HostData → (group name : List ℕ) → Standing
standing_of h group name = (node_or (fresh h) h.nodes group name).order.standing

abbrev pub published_out : HostData → Option ℕ → ContentData → ℕ → OutData
published_out h ack (said.Message m) now = message_out (node_or (fresh h) h.nodes m.group m.node) ack m now
published_out h ack (said.Death group name bd) now = death_out (standing_of h group name) ack bd
published_out h ack said.Nothing now = sends (acks ack)

abbrev pub nodes_after : HostData → ContentData → ℕ → List Entry
nodes_after h (said.Message m) now = put_node m.group m.node (node.hand (node_or (fresh h) h.nodes m.group m.node) m now) h.nodes
nodes_after h (said.Death group name bd) now = change_node group name (λ n. node.death n bd) h.nodes
nodes_after h said.Nothing now = h.nodes

abbrev pub over_entry : Entry → Entry
over_entry e = record e { kept = node.over e.kept }

-- what the session says, where it says anything
abbrev pub said_by : Result (List Message) HostFault → List Message
said_by (Ok packets) = packets
said_by (Err f) = []

abbrev pub packet_out : HostData → HeardData → ℕ → OutData
packet_out h (said.Published ack content) now = published_out h ack content now
packet_out h (said.Answered code) now = sends (said_by (session.says h.session (session.Answered code)))
packet_out h said.Granted now = sends (said_by (session.says h.session session.Granted))
packet_out h said.Other now = nothing

-- A CONNACK that turns the host away ends its session.
abbrev pub after_packet : HostData → HeardData → ℕ → HostData
after_packet h (said.Published ack content) now = record h { nodes = nodes_after h content now }
after_packet h (said.Answered code) now = record {
  session = session.after h.session (session.Answered code);
  nodes = if code == 0 then h.nodes else map over_entry h.nodes;
}
after_packet h said.Granted now = h
after_packet h said.Other now = h

-- ---- a moment

abbrev pub has_gap : ℕ → Entry → Bool
has_gap now e = sequence.is_over e.kept.order.standing now

abbrev pub is_asked : ℕ → Entry → Bool
is_asked now e = node.tick_asks e.kept now

abbrev pub tick_entry : ℕ → Entry → Entry
tick_entry now e = record e { kept = node.tick e.kept now }

-- the requests to nodes, in their order
abbrev pub topics_at : ℕ → List Entry → List Named
topics_at now [] = []
topics_at now (e ∷ nodes) = (if is_asked now e then topics_to e.group e.node 1 else []) ++ topics_at now nodes

abbrev pub requests_at : ℕ → List Entry → List Message
requests_at now [] = []
requests_at now (e ∷ nodes) = (if is_asked now e then requests_to e.group e.node now 1 else []) ++ requests_at now nodes

abbrev pub gaps_at : ℕ → List Entry → List Step
gaps_at now [] = []
gaps_at now (e ∷ nodes) = (if has_gap now e then step.Gap ∷ [] else []) ++ gaps_at now nodes

-- the places of the nodes that have one, in their order
abbrev pub is_gap_at : ℕ → List Entry → ℕ → Bool
is_gap_at now nodes place = option_map_or (has_gap now) (slice_get nodes place) false

abbrev pub gap_places : ℕ → List Entry → List ℕ
gap_places now nodes = filter (is_gap_at now nodes) (range_with_len 0 (length nodes))

abbrev pub tick_out : List Entry → ℕ → OutData
tick_out nodes now = record {
  consumed = [];
  steps = gaps_at now nodes;
  gaps = gap_places now nodes;
  death = None;
  rebirths = topics_at now nodes;
  packets = spelled (requests_at now nodes);
}

-- ---- the end of the session

abbrev pub over_all : HostData → HostData
over_all h = record h { nodes = map over_entry h.nodes }
