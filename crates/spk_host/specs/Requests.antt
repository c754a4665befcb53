-- Whom a host asks for a rebirth, and when: by the calls that were done, newest first (Sparkplug 3.0.0, chapter 6, `Node Control/Rebirth`).
use Rattle.std.specs.Prelude.{ℕ, List, [], ◌∷◌, ◌++◌, false, Option, Some, None, if◌then◌else◌}
use Rattle.std.specs.List.{list_any}
use Rattle.spk_payload.specs.Spelling.{spelling}
use Rattle.spk_packets.specs.Message.{Message, Publish}
use Rattle.spk_topics.specs.Spark.{Named, topic_of}
use Rattle.spk_reading.specs.Data as said
use Rattle.spk_reading.specs.Data.{HeardData, NumberedData}
use Rattle.spk_host_session.specs.Data.{Config}
use Rattle.spk_host_session.specs.Packets.{rebirth_payload}
use Rattle.spk_host_node.specs.Inputs.{asked_in, events_of, gap_asked, order_after, since_end}
use Rattle.spk_host_node.specs.Step.{heard_of}
use Rattle.spk_host.specs.Index.{is_named}
use Rattle.spk_host.specs.Inputs.{Call, Heard, node_calls}
use Rattle.spk_host.specs.Step.{topics_to}

-- a rebirth request to this topic: at QoS 0, not retained, with `Node Control/Rebirth`, a true Boolean
abbrev pub request_to : ℕ → Named → Message
request_to now topic = Publish false 0 false (topic_of topic) None (spelling (rebirth_payload now))

-- ---- the nodes that were heard

-- the node that a call is a message of: its group and its name
abbrev pub speaker_in : HeardData → Option (List ℕ × List ℕ)
speaker_in (said.Published ack (said.Message m)) = Some (m.group, m.node)
speaker_in _ = None

abbrev pub speaker : Call → Option (List ℕ × List ℕ)
speaker (Heard heard now) = speaker_in heard
speaker _ = None

-- a name that is new stands last
abbrev pub with_speaker : Option (List ℕ × List ℕ) → List (List ℕ × List ℕ) → List (List ℕ × List ℕ)
with_speaker None names = names
with_speaker (Some x) names = if list_any (is_named x.0 x.1) names then names else names ++ x ∷ []

-- the names of the nodes, in the order in which they were first heard
abbrev pub heard_names : List Call → List (List ℕ × List ℕ)
heard_names [] = []
heard_names (call ∷ before) = with_speaker (speaker call) (heard_names before)

-- ---- when

-- how many requests a message is answered by, after these calls: as many as are due at what the view hears by it
abbrev pub asked_by : Config → List Call → NumberedData → ℕ → ℕ
asked_by config calls m now =
    asked_in config.wait (events_of config.wait config.width (node_calls calls m.group m.node))
    (heard_of (order_after config.wait config.width (since_end (node_calls calls m.group m.node))) m now)

-- at a moment, after these calls, each node of these names that has a gap is asked, where a request is due
abbrev pub asked_at_moment : Config → List Call → ℕ → List (List ℕ × List ℕ) → List Named
asked_at_moment config calls now [] = []
asked_at_moment config calls now (x ∷ names) =
    (if gap_asked config.wait config.width (node_calls calls x.0 x.1) now then topics_to x.0 x.1 1 else [])
    ++ asked_at_moment config calls now names
