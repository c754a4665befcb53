-- The packets that a host application sends (Sparkplug 3.0.0, chapter 5 on host applications, chapter 6 on STATE and on
-- `Node Control/Rebirth`).
use Rattle.std.specs.Prelude.{◌≡◌, ℕ, true, false, List, [], ◌∷◌, ◌++◌, Some, None, codes}
use Rattle.spk_payload.specs.Meaning.{MetricData, PayloadData, Flag}
use Rattle.spk_payload.specs.Spelling as payload
use Rattle.spk_packets.specs.Fault.{first_of}
use Rattle.spk_packets.specs.Grammar.{Spells}
use Rattle.spk_packets.specs.Spelling.{unwritable}
use Rattle.spk_packets.specs.Message.{Message, WillData, Connect, Publish, Subscribe, Disconnect}
use Rattle.spk_state.specs.Text.{state_text}
use Rattle.spk_topics.specs.Spark.{topic_of}
use Rattle.spk_topics.specs.Spark.Named.{of_node, of_state}
use Rattle.spk_topics.specs.declared.spark.Verb.TheVariants.{Command}
use Rattle.spk_host_session.specs.Data.{Config}

abbrev pub offline : ℕ → List ℕ
offline time = state_text (record { online = false; timestamp = time })

abbrev pub online : ℕ → List ℕ
online time = state_text (record { online = true; timestamp = time })

-- The will of a session: STATE offline, with the moment at which it began.
abbrev pub will_of : Config → ℕ → WillData
will_of c time = record { topic = topic_of (of_state c.name); message = offline time; qos = 1; retain = true }

-- CONNECT, with clean session; the client id is the host's name
abbrev pub connect_of : Config → ℕ → Message
connect_of c time = Connect c.name true c.keep (Some (will_of c time))

-- all topics of the group
abbrev pub filter_of : Config → List ℕ
filter_of c = codes "spBv1.0/" ++ (c.group ++ codes "/#")

abbrev pub subscribe_of : Config → Message
subscribe_of c = Subscribe 1 ((filter_of c, 1) ∷ [])

-- STATE at QoS 1, retained
abbrev pub state_of : Config → ℕ → List ℕ → Message
state_of c id text = Publish false 1 true (topic_of (of_state c.name)) (Some id) text

-- STATE online says the moment of the will.
abbrev pub online_of : Config → ℕ → Message
online_of c began = state_of c 2 (online began)

-- the end of a session
abbrev pub farewell : Config → ℕ → List Message
farewell c time = state_of c 3 (offline time) ∷ Disconnect ∷ []

-- `Node Control/Rebirth`, a true Boolean
abbrev pub rebirth_metric : ℕ → MetricData
rebirth_metric time = record {
  name = Some (codes "Node Control/Rebirth");
  alias = None;
  timestamp = Some time;
  datatype = Some 11;
  historical = None;
  transient = None;
  null = None;
  value = Some (Flag true);
}

abbrev pub rebirth_payload : ℕ → PayloadData
rebirth_payload time = record { timestamp = Some time; metrics = rebirth_metric time ∷ []; seq = None }

-- a rebirth request to a node: an NCMD at QoS 0
abbrev pub rebirth_of : List ℕ → List ℕ → ℕ → Message
rebirth_of group node time =
    Publish false 0 false (topic_of (of_node group Command node)) None (payload.spelling (rebirth_payload time))

-- a packet that the writer doesn't refuse
unfoldable pub IsWritable : Message → Type 0
IsWritable p = first_of (unwritable p) ≡ None

-- bytes that are one packet, whole and alone (MQTT 3.1.1, chapters 2 and 3)
abbrev pub IsPacket : List ℕ → Type 0
IsPacket bytes = (p : Message) × Spells bytes p
