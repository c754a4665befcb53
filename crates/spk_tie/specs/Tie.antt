-- What ties the bytes of an edge node's messages to their positions: what a host reads in them is the call that the order of
-- the node's messages asks for (Sparkplug 3.0.0, chapter 4 on topics, chapter 6 on payloads, `seq` and `bdSeq`).
use Rattle.std.specs.Prelude.{◌≡◌, ℕ, ◌==◌, Bool, true, List, [], ◌∷◌, slice_get, Option, Some, None, if◌then◌else◌}
use Rattle.spk_payload.specs.Spelling as payload
use Rattle.spk_packets.specs.Grammar.{Spells}
use Rattle.spk_packets.specs.Message as packet
use Rattle.spk_topics.specs.Spark.{Named, topic_of}
use Rattle.spk_topics.specs.Spark.Named.{of_node, of_device}
use Rattle.spk_topics.specs.declared.spark.Verb.TheVariants as verb
use Rattle.spk_sequence.specs.Calls as call
use Rattle.spk_sequence.specs.HostRecord.{MessageComes, DeathComes, call_of}
use Rattle.spk_sequence.specs.NodeRecord.{Setting}
use Rattle.spk_reading.specs.Data.{SubjectData, NodeBirth, NodeData, DeviceBirth, DeviceData, DeviceDeath, NumberedData, HeardData, Published, Message, Death}
use Rattle.spk_reading.specs.Meaning.{IsReadFault, Says}
use Rattle.spk_reading.specs.declared.fault.ReadFault.{ReadFault}
use Rattle.spk_edge_rules.specs.Config.{Setup}
use Rattle.spk_edge_rules.specs.Messages.{named_by, payload_of}
use Rattle.spk_edge_rules.specs.Packets.{client_of, death_payload, death_topic}
use Rattle.spk_edge_rules.specs.Run as edge
use Rattle.spk_edge_rules.specs.Run.{number_at, session_number, setting_of}

-- A host session of a node that published these messages: how long a held message waits there, and how wide the window is.
abbrev pub host_setting : Setup → List edge.Message → ℕ → ℕ → Setting
host_setting s published wait width = record (setting_of s published) { wait = wait; width = width }

-- the topic of a node's message about a subject
abbrev pub named_for : List ℕ → List ℕ → SubjectData → Named
named_for group node NodeBirth = of_node group verb.Birth node
named_for group node NodeData = of_node group verb.Data node
named_for group node (DeviceBirth device) = of_device group verb.Birth node device
named_for group node (DeviceData device) = of_device group verb.Data node device
named_for group node (DeviceDeath device) = of_device group verb.Death node device

-- What is read is the message of a position: of that node and about what it was published about, under that topic and with that
-- payload; and to hand its number and kind is the sequence's call for that position, at any moment.
pub record IsMessageAt (s : Setup) (published : List edge.Message) (p : ℕ) (m : edge.Message) (read : NumberedData) : Type 0 where
  pub there : slice_get published p ≡ Some m
  pub group : read.group ≡ s.config.group
  pub node : read.node ≡ s.config.node
  pub subject : named_for s.config.group s.config.node read.subject ≡ named_by s.config m.draft
  pub topic : read.topic ≡ topic_of (named_by s.config m.draft)
  pub payload : read.payload ≡ payload_of (number_at s published p) m.draft
  pub call : (wait width now : ℕ) → call.Hand read.number read.kind now ≡ call_of (host_setting s published wait width) (MessageComes p now)

-- The bytes say this, and nothing else, and aren't refused.
pub record SaysAlone (bytes : List ℕ) (heard : HeardData) : Type 0 where
  pub says : Says bytes heard
  pub only : (other : HeardData) → Says bytes other → other ≡ heard
  pub unrefused : (fault : ReadFault) → IsReadFault bytes fault → ⊥

-- A host reads in the bytes the message of that position, and nothing else: no identifier is to be acknowledged.
pub record ReadsMessage (s : Setup) (published : List edge.Message) (p : ℕ) (m : edge.Message) (bytes : List ℕ) : Type 0 where
  pub read : NumberedData
  pub is : IsMessageAt s published p m read
  pub alone : SaysAlone bytes (Published None (Message read))

-- ---- deaths

-- the identifier to acknowledge of a PUBLISH
abbrev pub ack_of : ℕ → Option ℕ → Option ℕ
ack_of qos id = if qos == 1 then id else None

-- the payload of the NDEATH of a session that was opened at a moment
abbrev pub death_text : Setup → ℕ → ℕ → List ℕ
death_text s session time = payload.spelling (death_payload (session_number s session) time)

-- The bytes are a PUBLISH of the NDEATH of a session that was opened at a moment, on the node's topic, whatever its QoS and flags:
-- the session's will, or the one that the node sends where it ends a session in order.
abbrev pub IsDeathOf : Setup → ℕ → ℕ → (dup : Bool) (qos : ℕ) (retain : Bool) (id : Option ℕ) → List ℕ → Type 0
IsDeathOf s session time dup qos retain id bytes =
    Spells bytes (packet.Publish dup qos retain (death_topic s.config) id (death_text s session time))

-- A host reads in the bytes the death of the node under a bdSeq, and nothing else; and to tell that bdSeq is the sequence's call
-- for the death of that session.
pub record ReadsDeath (s : Setup) (session : ℕ) (ack : Option ℕ) (bytes : List ℕ) : Type 0 where
  pub bd : ℕ
  pub call : (published : List edge.Message) (wait width now : ℕ) →
      call.Death bd ≡ call_of (host_setting s published wait width) (DeathComes session now)
  pub alone : SaysAlone bytes (Published ack (Death s.config.group s.config.node bd))

-- The packets are a CONNECT alone, and whoever reads its will, published at whatever QoS and flags, reads the death of that session.
pub record GivesWill (s : Setup) (session : ℕ) (packets : List packet.Message) : Type 0 where
  pub will : packet.WillData
  pub is : packets ≡ packet.Connect (client_of s.config) true s.config.keep (Some will) ∷ []
  pub read : (dup : Bool) (qos : ℕ) (retain : Bool) (id : Option ℕ) (bytes : List ℕ) →
      Spells bytes (packet.Publish dup qos retain will.topic id will.message) → ReadsDeath s session (ack_of qos id) bytes
