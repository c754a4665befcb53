-- What a packet says to a host (Sparkplug 3.0.0, chapter 4 on topics, chapter 6 on payloads), and why one is refused: the
-- topic, then the payload, then its seq, its timestamp and its bdSeq, each where the message has to carry it.
use Rattle.std.specs.Prelude.{◌≡◌, ℕ, ◌==◌, Bool, false, true, nat_lt, List, reverse, Option, Some, None, Result, Ok, Err, option_and_then, codes, if◌then◌else◌}
use Rattle.std.specs.List.{find}
use Rattle.std.specs.Option.{option_map_or}
use Rattle.std.specs.Str.{bytes_eq}
use Rattle.spk_packets.specs.Message as packet
use Rattle.spk_packets.specs.Grammar.{Spells}
use Rattle.spk_payload.specs.declared.fault.PayloadFault.{PayloadFault}
use Rattle.spk_payload.specs.declared.values.Values.TheVariants as choice
use Rattle.spk_payload.specs.Meaning.{MetricData, PayloadData}
use Rattle.spk_payload.specs.Reading.{payload_at}
use Rattle.spk_payload.specs.Typing.{int_or_long_in}
use Rattle.spk_sequence.specs.declared.message.Kind.TheVariants as kind
use Rattle.spk_topics.specs.Spark.{Named, named_at}
use Rattle.spk_topics.specs.Spark.Named.{of_node, of_device, of_state}
use Rattle.spk_topics.specs.declared.spark.Verb.TheVariants as verb
use Rattle.spk_reading.specs.Data.{SubjectData, NodeBirth, NodeData, DeviceBirth, DeviceData, DeviceDeath, ContentData, Message, Death, Nothing, HeardData, Published, Answered, Granted, Other}
use Rattle.spk_reading.specs.declared.fault.ReadFault.{ReadFault}
use Rattle.spk_reading.specs.declared.fault.ReadFault.TheVariants as fault

infixl 10 ◌>>=◌
abbrev pub ◌>>=◌ : {A B : Type 0} → Result A ReadFault → (A → Result B ReadFault) → Result B ReadFault
(Ok x) >>= f = f x
(Err e) >>= f = Err e

abbrev pub or_fault : {A : Type 0} → ReadFault → Option A → Result A ReadFault
or_fault e None = Err e
or_fault e (Some x) = Ok x

-- ---- the numbers of a payload

abbrev pub byte : ℕ → Option ℕ
byte n = if nat_lt n 256 then Some n else None

-- its seq, where it is there and at most 255
abbrev pub seq_of : PayloadData → Option ℕ
seq_of p = option_and_then byte p.seq

abbrev pub is_session : MetricData → Bool
is_session m = option_map_or (λ name. bytes_eq name (codes "bdSeq")) m.name false

-- A metric's number, from an int_value or a long_value, whatever its datatype. A null has none.
abbrev pub session_in : MetricData → Option ℕ
session_in m = if option_map_or (λ b. b) m.null false then None
    else option_and_then byte (option_and_then int_or_long_in m.value)

-- its bdSeq: of several metrics of that name the last one counts
abbrev pub session_of : List MetricData → Option ℕ
session_of ms = option_and_then session_in (find is_session (reverse ms))

-- ---- what a payload says under a topic

-- with all values: which of them are shown is asked of what is shown
abbrev pub payload_in : List ℕ → Result PayloadData ReadFault
payload_in bytes = readable (payload_at choice.All bytes)
  where
    readable : Result PayloadData PayloadFault → Result PayloadData ReadFault
    readable (Ok p) = Ok p
    readable (Err f) = Err fault.BadPayload

-- a message other than an NBIRTH
abbrev pub other_in : List ℕ → List ℕ → List ℕ → SubjectData → PayloadData → Result ContentData ReadFault
other_in topic group node subject p =
    or_fault fault.NoSeq (seq_of p) >>= λ number.
    Ok (Message (record {
      group = group;
      node = node;
      subject = subject;
      number = number;
      kind = kind.Other p.timestamp;
      topic = topic;
      payload = p;
    }))

abbrev pub birth_in : List ℕ → List ℕ → List ℕ → PayloadData → Result ContentData ReadFault
birth_in topic group node p =
    or_fault fault.NoSeq (seq_of p) >>= λ number.
    or_fault fault.NoStamp p.timestamp >>= λ stamp.
    or_fault fault.NoBdSeq (session_of p.metrics) >>= λ bd.
    Ok (Message (record {
      group = group;
      node = node;
      subject = NodeBirth;
      number = number;
      kind = kind.Birth stamp bd;
      topic = topic;
      payload = p;
    }))

abbrev pub death_in : List ℕ → List ℕ → PayloadData → Result ContentData ReadFault
death_in group node p = or_fault fault.NoBdSeq (session_of p.metrics) >>= λ bd. Ok (Death group node bd)

-- A command's and a STATE's payload isn't read.
abbrev pub content_in : List ℕ → List ℕ → Named → Result ContentData ReadFault
content_in topic bytes (of_node group verb.Birth node) = payload_in bytes >>= birth_in topic group node
content_in topic bytes (of_node group verb.Death node) = payload_in bytes >>= death_in group node
content_in topic bytes (of_node group verb.Data node) = payload_in bytes >>= other_in topic group node NodeData
content_in topic bytes (of_node group verb.Command node) = Ok Nothing
content_in topic bytes (of_device group verb.Birth node device) = payload_in bytes >>= other_in topic group node (DeviceBirth device)
content_in topic bytes (of_device group verb.Death node device) = payload_in bytes >>= other_in topic group node (DeviceDeath device)
content_in topic bytes (of_device group verb.Data node device) = payload_in bytes >>= other_in topic group node (DeviceData device)
content_in topic bytes (of_device group verb.Command node device) = Ok Nothing
content_in topic bytes (of_state host) = Ok Nothing

-- whether it is read
abbrev pub is_read : Named → Bool
is_read (of_node group verb.Birth node) = true
is_read (of_node group verb.Death node) = true
is_read (of_node group verb.Data node) = true
is_read (of_node group verb.Command node) = false
is_read (of_device group verb.Birth node device) = true
is_read (of_device group verb.Death node device) = true
is_read (of_device group verb.Data node device) = true
is_read (of_device group verb.Command node device) = false
is_read (of_state host) = false

-- what a message on a topic says
unfoldable pub content_at : List ℕ → List ℕ → Result ContentData ReadFault
content_at topic bytes = or_fault fault.NotSparkplug (named_at topic) >>= content_in topic bytes

-- ---- a packet

abbrev pub heard : packet.Message → Result HeardData ReadFault
heard (packet.Publish dup qos retain topic id payload) =
    content_at topic payload >>= λ content. Ok (Published (if qos == 1 then id else None) content)
heard (packet.ConnAck present code) = Ok (Answered code)
heard (packet.SubAck id codes) = Ok Granted
heard _ = Ok Other

-- All the bytes spell one packet, and it says this.
pub record Says (bytes : List ℕ) (h : HeardData) : Type 0 where
  pub packet : packet.Message
  pub spelled : Spells bytes packet
  pub is : heard packet ≡ Ok h

-- The bytes aren't one packet, or they are one that is refused so.
pub data IsReadFault (bytes : List ℕ) : ReadFault → Type 0 where
  NoPacket : ((p : packet.Message) → Spells bytes p → ⊥) → IsReadFault bytes fault.BadPayload
  Refused : {f : ReadFault} (p : packet.Message) → Spells bytes p → heard p ≡ Err f → IsReadFault bytes f
