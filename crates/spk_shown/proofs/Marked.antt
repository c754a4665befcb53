-- What is read is marked as an NBIRTH only where it is one.
use Rattle.std.proofs.Common.{◌≡◌, ap, subst, refl, ℕ, List, Option, Some, None, Result, Ok, Err, if◌then◌else◌, ◌==◌}
use Rattle.spk_packets.specs.Message as packet
use Rattle.spk_payload.specs.Meaning.{PayloadData}
use Rattle.spk_sequence.specs.declared.message.Kind.{Kind}
use Rattle.spk_sequence.specs.declared.message.Kind.TheVariants as kind
use Rattle.spk_topics.specs.Spark.{Named, named_at}
use Rattle.spk_topics.specs.Spark.Named.{of_node, of_device, of_state}
use Rattle.spk_topics.specs.declared.spark.Verb.TheVariants as verb
use Rattle.spk_reading.specs.Data.{SubjectData, NodeData, DeviceBirth, DeviceData, DeviceDeath, NumberedData, ContentData, HeardData, Message, Death, Nothing, Published}
use Rattle.spk_reading.specs.Meaning.{◌>>=◌, Says, birth_in, content_at, content_in, death_in, heard, or_fault, other_in, payload_in, seq_of, session_of}
use Rattle.spk_reading.specs.declared.fault.ReadFault.{ReadFault}
use Rattle.spk_reading.specs.declared.fault.ReadFault.TheVariants as fault
use Rattle.spk_shown.specs.Shown.{IsMarked}

-- a message that is read is marked so
abbrev MarkedIn : Result ContentData ReadFault → Type 0
MarkedIn (Ok (Message read)) = IsMarked read
MarkedIn (Ok (Death group node bd)) = Unit {0}
MarkedIn (Ok Nothing) = Unit {0}
MarkedIn (Err f) = Unit {0}

apart : (t : Option ℕ) (stamp bd : ℕ) → kind.Other t ≡ kind.Birth stamp bd → ⊥
apart t stamp bd e = cc

other_marked : (topic group node : List ℕ) (subject : SubjectData) (p : PayloadData) → MarkedIn (other_in topic group node subject p)
other_marked topic group node subject p = go (seq_of p)
  where
    go : (o : Option ℕ) → MarkedIn (or_fault fault.NoSeq o >>= λ number.
        Ok (Message (record { group = group; node = node; subject = subject; number = number; kind = kind.Other p.timestamp; topic = topic; payload = p })))
    go None = tt
    go (Some n) = λ stamp bd e. absurd (apart p.timestamp stamp bd e)

birth_marked : (topic group node : List ℕ) (p : PayloadData) → MarkedIn (birth_in topic group node p)
birth_marked topic group node p = go (seq_of p) p.timestamp (session_of p.metrics)
  where
    go : (n t b : Option ℕ) → MarkedIn (or_fault fault.NoSeq n >>= λ number. (or_fault fault.NoStamp t >>= λ stamp. (or_fault fault.NoBdSeq b >>= λ bd.
        Ok (Message (record { group = group; node = node; subject = Rattle.spk_reading.specs.Data.NodeBirth; number = number; kind = kind.Birth stamp bd; topic = topic; payload = p })))))
    go None t b = tt
    go (Some n) None b = tt
    go (Some n) (Some t) None = tt
    go (Some n) (Some t) (Some b) = λ stamp bd e. refl

death_marked : (group node : List ℕ) (p : PayloadData) → MarkedIn (death_in group node p)
death_marked group node p = go (session_of p.metrics)
  where
    go : (b : Option ℕ) → MarkedIn (or_fault fault.NoBdSeq b >>= λ bd. Ok (Death group node bd))
    go None = tt
    go (Some b) = tt

payload_marked : (f : PayloadData → Result ContentData ReadFault) → ((p : PayloadData) → MarkedIn (f p)) → (r : Result PayloadData ReadFault) → MarkedIn (r >>= f)
payload_marked f each (Ok p) = each p
payload_marked f each (Err e) = tt

in_marked : (topic bytes : List ℕ) (n : Named) → MarkedIn (content_in topic bytes n)
in_marked topic bytes (of_node group verb.Birth node) = payload_marked (birth_in topic group node) (birth_marked topic group node) (payload_in bytes)
in_marked topic bytes (of_node group verb.Death node) = payload_marked (death_in group node) (death_marked group node) (payload_in bytes)
in_marked topic bytes (of_node group verb.Data node) = payload_marked (other_in topic group node NodeData) (other_marked topic group node NodeData) (payload_in bytes)
in_marked topic bytes (of_node group verb.Command node) = tt
in_marked topic bytes (of_device group verb.Birth node device) = payload_marked (other_in topic group node (DeviceBirth device)) (other_marked topic group node (DeviceBirth device)) (payload_in bytes)
in_marked topic bytes (of_device group verb.Death node device) = payload_marked (other_in topic group node (DeviceDeath device)) (other_marked topic group node (DeviceDeath device)) (payload_in bytes)
in_marked topic bytes (of_device group verb.Data node device) = payload_marked (other_in topic group node (DeviceData device)) (other_marked topic group node (DeviceData device)) (payload_in bytes)
in_marked topic bytes (of_device group verb.Command node device) = tt
in_marked topic bytes (of_state host) = tt

at_marked : (topic bytes : List ℕ) → MarkedIn (content_at topic bytes)
unfolding content_at
at_marked topic bytes = go (named_at topic)
  where
    go : (o : Option Named) → MarkedIn (or_fault fault.NotSparkplug o >>= content_in topic bytes)
    go None = tt
    go (Some n) = in_marked topic bytes n

abbrev said : HeardData → Result HeardData ReadFault
said h = Ok h

same_heard : (x y : HeardData) → said x ≡ said y → x ≡ y
same_heard x y e = cc

same_content : (id ack : Option ℕ) (c d : ContentData) → Published id c ≡ Published ack d → c ≡ d
same_content id ack c d e = cc

said_marked : (r : Result ContentData ReadFault) (id ack : Option ℕ) (read : NumberedData) → MarkedIn r → (r >>= λ content. said (Published id content)) ≡ said (Published ack (Message read)) → IsMarked read
said_marked (Err f) id ack read m e = absurd (let x : ⊥ = cc in x)
said_marked (Ok content) id ack read m e =
    subst (λ c. MarkedIn (Ok c)) (same_content id ack content (Message read) (same_heard (Published id content) (Published ack (Message read)) e)) m

heard_marked : (p : packet.Message) (ack : Option ℕ) (read : NumberedData) → heard p ≡ Ok (Published ack (Message read)) → IsMarked read
heard_marked (packet.Publish dup qos retain topic id payload) ack read e = said_marked (content_at topic payload) (if qos == 1 then id else None) ack read (at_marked topic payload) e
heard_marked (packet.ConnAck present code) ack read e = absurd (let x : ⊥ = cc in x)
heard_marked (packet.SubAck id codes) ack read e = absurd (let x : ⊥ = cc in x)
heard_marked (packet.Connect client clean keep will) ack read e = absurd (let x : ⊥ = cc in x)
heard_marked (packet.PubAck id) ack read e = absurd (let x : ⊥ = cc in x)
heard_marked (packet.Subscribe id filters) ack read e = absurd (let x : ⊥ = cc in x)
heard_marked (packet.Unsubscribe id filters) ack read e = absurd (let x : ⊥ = cc in x)
heard_marked (packet.UnsubAck id) ack read e = absurd (let x : ⊥ = cc in x)
heard_marked packet.PingReq ack read e = absurd (let x : ⊥ = cc in x)
heard_marked packet.PingResp ack read e = absurd (let x : ⊥ = cc in x)
heard_marked packet.Disconnect ack read e = absurd (let x : ⊥ = cc in x)

pub marked_is : (bytes : List ℕ) (ack : Option ℕ) (read : NumberedData) → Says bytes (Published ack (Message read)) → IsMarked read
marked_is bytes ack read says = heard_marked says.packet ack read says.is
