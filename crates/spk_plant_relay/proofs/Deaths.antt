-- The bdSeq of an NDEATH that is read is a byte, and so it is that of one session below 256.
use Rattle.std.proofs.Common.{◌≡◌, refl, subst, ℕ, ◌+◌, ◌-◌, ◌%◌, ◌<◌, Bool, true, false, cond, ltb, List, reverse, Option, Some, None, Result, Ok, Err, arith, option_and_then}
use Rattle.std.specs.List.{find}
use Rattle.std.specs.Option.{option_map_or}
use Rattle.std.proofs.lemmas.Bool.{ltb-true}
use Rattle.spk_packets.specs.Message.{Message as Packet, Connect, ConnAck, Publish, PubAck, Subscribe, SubAck, Unsubscribe, UnsubAck, PingReq, PingResp, Disconnect}
use Rattle.spk_payload.specs.Meaning.{MetricData, PayloadData}
use Rattle.spk_payload.specs.Typing.{int_or_long_in}
use Rattle.spk_topics.specs.Spark.{Named, named_at}
use Rattle.spk_topics.specs.Spark.Named.{of_node, of_device, of_state}
use Rattle.spk_topics.specs.declared.spark.Verb.TheVariants as verb
use Rattle.spk_reading.specs.Data.{ContentData, Message, Death, Nothing, HeardData, Published, Answered, Granted, Other, SubjectData}
use Rattle.spk_reading.specs.Meaning.{◌>>=◌, Says, birth_in, byte, content_at, content_in, death_in, heard, is_session, or_fault, other_in, payload_in, seq_of, session_in, session_of}
use Rattle.spk_reading.specs.declared.fault.ReadFault.{ReadFault}
use Rattle.spk_reading.specs.declared.fault.ReadFault.TheVariants as fault

abbrev Low : Option ℕ → Type 0
Low None = Unit {0}
Low (Some n) = n < 256

low-byte : (n : ℕ) → Low (byte n)
low-byte n = by (ltb n 256) refl
  where
    by : (b : Bool) → ltb n 256 ≡ b → Low (cond b (Some n) None)
    by true at = ltb-true n 256 at
    by false at = tt

low-then : (o : Option ℕ) → Low (option_and_then byte o)
low-then None = tt
low-then (Some n) = low-byte n

low-session : (m : MetricData) → Low (session_in m)
low-session m = by (option_map_or (λ b. b) m.null false)
  where
    by : (b : Bool) → Low (cond b None (option_and_then byte (option_and_then int_or_long_in m.value)))
    by true = tt
    by false = low-then (option_and_then int_or_long_in m.value)

low-found : (o : Option MetricData) → Low (option_and_then session_in o)
low-found None = tt
low-found (Some m) = low-session m

-- a death that is said has a byte
abbrev LowIn : Result ContentData ReadFault → Type 0
LowIn (Ok (Message m)) = Unit {0}
LowIn (Ok (Death group node bd)) = bd < 256
LowIn (Ok Nothing) = Unit {0}
LowIn (Err e) = Unit {0}

low-bind : {A : Type 0} (r : Result A ReadFault) (f : A → Result ContentData ReadFault) → ((x : A) → LowIn (f x)) → LowIn (r >>= f)
low-bind (Ok x) f each = each x
low-bind (Err e) f each = tt

low-death : (group node : List ℕ) (p : PayloadData) → LowIn (death_in group node p)
low-death group node p = by (session_of p.metrics) (low-found (find is_session (reverse p.metrics)))
  where
    by : (o : Option ℕ) → Low o → LowIn (or_fault fault.NoBdSeq o >>= λ bd. Ok (Death group node bd))
    by None low = tt
    by (Some bd) low = low

low-birth : (topic group node : List ℕ) (p : PayloadData) → LowIn (birth_in topic group node p)
low-birth topic group node p = low-bind (or_fault fault.NoSeq (seq_of p)) _ (λ n. low-bind (or_fault fault.NoStamp p.timestamp) _ (λ t. low-bind (or_fault fault.NoBdSeq (session_of p.metrics)) _ (λ bd. tt)))

low-other : (topic group node : List ℕ) (subject : SubjectData) (p : PayloadData) → LowIn (other_in topic group node subject p)
low-other topic group node subject p = low-bind (or_fault fault.NoSeq (seq_of p)) _ (λ n. tt)

low-content : (topic bytes : List ℕ) (n : Named) → LowIn (content_in topic bytes n)
low-content topic bytes (of_node group verb.Birth node) = low-bind (payload_in bytes) (birth_in topic group node) (low-birth topic group node)
low-content topic bytes (of_node group verb.Death node) = low-bind (payload_in bytes) (death_in group node) (low-death group node)
low-content topic bytes (of_node group verb.Data node) = low-bind (payload_in bytes) _ (low-other topic group node _)
low-content topic bytes (of_node group verb.Command node) = tt
low-content topic bytes (of_device group verb.Birth node device) = low-bind (payload_in bytes) _ (low-other topic group node _)
low-content topic bytes (of_device group verb.Death node device) = low-bind (payload_in bytes) _ (low-other topic group node _)
low-content topic bytes (of_device group verb.Data node device) = low-bind (payload_in bytes) _ (low-other topic group node _)
low-content topic bytes (of_device group verb.Command node device) = tt
low-content topic bytes (of_state host) = tt

low-at : (topic bytes : List ℕ) → LowIn (content_at topic bytes)
unfolding content_at
low-at topic bytes = low-bind (or_fault fault.NotSparkplug (named_at topic)) (content_in topic bytes) (low-content topic bytes)

abbrev LowHeard : Result HeardData ReadFault → Type 0
LowHeard (Ok (Published ack (Message m))) = Unit {0}
LowHeard (Ok (Published ack (Death group node bd))) = bd < 256
LowHeard (Ok (Published ack Nothing)) = Unit {0}
LowHeard (Ok (Answered code)) = Unit {0}
LowHeard (Ok Granted) = Unit {0}
LowHeard (Ok Other) = Unit {0}
LowHeard (Err e) = Unit {0}

low-published : (ack : Option ℕ) (r : Result ContentData ReadFault) → LowIn r → LowHeard (r >>= λ content. Ok (Published ack content))
low-published ack (Ok (Message m)) low = tt
low-published ack (Ok (Death group node bd)) low = low
low-published ack (Ok Nothing) low = tt
low-published ack (Err e) low = tt

low-heard : (p : Packet) → LowHeard (heard p)
low-heard (Publish dup qos retain topic id payload) = low-published _ (content_at topic payload) (low-at topic payload)
low-heard (ConnAck present code) = tt
low-heard (SubAck id given) = tt
low-heard (Connect client clean alive will) = tt
low-heard (PubAck id) = tt
low-heard (Subscribe id filters) = tt
low-heard (Unsubscribe id filters) = tt
low-heard (UnsubAck id) = tt
low-heard PingReq = tt
low-heard PingResp = tt
low-heard Disconnect = tt

pub death-low : (bytes : List ℕ) (ack : Option ℕ) (group node : List ℕ) (bd : ℕ) → Says bytes (Published ack (Death group node bd)) → bd < 256
death-low bytes ack group node bd says = subst LowHeard says.is (low-heard says.packet)

-- the session below 256 that is written so
abbrev pub session_for : (first bd : ℕ) → ℕ
session_for first bd = (bd + (256 - first % 256)) % 256

pub session-for-low : (first bd : ℕ) → session_for first bd < 256
session-for-low first bd = omega arith

pub session-for-is : (first bd : ℕ) → bd < 256 → (first + session_for first bd) % 256 ≡ bd
session-for-is first bd low = omega arith
