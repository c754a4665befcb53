-- What a host reads of a message's topic and payload, and that it is the call for the message's position.
use Rattle.std.proofs.Common.{◌≡◌, ℕ, zero, suc, ◌+◌, ◌<◌, ◌%◌, Bool, true, false, ◌&&◌, cond, List, [], ◌∷◌, ◌++◌, reverse, length, option_map, Option, Some, None, is_none, Result, Ok, Err, refl, sym, ◌∙◌, ap, arith}
use Rattle.std.specs.Prelude.{slice_get, option_and_then}
use Rattle.std.specs.List.{AllByRecursion, find}
use Rattle.std.specs.Option.{option_or}
use Rattle.std.proofs.lemmas.Bool.{true≢false, lt-ltb}
use Rattle.std.proofs.lemmas.List.{reverse-append, map-append, length-map}
use Rattle.std.proofs.lemmas.List.Folds.{find-append}
use Rattle.std.proofs.lemmas.Option.{slice_get-map, get_or_from_slice_get}
use Rattle.spk_payload.specs.Meaning.{MetricData, PayloadData}
use Rattle.spk_payload.specs.declared.values.Values.TheVariants as choice
use Rattle.spk_payload.specs.Reading.{payload_at}
use Rattle.spk_payload.specs.Spelling as payload
use Rattle.spk_packets.specs.Grammar.{Spells}
use Rattle.spk_packets.specs.Message as packet
use Rattle.spk_topics.specs.Spark.{Named, named_at, topic_of}
use Rattle.spk_topics.specs.Spark.Named.{of_node}
use Rattle.spk_topics.specs.declared.spark.Verb.{Verb}
use Rattle.spk_topics.specs.declared.spark.Verb.TheVariants.{Birth, Death, Data, Command}
use Rattle.spk_sequence.specs.declared.message.Kind.{Kind}
use Rattle.spk_sequence.specs.declared.message.Kind.TheVariants as kind
use Rattle.spk_sequence.specs.Calls as call
use Rattle.spk_sequence.specs.Claims.{with_more}
use Rattle.spk_sequence.specs.HostRecord.{kind_of}
use Rattle.spk_sequence.specs.NodeRecord as sequence
use Rattle.spk_reading.specs.Data as said
use Rattle.spk_reading.specs.Data.{SubjectData, NumberedData, ContentData, HeardData}
use Rattle.spk_reading.specs.Meaning.{◌>>=◌, IsReadFault, NoPacket, Refused, birth_in, byte, content_at, content_in, death_in, heard, or_fault, other_in, payload_in, session_in, session_of}
use Rattle.spk_reading.specs.declared.fault.ReadFault.{ReadFault}
use Rattle.spk_reading.specs.declared.fault.ReadFault.TheVariants as fault
use Rattle.spk_edge_rules.specs.Claims.{SaysSessionOnce, has_number, is_numbered, is_session}
use Rattle.spk_edge_rules.specs.Config.{Config, Setup}
use Rattle.spk_edge_rules.specs.Messages.{Draft, is_birth, named_by, opens, payload_of, spark_of, wire}
use Rattle.spk_edge_rules.specs.Packets.{death_payload, death_topic, session_metric}
use Rattle.spk_edge_rules.specs.Run.{Message, number_at, outline, session_number, setting_of}
use Rattle.spk_tie.specs.Tie.{IsDeathOf, ReadsDeath, ReadsMessage, SaysAlone, ack_of, host_setting, named_for}

-- ---- the bdSeq of a payload

abbrev AreOthers : List MetricData → Type 0
AreOthers metrics = AllByRecursion (λ metric. is_session metric ≡ false) metrics

find-cons : (x : MetricData) (rest : List MetricData) → find is_session (reverse (x ∷ rest)) ≡ option_or (find is_session (reverse rest)) (cond (is_session x) (Some x) None)
find-cons x rest = ap (find is_session) (reverse-append (x ∷ []) rest) ∙ find-append is_session (reverse rest) (x ∷ [])

find-none : (rest : List MetricData) → AreOthers rest → find is_session (reverse rest) ≡ None
find-none [] others = refl
find-none (x ∷ rest) others =
    find-cons x rest
    ∙ ap (λ (o : Option MetricData). option_or o (cond (is_session x) (Some x) None)) (find-none rest others.1)
    ∙ ap (λ b. cond b (Some x) None) others.0

pub byte-is : (n : ℕ) → n < 256 → byte n ≡ Some n
byte-is n low = ap (λ b. cond b (Some n) None) (lt-ltb n 256 low)

-- the bdSeq that stands first, and of which there is no other
pub session-first : (bd : ℕ) (time : Option ℕ) (rest : List MetricData) → bd < 256 → AreOthers rest → session_of (session_metric bd time ∷ rest) ≡ Some bd
session-first bd time rest low others =
    ap (option_and_then session_in) (find-cons (session_metric bd time) rest ∙ ap (λ (o : Option MetricData). option_or o (Some (session_metric bd time))) (find-none rest others))
    ∙ byte-is bd low

-- ---- a message

abbrev kind_by : Bool → ℕ → ℕ → Kind
kind_by true stamp bd = kind.Birth stamp bd
kind_by false stamp bd = kind.Other (Some stamp)

-- What a payload says under the topic of a message.
pub record IsTold (c : Config) (verb : Verb) (device : Option (List ℕ)) (topic bytes : List ℕ) (q : PayloadData) (number : ℕ) (k : Kind) : Type 0 where
  pub read : NumberedData
  pub is : content_in topic bytes (spark_of c verb device) ≡ Ok (said.Message read)
  pub group : read.group ≡ c.group
  pub node : read.node ≡ c.node
  pub subject : named_for c.group c.node read.subject ≡ spark_of c verb device
  pub number_is : read.number ≡ number
  pub kind_is : read.kind ≡ k
  pub topic_is : read.topic ≡ topic
  pub payload_is : read.payload ≡ q

payload-in : (bytes : List ℕ) (q : PayloadData) → payload_at choice.All bytes ≡ Ok q → payload_in bytes ≡ Ok q
payload-in bytes q e = rw e refl

other-in : (topic group node : List ℕ) (subject : SubjectData) (d : Draft) (number : ℕ) → number < 256
    → other_in topic group node subject (payload_of number d) ≡ Ok (said.Message (record {
      group = group;
      node = node;
      subject = subject;
      number = number;
      kind = kind.Other (Some d.stamp);
      topic = topic;
      payload = payload_of number d;
    }))
other-in topic group node subject d number low =
    ap (λ (o : Option ℕ). or_fault fault.NoSeq o >>= λ n. Ok (said.Message (record {
      group = group;
      node = node;
      subject = subject;
      number = n;
      kind = kind.Other (Some d.stamp);
      topic = topic;
      payload = payload_of number d;
    }))) (byte-is number low)

birth-in : (topic group node : List ℕ) (d : Draft) (number bd : ℕ) → number < 256 → session_of d.metrics ≡ Some bd
    → birth_in topic group node (payload_of number d) ≡ Ok (said.Message (record {
      group = group;
      node = node;
      subject = said.NodeBirth;
      number = number;
      kind = kind.Birth d.stamp bd;
      topic = topic;
      payload = payload_of number d;
    }))
birth-in topic group node d number bd low session =
    ap (λ (o : Option ℕ). or_fault fault.NoSeq o >>= λ n. or_fault fault.NoBdSeq (session_of d.metrics) >>= λ b. Ok (said.Message (record {
      group = group;
      node = node;
      subject = said.NodeBirth;
      number = n;
      kind = kind.Birth d.stamp b;
      topic = topic;
      payload = payload_of number d;
    }))) (byte-is number low)
    ∙ ap (λ (o : Option ℕ). or_fault fault.NoBdSeq o >>= λ b. Ok (said.Message (record {
      group = group;
      node = node;
      subject = said.NodeBirth;
      number = number;
      kind = kind.Birth d.stamp b;
      topic = topic;
      payload = payload_of number d;
    }))) session

pub told : (c : Config) (d : Draft) (topic bytes : List ℕ) (number bd : ℕ) (verb : Verb) (device : Option (List ℕ))
    → has_number verb device ≡ true → number < 256 → payload_at choice.All bytes ≡ Ok (payload_of number d)
    → ((is_birth verb && is_none device) ≡ true → session_of d.metrics ≡ Some bd)
    → IsTold c verb device topic bytes (payload_of number d) number (kind_by (is_birth verb && is_none device) d.stamp bd)
told c d topic bytes number bd Birth None numbered low means session = record {
  read = record { group = c.group; node = c.node; subject = said.NodeBirth; number = number; kind = kind.Birth d.stamp bd; topic = topic; payload = payload_of number d };
  is = ap (λ r. r >>= birth_in topic c.group c.node) (payload-in bytes (payload_of number d) means) ∙ birth-in topic c.group c.node d number bd low (session refl);
  group = refl;
  node = refl;
  subject = refl;
  number_is = refl;
  kind_is = refl;
  topic_is = refl;
  payload_is = refl;
}
told c d topic bytes number bd Birth (Some device) numbered low means session = record {
  read = record { group = c.group; node = c.node; subject = said.DeviceBirth device; number = number; kind = kind.Other (Some d.stamp); topic = topic; payload = payload_of number d };
  is = ap (λ r. r >>= other_in topic c.group c.node (said.DeviceBirth device)) (payload-in bytes (payload_of number d) means) ∙ other-in topic c.group c.node (said.DeviceBirth device) d number low;
  group = refl;
  node = refl;
  subject = refl;
  number_is = refl;
  kind_is = refl;
  topic_is = refl;
  payload_is = refl;
}
told c d topic bytes number bd Data None numbered low means session = record {
  read = record { group = c.group; node = c.node; subject = said.NodeData; number = number; kind = kind.Other (Some d.stamp); topic = topic; payload = payload_of number d };
  is = ap (λ r. r >>= other_in topic c.group c.node said.NodeData) (payload-in bytes (payload_of number d) means) ∙ other-in topic c.group c.node said.NodeData d number low;
  group = refl;
  node = refl;
  subject = refl;
  number_is = refl;
  kind_is = refl;
  topic_is = refl;
  payload_is = refl;
}
told c d topic bytes number bd Data (Some device) numbered low means session = record {
  read = record { group = c.group; node = c.node; subject = said.DeviceData device; number = number; kind = kind.Other (Some d.stamp); topic = topic; payload = payload_of number d };
  is = ap (λ r. r >>= other_in topic c.group c.node (said.DeviceData device)) (payload-in bytes (payload_of number d) means) ∙ other-in topic c.group c.node (said.DeviceData device) d number low;
  group = refl;
  node = refl;
  subject = refl;
  number_is = refl;
  kind_is = refl;
  topic_is = refl;
  payload_is = refl;
}
told c d topic bytes number bd Death None numbered low means session = absurd (true≢false (sym numbered))
told c d topic bytes number bd Death (Some device) numbered low means session = record {
  read = record { group = c.group; node = c.node; subject = said.DeviceDeath device; number = number; kind = kind.Other (Some d.stamp); topic = topic; payload = payload_of number d };
  is = ap (λ r. r >>= other_in topic c.group c.node (said.DeviceDeath device)) (payload-in bytes (payload_of number d) means) ∙ other-in topic c.group c.node (said.DeviceDeath device) d number low;
  group = refl;
  node = refl;
  subject = refl;
  number_is = refl;
  kind_is = refl;
  topic_is = refl;
  payload_is = refl;
}
told c d topic bytes number bd Command device numbered low means session = absurd (true≢false (sym numbered))

-- ---- positions

message-at : (published : List Message) (p : ℕ) (m : Message) → slice_get published p ≡ Some m
    → sequence.message_at (outline published) p ≡ record { birth = m.birth; session = m.session; stamp = m.draft.stamp }
message-at published p m there =
    get_or_from_slice_get (outline published) p (record { birth = m.birth; session = m.session; stamp = m.draft.stamp }) (record { birth = 0; session = 0; stamp = 0 })
    (slice_get-map (λ (m : Message). let r : sequence.Message = record { birth = m.birth; session = m.session; stamp = m.draft.stamp } in r) published p
    ∙ ap (option_map (λ (m : Message). let r : sequence.Message = record { birth = m.birth; session = m.session; stamp = m.draft.stamp } in r)) there)

-- the kind of a position is what its message says
pub kind-at : (s : Setup) (published : List Message) (wait width p : ℕ) (m : Message) → slice_get published p ≡ Some m
    → sequence.opens (outline published) p ≡ opens m.draft
    → kind_of (host_setting s published wait width) p ≡ kind_by (opens m.draft) m.draft.stamp (session_number s m.session)
kind-at s published wait width p m there opening =
    ap (λ b. cond b (kind.Birth (sequence.stamp_at (outline published) p) ((s.bd + sequence.session_at (outline published) p) % 256)) (kind.Other (Some (sequence.stamp_at (outline published) p)))) opening
    ∙ ap (λ (r : sequence.Message). cond (opens m.draft) (kind.Birth r.stamp ((s.bd + r.session) % 256)) (kind.Other (Some r.stamp))) (message-at published p m there)
    ∙ by (opens m.draft)
  where
    by : (b : Bool) → cond b (kind.Birth m.draft.stamp ((s.bd + m.session) % 256)) (kind.Other (Some m.draft.stamp)) ≡ kind_by b m.draft.stamp (session_number s m.session)
    by true = refl
    by false = refl

pub there-still : (xs more : List Message) (p : ℕ) (m : Message) → slice_get xs p ≡ Some m → slice_get (xs ++ more) p ≡ Some m
there-still [] more p m e = absurd (let x : ⊥ = cc in x)
there-still (x ∷ xs) more zero m e = e
there-still (x ∷ xs) more (suc p) m e = there-still xs more p m e

abbrev pub SameNumber : Type 0
SameNumber = (s : sequence.Setting) (more : sequence.NodeRecord) (p : ℕ) → p < length s.published → sequence.written_number (with_more s more) p ≡ sequence.written_number s p

-- waits and widths are nothing to a number
number-there : (s : Setup) (published : List Message) (wait width p : ℕ) → number_at s published p ≡ sequence.written_number (host_setting s published wait width) p
number-there s published wait width p = by s.config.numbering
  where
    by : (numbering : sequence.Numbering) → sequence.number_by numbering (setting_of s published) p ≡ sequence.number_by numbering (host_setting s published wait width) p
    by sequence.RunsOn = refl
    by sequence.Restarts = refl

-- a message's number stays when more is published
pub number-still : SameNumber → (s : Setup) (xs more : List Message) (p : ℕ) → p < length xs → number_at s (xs ++ more) p ≡ number_at s xs p
number-still same s xs more p below =
    ap (λ (r : sequence.NodeRecord). sequence.written_number (record (setting_of s xs) { published = r }) p) (map-append (λ (m : Message). let r : sequence.Message = record { birth = m.birth; session = m.session; stamp = m.draft.stamp } in r) xs more)
    ∙ same (setting_of s xs) (outline more) p
    (let size = length-map xs (λ (m : Message). let r : sequence.Message = record { birth = m.birth; session = m.session; stamp = m.draft.stamp } in r) in omega (arith, size, below))

-- ---- what bytes say

content-is : (topic bytes : List ℕ) (n : Named) (x : ContentData) → named_at topic ≡ Some n → content_in topic bytes n ≡ Ok x → content_at topic bytes ≡ Ok x
unfolding content_at
content-is topic bytes n x names is = ap (λ o. or_fault fault.NotSparkplug o >>= content_in topic bytes) names ∙ is

pub heard-is : (dup : Bool) (qos : ℕ) (retain : Bool) (topic : List ℕ) (id : Option ℕ) (bytes : List ℕ) (n : Named) (x : ContentData) → named_at topic ≡ Some n
    → content_in topic bytes n ≡ Ok x → heard (packet.Publish dup qos retain topic id bytes) ≡ Ok (said.Published (ack_of qos id) x)
heard-is dup qos retain topic id bytes n x names is =
    ap (λ r. r >>= λ content. Ok (said.Published (ack_of qos id) content)) (content-is topic bytes n x names is)

abbrev Heard : Type 0
Heard = Result HeardData ReadFault

abbrev heard_as : HeardData → Heard
heard_as h = Ok h

abbrev refused_as : ReadFault → Heard
refused_as f = Err f

pub alone : (bytes : List ℕ) (p : packet.Message) (h : HeardData) → Spells bytes p → ((q : packet.Message) → Spells bytes q → q ≡ p) → heard p ≡ Ok h → SaysAlone bytes h
alone bytes p h spelled one is = record {
  says = record { packet = p; spelled = spelled; is = is };
  only = λ other says. let same : heard_as other ≡ heard_as h = sym says.is ∙ ap heard (one says.packet says.spelled) ∙ is in cc;
  unrefused = unrefused;
}
  where
    unrefused : (f : ReadFault) → IsReadFault bytes f → ⊥
    unrefused f (NoPacket none) = none p spelled
    unrefused f (Refused q s e) = let same : refused_as f ≡ heard_as h = sym e ∙ ap heard (one q s) ∙ is in let x : ⊥ = cc in x

-- ---- the message of a position

pub reads : (s : Setup) (published : List Message) (p : ℕ) (m : Message) (bytes : List ℕ) → slice_get published p ≡ Some m
    → is_numbered m.draft ≡ true → number_at s published p < 256
    → named_at (topic_of (named_by s.config m.draft)) ≡ Some (named_by s.config m.draft)
    → payload_at choice.All (payload.spelling (payload_of (number_at s published p) m.draft)) ≡ Ok (payload_of (number_at s published p) m.draft)
    → SaysSessionOnce s m → sequence.opens (outline published) p ≡ opens m.draft
    → Spells bytes (wire s.config (number_at s published p) m.draft)
    → ((q : packet.Message) → Spells bytes q → q ≡ wire s.config (number_at s published p) m.draft)
    → ReadsMessage s published p m bytes
reads s published p m bytes there numbered low named means once opening spelled one =
    let number = number_at s published p in
    let d = m.draft in
    let bd = session_number s m.session in
    let session : opens d ≡ true → session_of d.metrics ≡ Some bd = λ e.
    let first = once e in
    ap session_of first.1 ∙ session-first bd (Some d.stamp) first.0 (omega arith) first.2 in
    let t = told s.config d (topic_of (named_by s.config d)) (payload.spelling (payload_of number d)) number bd d.verb d.device numbered low means session in
    record {
      read = t.read;
      is = record {
        there = there;
        group = t.group;
        node = t.node;
        subject = t.subject;
        topic = t.topic_is;
        payload = t.payload_is;
        call = λ wait width now.
            ap (λ n. call.Hand n t.read.kind now) (t.number_is ∙ number-there s published wait width p)
            ∙ ap (λ k. call.Hand (sequence.written_number (host_setting s published wait width) p) k now) (t.kind_is ∙ sym (kind-at s published wait width p m there opening));
      };
      alone = alone bytes (wire s.config number d) (said.Published None (said.Message t.read)) spelled one
          (heard-is false 0 false (topic_of (named_by s.config d)) None (payload.spelling (payload_of number d)) (named_by s.config d) (said.Message t.read) named t.is);
    }

-- ---- the death of a session

pub both : (a b : Bool) → a ≡ true → b ≡ true → (a && b) ≡ true
both a b p q = ap (λ x. x && b) p ∙ q

pub reads-death : (s : Setup) (session time : ℕ) (dup : Bool) (qos : ℕ) (retain : Bool) (id : Option ℕ) (bytes : List ℕ)
    → named_at (death_topic s.config) ≡ Some (of_node s.config.group Death s.config.node)
    → payload_at choice.All (payload.spelling (death_payload (session_number s session) time)) ≡ Ok (death_payload (session_number s session) time)
    → IsDeathOf s session time dup qos retain id bytes
    → ((q : packet.Message) → Spells bytes q → q ≡ packet.Publish dup qos retain (death_topic s.config) id (payload.spelling (death_payload (session_number s session) time)))
    → ReadsDeath s session (ack_of qos id) bytes
reads-death s session time dup qos retain id bytes named means spelled one =
    let bd = session_number s session in
    let text = payload.spelling (death_payload bd time) in
    let says : death_in s.config.group s.config.node (death_payload bd time) ≡ Ok (said.Death s.config.group s.config.node bd) =
    ap (λ (o : Option ℕ). or_fault fault.NoBdSeq o >>= λ b. Ok (said.Death s.config.group s.config.node b)) (session-first bd None [] (omega arith) tt) in
    record {
      bd = bd;
      call = λ published wait width now. refl;
      alone = alone bytes (packet.Publish dup qos retain (death_topic s.config) id text) (said.Published (ack_of qos id) (said.Death s.config.group s.config.node bd)) spelled one
          (heard-is dup qos retain (death_topic s.config) id text (of_node s.config.group Death s.config.node) (said.Death s.config.group s.config.node bd) named
          (ap (λ r. r >>= death_in s.config.group s.config.node) (payload-in text (death_payload bd time) means) ∙ says));
    }
