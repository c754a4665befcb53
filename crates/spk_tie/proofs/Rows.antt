-- An edge node's first messages in bytes, worked out by hand from the standards, and what a host reads in them: the calls for positions
-- 0 and 1, across the end of the numbers, and the death of session 0.
use Rattle.std.proofs.Common.{◌≡◌, ℕ, List, [], ◌∷◌, ◌++◌, Some, None, refl, sym, subst, pos, codes, arith, false}
use Rattle.std.specs.Str.{is_utf8, chars}
use lib.Utf8.{encode}
use Rattle.std.proofs.lemmas.Bool.{true≢false}
use Rattle.std.proofs.lemmas.Str.{IsUtf8-from_is_utf8}
use Rattle.spk_protobuf.specs.Reading as fields
use Rattle.spk_protobuf.specs.Spelling as wire
use Rattle.spk_payload.specs.declared.values.Values.TheVariants as choice
use Rattle.spk_payload.specs.Meaning.{Flag, Int, Long}
use Rattle.spk_payload.specs.Reading as reading
use Rattle.spk_payload.specs.Spelling as payload
use Rattle.spk_payload.specs.Typing.{Signed}
use Rattle.spk_packets.specs.Grammar.{Spells}
use Rattle.spk_packets.specs.Message as packet
use Rattle.spk_packets.specs.Spelling as packets
use Rattle.spk_topics.specs.declared.spark.Verb.TheVariants as verb
use Rattle.spk_device.specs.declared.owner.Owner.TheVariants.{Node}
use Rattle.spk_sequence.specs.declared.message.Kind.TheVariants.{Birth, Other}
use Rattle.spk_sequence.specs.Calls as call
use Rattle.spk_sequence.specs.HostRecord.{DeathComes, MessageComes, call_of}
use Rattle.spk_sequence.specs.NodeRecord.{Numbering, RunsOn, Restarts}
use Rattle.spk_reading.specs.Data as said
use Rattle.spk_reading.specs.Data.{NumberedData}
use Rattle.spk_reading.specs.Meaning as meaning
use Rattle.spk_reading.specs.Meaning.{Says}
use Rattle.spk_edge_rules.specs.Config.{Setup}
use Rattle.spk_edge_rules.specs.Inputs.{Accepted, Act, Change, Input, Open}
use Rattle.spk_edge_rules.specs.Messages.{wire as wire_of}
use Rattle.spk_edge_rules.specs.Run as edge
use Rattle.spk_edge_rules.specs.Run.{outline, published, run_of}
use Rattle.spk_tie.specs.Tie.{IsDeathOf, IsMessageAt, host_setting}

-- Group G, node N, no primary host, a metric `t` of Int32 with the value 7; the next number and the next bdSeq are 255.
abbrev row : Numbering → Setup
row numbering = record {
  config = record { group = codes "G"; node = codes "N"; primary = None; keep = 60; numbering = numbering };
  capacity = 3;
  seq = 255;
  bd = 255;
  stamp = None;
  book = record { devices = []; gauges = (record { owner = Node; name = codes "t"; datatype = 3; value = Some (Signed (pos 7)) }) ∷ []; values = choice.Whole };
}

abbrev at_moment : ℕ → Act → Input
at_moment now act = record { now = now; ack = None; act = act }

-- opened at 5, accepted at 6, and `t` is 8 from 7 on
abbrev inputs : List Input
inputs = at_moment 7 (Change 1 (Some (Signed (pos 8)))) ∷ at_moment 6 Accepted ∷ at_moment 5 Open ∷ []

abbrev birth_topic : List ℕ
birth_topic = codes "spBv1.0/G/NBIRTH/N"

abbrev data_topic : List ℕ
data_topic = codes "spBv1.0/G/NDATA/N"

abbrev death_topic : List ℕ
death_topic = codes "spBv1.0/G/NDEATH/N"

-- NBIRTH: stamp 6, bdSeq 255, `Node Control/Rebirth` false, `t` 7, seq 255
abbrev birth_text : List ℕ
birth_text = 8 ∷ 6 ∷ 18 ∷ 14 ∷ 10 ∷ 5 ∷ 98 ∷ 100 ∷ 83 ∷ 101 ∷ 113 ∷ 24 ∷ 6 ∷ 32 ∷ 4 ∷ 88 ∷ 255 ∷ 1 ∷ 18 ∷ 28 ∷ 10 ∷ 20 ∷ 78 ∷ 111 ∷ 100 ∷ 101 ∷ 32 ∷ 67 ∷ 111 ∷ 110 ∷ 116 ∷ 114 ∷ 111 ∷ 108 ∷ 47 ∷ 82 ∷ 101 ∷ 98 ∷ 105 ∷ 114 ∷ 116 ∷ 104 ∷ 24 ∷ 6 ∷ 32 ∷ 11 ∷ 112 ∷ 0 ∷ 18 ∷ 11 ∷ 10 ∷ 1 ∷ 116 ∷ 16 ∷ 1 ∷ 24 ∷ 6 ∷ 32 ∷ 3 ∷ 80 ∷ 7 ∷ 24 ∷ 255 ∷ 1 ∷ []

-- NDATA: stamp 7, alias 1 is 8, seq 0
abbrev data_text : List ℕ
data_text = 8 ∷ 7 ∷ 18 ∷ 6 ∷ 16 ∷ 1 ∷ 24 ∷ 7 ∷ 80 ∷ 8 ∷ 24 ∷ 0 ∷ []

-- NDEATH: the moment of the Open, bdSeq 255
abbrev death_text : List ℕ
death_text = 8 ∷ 5 ∷ 18 ∷ 12 ∷ 10 ∷ 5 ∷ 98 ∷ 100 ∷ 83 ∷ 101 ∷ 113 ∷ 32 ∷ 4 ∷ 88 ∷ 255 ∷ 1 ∷ []

abbrev birth_bytes : List ℕ
birth_bytes = 48 ∷ 84 ∷ 0 ∷ 18 ∷ 115 ∷ 112 ∷ 66 ∷ 118 ∷ 49 ∷ 46 ∷ 48 ∷ 47 ∷ 71 ∷ 47 ∷ 78 ∷ 66 ∷ 73 ∷ 82 ∷ 84 ∷ 72 ∷ 47 ∷ 78 ∷ 8 ∷ 6 ∷ 18 ∷ 14 ∷ 10 ∷ 5 ∷ 98 ∷ 100 ∷ 83 ∷ 101 ∷ 113 ∷ 24 ∷ 6 ∷ 32 ∷ 4 ∷ 88 ∷ 255 ∷ 1 ∷ 18 ∷ 28 ∷ 10 ∷ 20 ∷ 78 ∷ 111 ∷ 100 ∷ 101 ∷ 32 ∷ 67 ∷ 111 ∷ 110 ∷ 116 ∷ 114 ∷ 111 ∷ 108 ∷ 47 ∷ 82 ∷ 101 ∷ 98 ∷ 105 ∷ 114 ∷ 116 ∷ 104 ∷ 24 ∷ 6 ∷ 32 ∷ 11 ∷ 112 ∷ 0 ∷ 18 ∷ 11 ∷ 10 ∷ 1 ∷ 116 ∷ 16 ∷ 1 ∷ 24 ∷ 6 ∷ 32 ∷ 3 ∷ 80 ∷ 7 ∷ 24 ∷ 255 ∷ 1 ∷ []

abbrev data_bytes : List ℕ
data_bytes = 48 ∷ 31 ∷ 0 ∷ 17 ∷ 115 ∷ 112 ∷ 66 ∷ 118 ∷ 49 ∷ 46 ∷ 48 ∷ 47 ∷ 71 ∷ 47 ∷ 78 ∷ 68 ∷ 65 ∷ 84 ∷ 65 ∷ 47 ∷ 78 ∷ 8 ∷ 7 ∷ 18 ∷ 6 ∷ 16 ∷ 1 ∷ 24 ∷ 7 ∷ 80 ∷ 8 ∷ 24 ∷ 0 ∷ []

-- the server sends the will at QoS 1, as 9
abbrev death_bytes : List ℕ
death_bytes = 50 ∷ 38 ∷ 0 ∷ 18 ∷ 115 ∷ 112 ∷ 66 ∷ 118 ∷ 49 ∷ 46 ∷ 48 ∷ 47 ∷ 71 ∷ 47 ∷ 78 ∷ 68 ∷ 69 ∷ 65 ∷ 84 ∷ 72 ∷ 47 ∷ 78 ∷ 0 ∷ 9 ∷ 8 ∷ 5 ∷ 18 ∷ 12 ∷ 10 ∷ 5 ∷ 98 ∷ 100 ∷ 83 ∷ 101 ∷ 113 ∷ 32 ∷ 4 ∷ 88 ∷ 255 ∷ 1 ∷ []

birth_spelled : Spells birth_bytes (packet.Publish false 0 false birth_topic None birth_text)
unfolding is_utf8 chars encode
birth_spelled = record {
  size = 84 ∷ [];
  body = 0 ∷ 18 ∷ (birth_topic ++ birth_text);
  is_size = (omega arith, (omega arith, refl));
  is_body = (0 ∷ 18 ∷ birth_topic, [], ((0 ∷ 18 ∷ [], (0, 18, refl, refl), refl), IsUtf8-from_is_utf8 birth_topic refl, refl), (refl, refl), (λ e. absurd (true≢false (sym e))), refl);
  parts = refl;
  small = omega arith;
}

data_spelled : Spells data_bytes (packet.Publish false 0 false data_topic None data_text)
unfolding is_utf8 chars encode
data_spelled = record {
  size = 31 ∷ [];
  body = 0 ∷ 17 ∷ (data_topic ++ data_text);
  is_size = (omega arith, (omega arith, refl));
  is_body = (0 ∷ 17 ∷ data_topic, [], ((0 ∷ 17 ∷ [], (0, 17, refl, refl), refl), IsUtf8-from_is_utf8 data_topic refl, refl), (refl, refl), (λ e. absurd (true≢false (sym e))), refl);
  parts = refl;
  small = omega arith;
}

death_spelled : Spells death_bytes (packet.Publish false 1 false death_topic (Some 9) death_text)
unfolding is_utf8 chars encode
death_spelled = record {
  size = 38 ∷ [];
  body = 0 ∷ 18 ∷ (death_topic ++ (0 ∷ 9 ∷ death_text));
  is_size = (omega arith, (omega arith, refl));
  is_body = (0 ∷ 18 ∷ death_topic, 0 ∷ 9 ∷ [], ((0 ∷ 18 ∷ [], (0, 18, refl, refl), refl), IsUtf8-from_is_utf8 death_topic refl, refl), (refl, ((0, 9, refl, refl), omega arith)), (λ e. absurd (true≢false (sym e))), refl);
  parts = refl;
  small = omega arith;
}

-- ---- what was published, by the definitions of the edge

abbrev messages : Numbering → List edge.Message
messages numbering = published (run_of (row numbering) inputs)

-- ---- what is read

abbrev birth_read : NumberedData
birth_read = record {
  group = codes "G";
  node = codes "N";
  subject = said.NodeBirth;
  number = 255;
  kind = Birth 6 255;
  topic = birth_topic;
  payload = record {
    timestamp = Some 6;
    metrics = (record { name = Some (codes "bdSeq"); alias = None; timestamp = Some 6; datatype = Some 4; historical = None; transient = None; null = None; value = Some (Long 255) })
        ∷ (record { name = Some (codes "Node Control/Rebirth"); alias = None; timestamp = Some 6; datatype = Some 11; historical = None; transient = None; null = None; value = Some (Flag false) })
        ∷ (record { name = Some (codes "t"); alias = Some 1; timestamp = Some 6; datatype = Some 3; historical = None; transient = None; null = None; value = Some (Int 7) })
        ∷ [];
    seq = Some 255;
  };
}

abbrev data_read : NumberedData
data_read = record {
  group = codes "G";
  node = codes "N";
  subject = said.NodeData;
  number = 0;
  kind = Other (Some 7);
  topic = data_topic;
  payload = record {
    timestamp = Some 7;
    metrics = (record { name = None; alias = Some 1; timestamp = Some 7; datatype = None; historical = None; transient = None; null = None; value = Some (Int 8) }) ∷ [];
    seq = Some 0;
  };
}

pub a_birth_is_read : Says birth_bytes (said.Published None (said.Message birth_read))
unfolding meaning.content_at reading.payload_at reading.metric_at reading.each_item reading.text_at fields.items_of fields.items_within fields.field_at fields.varint_at fields.groups_at fields.value_at fields.some_at is_utf8 chars encode
a_birth_is_read = record { packet = packet.Publish false 0 false birth_topic None birth_text; spelled = birth_spelled; is = refl }

pub data_is_read : Says data_bytes (said.Published None (said.Message data_read))
unfolding meaning.content_at reading.payload_at reading.metric_at reading.each_item reading.text_at fields.items_of fields.items_within fields.field_at fields.varint_at fields.groups_at fields.value_at fields.some_at is_utf8 chars encode
data_is_read = record { packet = packet.Publish false 0 false data_topic None data_text; spelled = data_spelled; is = refl }

pub a_will_is_read : Says death_bytes (said.Published (Some 9) (said.Death (codes "G") (codes "N") 255))
unfolding meaning.content_at reading.payload_at reading.metric_at reading.each_item reading.text_at fields.items_of fields.items_within fields.field_at fields.varint_at fields.groups_at fields.value_at fields.some_at is_utf8 chars encode
a_will_is_read = record { packet = packet.Publish false 1 false death_topic (Some 9) death_text; spelled = death_spelled; is = refl }

-- ---- and it is the message of its position, and the call for it

-- an NBIRTH of session 0 at 6, and data at 7
abbrev first : edge.Message
first = record {
  birth = 0;
  session = 0;
  draft = record { verb = verb.Birth; device = None; stamp = 6; metrics = birth_read.payload.metrics };
}

abbrev second : edge.Message
second = record {
  birth = 0;
  session = 0;
  draft = record { verb = verb.Data; device = None; stamp = 7; metrics = data_read.payload.metrics };
}

pub these_are_published : messages RunsOn ≡ first ∷ second ∷ []
unfolding packets.spelling packets.body packets.shortest packets.has_bad_text packets.has_bad_body packets.is_qos_two payload.spelling payload.metric_spelling wire.varint wire.groups_of wire.bytes_field
these_are_published = refl

pub the_same_where_numbers_restart : messages Restarts ≡ first ∷ second ∷ []
unfolding packets.spelling packets.body packets.shortest packets.has_bad_text packets.has_bad_body packets.is_qos_two payload.spelling payload.metric_spelling wire.varint wire.groups_of wire.bytes_field
the_same_where_numbers_restart = refl

pub the_birth_is_position_0 : IsMessageAt (row RunsOn) (messages RunsOn) 0 first birth_read
the_birth_is_position_0 =
    subst (λ (ms : List edge.Message). IsMessageAt (row RunsOn) ms 0 first birth_read) (sym these_are_published)
    (record { there = refl; group = refl; node = refl; subject = refl; topic = refl; payload = refl; call = λ wait width now. refl })

pub the_data_are_position_1 : IsMessageAt (row RunsOn) (messages RunsOn) 1 second data_read
the_data_are_position_1 =
    subst (λ (ms : List edge.Message). IsMessageAt (row RunsOn) ms 1 second data_read) (sym these_are_published)
    (record { there = refl; group = refl; node = refl; subject = refl; topic = refl; payload = refl; call = λ wait width now. refl })

-- the bytes spell the packets of these messages under their numbers
pub the_bytes_are_theirs : Spells birth_bytes (wire_of (row RunsOn).config 255 first.draft) × Spells data_bytes (wire_of (row RunsOn).config 0 second.draft)
unfolding payload.spelling payload.metric_spelling wire.varint wire.groups_of wire.bytes_field
the_bytes_are_theirs = (birth_spelled, data_spelled)

-- numbers that restart begin with 0
abbrev CallsFromZero : List edge.Message → Type 0
CallsFromZero published =
    ((wait width now : ℕ) → call_of (host_setting (row Restarts) published wait width) (MessageComes 0 now) ≡ call.Hand 0 (Birth 6 255) now)
    × ((wait width now : ℕ) → call_of (host_setting (row Restarts) published wait width) (MessageComes 1 now) ≡ call.Hand 1 (Other (Some 7)) now)

pub restarting_numbers : CallsFromZero (messages Restarts)
restarting_numbers = subst CallsFromZero (sym the_same_where_numbers_restart) (λ wait width now. refl, λ wait width now. refl)

-- the will's text is that of session 0, opened at 5
pub the_will_is_of_session_0 : IsDeathOf (row RunsOn) 0 5 false 1 false (Some 9) death_bytes × ((wait width now : ℕ) → call_of (host_setting (row RunsOn) (messages RunsOn) wait width) (DeathComes 0 now) ≡ call.Death 255)
unfolding payload.spelling payload.metric_spelling wire.varint wire.groups_of wire.bytes_field
the_will_is_of_session_0 = (death_spelled, λ wait width now. refl)
