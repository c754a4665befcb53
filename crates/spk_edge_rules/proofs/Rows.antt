-- What the definitions give in runs that are worked out by hand, byte by byte.
use Rattle.std.proofs.Common.{◌≡◌, ℕ, Bool, true, false, List, [], ◌∷◌, ◌^◌, map, replicate, Option, Some, None, Result, Ok, Err, refl, pos, codes}
use Rattle.spk_packets.specs.Message.{PubAck}
use Rattle.spk_packets.specs.Spelling as packet
use Rattle.spk_payload.specs.Spelling as payload
use Rattle.std.specs.Prelude.{◌==◌, nat_le}
use Rattle.std.specs.Str.{is_utf8, chars}
use lib.Utf8.{encode}
use Rattle.serde_json.proofs.OnLiterals.{serde_json_on_literals}
use Rattle.spk_protobuf.specs.Spelling as wire
use Rattle.spk_protobuf.specs.Reading as fields
use Rattle.spk_payload.specs.Reading as reading
use Rattle.spk_payload.specs.Typing.{Typed, Signed, Truth, Binary32, Binary64}
use Rattle.spk_payload.specs.declared.values.Values.TheVariants as choice
use Rattle.spk_device.specs.Book.{Book}
use Rattle.spk_device.specs.declared.fault.Refusal.TheVariants.{WrongKind, NoSuch}
use Rattle.spk_store.specs.Calls.{DropFront}
use Rattle.spk_device.specs.declared.owner.Owner.{Owner}
use Rattle.spk_device.specs.declared.owner.Owner.TheVariants.{Node, Device}
use Rattle.spk_sequence.specs.NodeRecord.{RunsOn, Restarts}
use Rattle.spk_edge_rules.specs.declared.fault.EdgeFault.{EdgeFault}
use Rattle.spk_edge_rules.specs.declared.fault.EdgeFault.TheVariants as fault
use Rattle.spk_edge_rules.specs.Answers.{Answer}
use Rattle.spk_edge_rules.specs.Config.{Config, Setup}
use Rattle.spk_edge_rules.specs.History.{front_run, longest}
use Rattle.spk_edge_rules.specs.Inputs.{Input, Act, ChangeData, Open, Accepted, Change, Changes, Turn, Command, State, Drain, Stop, Cut}
use Rattle.spk_edge_rules.specs.Rules.{Asked, acked, draining, leaving}
use Rattle.spk_edge_rules.specs.Step.{answer_at, record_at, standing_of}
use Rattle.spk_edge_rules.specs.Run.{kept_of, record_of, right_at, run_of}

-- what is sent, as bytes
unfoldable pub spelled_answer : Result Answer EdgeFault → Result (List (List ℕ)) EdgeFault
unfolding packet.spelling
spelled_answer (Ok answer) = Ok (map packet.spelling answer.packets)
spelled_answer (Err fault) = Err fault

abbrev t_book : ℕ → Book
t_book n = record { devices = []; gauges = (record { owner = Node; name = codes "t"; datatype = 3; value = Some (Signed (pos n)) }) ∷ []; values = choice.Whole }

abbrev at_moment : ℕ → Act → Input
at_moment now act = record { now = now; ack = None; act = act }

-- ---- group G, node N, keep alive 60, no primary host, a metric `t` of Int32 with the value 7

abbrev alone : Setup
alone = record {
  config = record { group = codes "G"; node = codes "N"; primary = None; keep = 60; numbering = RunsOn };
  capacity = 3;
  seq = 0;
  bd = 0;
  stamp = None;
  book = t_book 7;
}

-- the packets' bytes, by the data and by the run
abbrev Gives : Setup → List Input → Input → Result (List (List ℕ)) EdgeFault → Type 0
Gives s is i bytes =
    (spelled_answer (answer_at s.config (standing_of s is) i) ≡ bytes) × (spelled_answer (right_at s (run_of s is) i) ≡ bytes)

pub opens_with_its_will : Gives alone [] (at_moment 5 Open) (Ok ((16 ∷ 52 ∷ 0 ∷ 4 ∷ 77 ∷ 81 ∷ 84 ∷ 84 ∷ 4 ∷ 14 ∷ 0 ∷ 60 ∷ 0 ∷ 3 ∷ 71 ∷ 47 ∷ 78 ∷ 0 ∷ 18 ∷ 115 ∷ 112 ∷ 66 ∷ 118 ∷ 49 ∷ 46 ∷ 48 ∷ 47 ∷ 71 ∷ 47 ∷ 78 ∷ 68 ∷ 69 ∷ 65 ∷ 84 ∷ 72 ∷ 47 ∷ 78 ∷ 0 ∷ 15 ∷ 8 ∷ 5 ∷ 18 ∷ 11 ∷ 10 ∷ 5 ∷ 98 ∷ 100 ∷ 83 ∷ 101 ∷ 113 ∷ 32 ∷ 4 ∷ 88 ∷ 0 ∷ []) ∷ []))
unfolding packet.spelling packet.body packet.shortest packet.has_bad_text packet.has_bad_body packet.is_qos_two payload.spelling payload.metric_spelling wire.varint wire.groups_of wire.bytes_field spelled_answer
opens_with_its_will = (refl, refl)

abbrev opened : List Input
opened = at_moment 5 Open ∷ []

pub opens_once : Gives alone opened (at_moment 6 Open) (Err fault.WrongPhase)
unfolding packet.spelling packet.body packet.shortest packet.has_bad_text packet.has_bad_body packet.is_qos_two payload.spelling payload.metric_spelling wire.varint wire.groups_of wire.bytes_field spelled_answer
opens_once = (refl, refl)

pub bears_when_accepted : Gives alone opened (at_moment 6 Accepted) (Ok ((130 ∷ 42 ∷ 0 ∷ 1 ∷ 0 ∷ 16 ∷ 115 ∷ 112 ∷ 66 ∷ 118 ∷ 49 ∷ 46 ∷ 48 ∷ 47 ∷ 71 ∷ 47 ∷ 78 ∷ 67 ∷ 77 ∷ 68 ∷ 47 ∷ 78 ∷ 1 ∷ 0 ∷ 18 ∷ 115 ∷ 112 ∷ 66 ∷ 118 ∷ 49 ∷ 46 ∷ 48 ∷ 47 ∷ 71 ∷ 47 ∷ 68 ∷ 67 ∷ 77 ∷ 68 ∷ 47 ∷ 78 ∷ 47 ∷ 43 ∷ 1 ∷ []) ∷ (48 ∷ 82 ∷ 0 ∷ 18 ∷ 115 ∷ 112 ∷ 66 ∷ 118 ∷ 49 ∷ 46 ∷ 48 ∷ 47 ∷ 71 ∷ 47 ∷ 78 ∷ 66 ∷ 73 ∷ 82 ∷ 84 ∷ 72 ∷ 47 ∷ 78 ∷ 8 ∷ 6 ∷ 18 ∷ 13 ∷ 10 ∷ 5 ∷ 98 ∷ 100 ∷ 83 ∷ 101 ∷ 113 ∷ 24 ∷ 6 ∷ 32 ∷ 4 ∷ 88 ∷ 0 ∷ 18 ∷ 28 ∷ 10 ∷ 20 ∷ 78 ∷ 111 ∷ 100 ∷ 101 ∷ 32 ∷ 67 ∷ 111 ∷ 110 ∷ 116 ∷ 114 ∷ 111 ∷ 108 ∷ 47 ∷ 82 ∷ 101 ∷ 98 ∷ 105 ∷ 114 ∷ 116 ∷ 104 ∷ 24 ∷ 6 ∷ 32 ∷ 11 ∷ 112 ∷ 0 ∷ 18 ∷ 11 ∷ 10 ∷ 1 ∷ 116 ∷ 16 ∷ 1 ∷ 24 ∷ 6 ∷ 32 ∷ 3 ∷ 80 ∷ 7 ∷ 24 ∷ 0 ∷ []) ∷ []))
unfolding packet.spelling packet.body packet.shortest packet.has_bad_text packet.has_bad_body packet.is_qos_two payload.spelling payload.metric_spelling wire.varint wire.groups_of wire.bytes_field spelled_answer
bears_when_accepted = (refl, refl)

abbrev accepted : List Input
accepted = at_moment 6 Accepted ∷ opened

pub tells_a_change : Gives alone accepted (at_moment 7 (Change 1 (Some (Signed (pos 8))))) (Ok ((48 ∷ 31 ∷ 0 ∷ 17 ∷ 115 ∷ 112 ∷ 66 ∷ 118 ∷ 49 ∷ 46 ∷ 48 ∷ 47 ∷ 71 ∷ 47 ∷ 78 ∷ 68 ∷ 65 ∷ 84 ∷ 65 ∷ 47 ∷ 78 ∷ 8 ∷ 7 ∷ 18 ∷ 6 ∷ 16 ∷ 1 ∷ 24 ∷ 7 ∷ 80 ∷ 8 ∷ 24 ∷ 1 ∷ []) ∷ []))
unfolding packet.spelling packet.body packet.shortest packet.has_bad_text packet.has_bad_body packet.is_qos_two payload.spelling payload.metric_spelling wire.varint wire.groups_of wire.bytes_field spelled_answer
tells_a_change = (refl, refl)

abbrev changed : List Input
changed = at_moment 7 (Change 1 (Some (Signed (pos 8)))) ∷ accepted

pub same_value_is_silent : Gives alone changed (at_moment 7 (Change 1 (Some (Signed (pos 8))))) (Ok [])
unfolding packet.spelling packet.body packet.shortest packet.has_bad_text packet.has_bad_body packet.is_qos_two payload.spelling payload.metric_spelling wire.varint wire.groups_of wire.bytes_field spelled_answer
same_value_is_silent = (refl, refl)

abbrev rebirth_command : Act
rebirth_command = Command (codes "spBv1.0/G/NCMD/N") (8 ∷ 9 ∷ 18 ∷ 28 ∷ 10 ∷ 20 ∷ 78 ∷ 111 ∷ 100 ∷ 101 ∷ 32 ∷ 67 ∷ 111 ∷ 110 ∷ 116 ∷ 114 ∷ 111 ∷ 108 ∷ 47 ∷ 82 ∷ 101 ∷ 98 ∷ 105 ∷ 114 ∷ 116 ∷ 104 ∷ 24 ∷ 9 ∷ 32 ∷ 11 ∷ 112 ∷ 1 ∷ [])

pub bears_again : Gives alone changed (at_moment 7 rebirth_command) (Ok ((48 ∷ 82 ∷ 0 ∷ 18 ∷ 115 ∷ 112 ∷ 66 ∷ 118 ∷ 49 ∷ 46 ∷ 48 ∷ 47 ∷ 71 ∷ 47 ∷ 78 ∷ 66 ∷ 73 ∷ 82 ∷ 84 ∷ 72 ∷ 47 ∷ 78 ∷ 8 ∷ 8 ∷ 18 ∷ 13 ∷ 10 ∷ 5 ∷ 98 ∷ 100 ∷ 83 ∷ 101 ∷ 113 ∷ 24 ∷ 8 ∷ 32 ∷ 4 ∷ 88 ∷ 0 ∷ 18 ∷ 28 ∷ 10 ∷ 20 ∷ 78 ∷ 111 ∷ 100 ∷ 101 ∷ 32 ∷ 67 ∷ 111 ∷ 110 ∷ 116 ∷ 114 ∷ 111 ∷ 108 ∷ 47 ∷ 82 ∷ 101 ∷ 98 ∷ 105 ∷ 114 ∷ 116 ∷ 104 ∷ 24 ∷ 8 ∷ 32 ∷ 11 ∷ 112 ∷ 0 ∷ 18 ∷ 11 ∷ 10 ∷ 1 ∷ 116 ∷ 16 ∷ 1 ∷ 24 ∷ 8 ∷ 32 ∷ 3 ∷ 80 ∷ 8 ∷ 24 ∷ 2 ∷ []) ∷ []))
unfolding packet.spelling packet.body packet.shortest packet.has_bad_text packet.has_bad_body packet.is_qos_two payload.spelling payload.metric_spelling wire.varint wire.groups_of wire.bytes_field spelled_answer reading.payload_at reading.metric_at reading.each_item reading.text_at fields.items_of fields.items_within fields.field_at fields.varint_at fields.groups_at fields.value_at fields.some_at is_utf8 chars encode
bears_again = (refl, refl)

-- the acknowledgement stands before all else
pub acknowledges_first : Gives alone changed (record { now = 7; ack = Some 7; act = rebirth_command }) (Ok ((64 ∷ 2 ∷ 0 ∷ 7 ∷ []) ∷ (48 ∷ 82 ∷ 0 ∷ 18 ∷ 115 ∷ 112 ∷ 66 ∷ 118 ∷ 49 ∷ 46 ∷ 48 ∷ 47 ∷ 71 ∷ 47 ∷ 78 ∷ 66 ∷ 73 ∷ 82 ∷ 84 ∷ 72 ∷ 47 ∷ 78 ∷ 8 ∷ 8 ∷ 18 ∷ 13 ∷ 10 ∷ 5 ∷ 98 ∷ 100 ∷ 83 ∷ 101 ∷ 113 ∷ 24 ∷ 8 ∷ 32 ∷ 4 ∷ 88 ∷ 0 ∷ 18 ∷ 28 ∷ 10 ∷ 20 ∷ 78 ∷ 111 ∷ 100 ∷ 101 ∷ 32 ∷ 67 ∷ 111 ∷ 110 ∷ 116 ∷ 114 ∷ 111 ∷ 108 ∷ 47 ∷ 82 ∷ 101 ∷ 98 ∷ 105 ∷ 114 ∷ 116 ∷ 104 ∷ 24 ∷ 8 ∷ 32 ∷ 11 ∷ 112 ∷ 0 ∷ 18 ∷ 11 ∷ 10 ∷ 1 ∷ 116 ∷ 16 ∷ 1 ∷ 24 ∷ 8 ∷ 32 ∷ 3 ∷ 80 ∷ 8 ∷ 24 ∷ 2 ∷ []) ∷ []))
unfolding packet.spelling packet.body packet.shortest packet.has_bad_text packet.has_bad_body packet.is_qos_two payload.spelling payload.metric_spelling wire.varint wire.groups_of wire.bytes_field spelled_answer reading.payload_at reading.metric_at reading.each_item reading.text_at fields.items_of fields.items_within fields.field_at fields.varint_at fields.groups_at fields.value_at fields.some_at is_utf8 chars encode
acknowledges_first = (refl, refl)

abbrev borne_again : List Input
borne_again = at_moment 7 rebirth_command ∷ changed

-- cut after that, the next number, bdSeq and stamp are these, and there is nothing to stop
pub goes_on_with : (record_at alone.config (standing_of alone (at_moment 0 Cut ∷ borne_again)) ≡ record { seq = 3; bd = 1; stamp = Some 8 })
    × (record_of alone (run_of alone (at_moment 0 Cut ∷ borne_again)) ≡ record { seq = 3; bd = 1; stamp = Some 8 })
    × Gives alone (at_moment 0 Cut ∷ borne_again) (at_moment 9 Stop) (Err fault.WrongPhase)
unfolding packet.spelling packet.body packet.shortest packet.has_bad_text packet.has_bad_body packet.is_qos_two payload.spelling payload.metric_spelling wire.varint wire.groups_of wire.bytes_field spelled_answer reading.payload_at reading.metric_at reading.each_item reading.text_at fields.items_of fields.items_within fields.field_at fields.varint_at fields.groups_at fields.value_at fields.some_at is_utf8 chars encode
goes_on_with = (refl, refl, (refl, refl))

-- ---- the same with a primary host H, and a store of three: `t` begins with 0

abbrev followed : Setup
followed = record {
  config = record { group = codes "G"; node = codes "N"; primary = Some (codes "H"); keep = 60; numbering = RunsOn };
  capacity = 3;
  seq = 0;
  bd = 0;
  stamp = None;
  book = t_book 0;
}

abbrev set_to : ℕ → ℕ → Input
set_to now n = at_moment now (Change 1 (Some (Signed (pos n))))

abbrev joined : List Input
joined = at_moment 2 Accepted ∷ at_moment 1 Open ∷ []

pub waits_for_its_host : Gives followed (at_moment 1 Open ∷ []) (at_moment 2 Accepted) (Ok ((130 ∷ 60 ∷ 0 ∷ 1 ∷ 0 ∷ 16 ∷ 115 ∷ 112 ∷ 66 ∷ 118 ∷ 49 ∷ 46 ∷ 48 ∷ 47 ∷ 71 ∷ 47 ∷ 78 ∷ 67 ∷ 77 ∷ 68 ∷ 47 ∷ 78 ∷ 1 ∷ 0 ∷ 18 ∷ 115 ∷ 112 ∷ 66 ∷ 118 ∷ 49 ∷ 46 ∷ 48 ∷ 47 ∷ 71 ∷ 47 ∷ 68 ∷ 67 ∷ 77 ∷ 68 ∷ 47 ∷ 78 ∷ 47 ∷ 43 ∷ 1 ∷ 0 ∷ 15 ∷ 115 ∷ 112 ∷ 66 ∷ 118 ∷ 49 ∷ 46 ∷ 48 ∷ 47 ∷ 83 ∷ 84 ∷ 65 ∷ 84 ∷ 69 ∷ 47 ∷ 72 ∷ 1 ∷ []) ∷ []))
unfolding packet.spelling packet.body packet.shortest packet.has_bad_text packet.has_bad_body packet.is_qos_two payload.spelling payload.metric_spelling wire.varint wire.groups_of wire.bytes_field spelled_answer
waits_for_its_host = (refl, refl)

abbrev kept_five : List Input
kept_five = set_to 7 5 ∷ set_to 6 4 ∷ set_to 5 3 ∷ set_to 4 2 ∷ set_to 3 1 ∷ joined

pub keeps_a_change : Gives followed (set_to 6 4 ∷ set_to 5 3 ∷ set_to 4 2 ∷ set_to 3 1 ∷ joined) (set_to 7 5) (Ok [])
unfolding packet.spelling packet.body packet.shortest packet.has_bad_text packet.has_bad_body packet.is_qos_two payload.spelling payload.metric_spelling wire.varint wire.groups_of wire.bytes_field spelled_answer
keeps_a_change = (refl, refl)

abbrev online_1 : Input
online_1 = at_moment 8 (State (codes "{\"online\":true,\"timestamp\":1}"))

pub bears_when_its_host_is_online : Gives followed kept_five online_1 (Ok ((48 ∷ 82 ∷ 0 ∷ 18 ∷ 115 ∷ 112 ∷ 66 ∷ 118 ∷ 49 ∷ 46 ∷ 48 ∷ 47 ∷ 71 ∷ 47 ∷ 78 ∷ 66 ∷ 73 ∷ 82 ∷ 84 ∷ 72 ∷ 47 ∷ 78 ∷ 8 ∷ 8 ∷ 18 ∷ 13 ∷ 10 ∷ 5 ∷ 98 ∷ 100 ∷ 83 ∷ 101 ∷ 113 ∷ 24 ∷ 8 ∷ 32 ∷ 4 ∷ 88 ∷ 0 ∷ 18 ∷ 28 ∷ 10 ∷ 20 ∷ 78 ∷ 111 ∷ 100 ∷ 101 ∷ 32 ∷ 67 ∷ 111 ∷ 110 ∷ 116 ∷ 114 ∷ 111 ∷ 108 ∷ 47 ∷ 82 ∷ 101 ∷ 98 ∷ 105 ∷ 114 ∷ 116 ∷ 104 ∷ 24 ∷ 8 ∷ 32 ∷ 11 ∷ 112 ∷ 0 ∷ 18 ∷ 11 ∷ 10 ∷ 1 ∷ 116 ∷ 16 ∷ 1 ∷ 24 ∷ 8 ∷ 32 ∷ 3 ∷ 80 ∷ 5 ∷ 24 ∷ 0 ∷ []) ∷ []))
unfolding packet.spelling packet.body packet.shortest packet.has_bad_text packet.has_bad_body packet.is_qos_two payload.spelling payload.metric_spelling wire.varint wire.groups_of wire.bytes_field spelled_answer serde_json_on_literals is_utf8 chars
bears_when_its_host_is_online = (refl, refl)

abbrev live_again : List Input
live_again = set_to 9 6 ∷ online_1 ∷ kept_five

pub drains : Gives followed live_again (at_moment 10 Drain) (Ok ((48 ∷ 53 ∷ 0 ∷ 17 ∷ 115 ∷ 112 ∷ 66 ∷ 118 ∷ 49 ∷ 46 ∷ 48 ∷ 47 ∷ 71 ∷ 47 ∷ 78 ∷ 68 ∷ 65 ∷ 84 ∷ 65 ∷ 47 ∷ 78 ∷ 8 ∷ 10 ∷ 18 ∷ 8 ∷ 16 ∷ 1 ∷ 24 ∷ 5 ∷ 40 ∷ 1 ∷ 80 ∷ 3 ∷ 18 ∷ 8 ∷ 16 ∷ 1 ∷ 24 ∷ 6 ∷ 40 ∷ 1 ∷ 80 ∷ 4 ∷ 18 ∷ 8 ∷ 16 ∷ 1 ∷ 24 ∷ 7 ∷ 40 ∷ 1 ∷ 80 ∷ 5 ∷ 24 ∷ 2 ∷ []) ∷ []))
unfolding packet.spelling packet.body packet.shortest packet.has_bad_text packet.has_bad_body packet.is_qos_two payload.spelling payload.metric_spelling wire.varint wire.groups_of wire.bytes_field spelled_answer serde_json_on_literals is_utf8 chars
drains = (refl, refl)

abbrev drained : List Input
drained = at_moment 10 Drain ∷ live_again

pub lost_two : ((standing_of followed drained).asked.store.lost ≡ 2) × ((kept_of followed (run_of followed drained)).lost ≡ 2)
unfolding packet.spelling packet.body packet.shortest packet.has_bad_text packet.has_bad_body packet.is_qos_two payload.spelling payload.metric_spelling wire.varint wire.groups_of wire.bytes_field spelled_answer serde_json_on_literals is_utf8 chars
lost_two = (refl, refl)

pub drained_is_silent : Gives followed drained (at_moment 11 Drain) (Ok [])
unfolding packet.spelling packet.body packet.shortest packet.has_bad_text packet.has_bad_body packet.is_qos_two payload.spelling payload.metric_spelling wire.varint wire.groups_of wire.bytes_field spelled_answer serde_json_on_literals is_utf8 chars
drained_is_silent = (refl, refl)

-- ---- the first node again, with numbers that restart at each NBIRTH: 0, 1, 2, 0, 1

abbrev restarting : Setup
restarting = record {
  config = record { group = codes "G"; node = codes "N"; primary = None; keep = 60; numbering = Restarts };
  capacity = 3;
  seq = 9;
  bd = 0;
  stamp = None;
  book = t_book 7;
}

abbrev third : List Input
third = set_to 8 9 ∷ set_to 7 8 ∷ accepted

pub begins_with_zero : Gives restarting opened (at_moment 6 Accepted) (Ok ((130 ∷ 42 ∷ 0 ∷ 1 ∷ 0 ∷ 16 ∷ 115 ∷ 112 ∷ 66 ∷ 118 ∷ 49 ∷ 46 ∷ 48 ∷ 47 ∷ 71 ∷ 47 ∷ 78 ∷ 67 ∷ 77 ∷ 68 ∷ 47 ∷ 78 ∷ 1 ∷ 0 ∷ 18 ∷ 115 ∷ 112 ∷ 66 ∷ 118 ∷ 49 ∷ 46 ∷ 48 ∷ 47 ∷ 71 ∷ 47 ∷ 68 ∷ 67 ∷ 77 ∷ 68 ∷ 47 ∷ 78 ∷ 47 ∷ 43 ∷ 1 ∷ []) ∷ (48 ∷ 82 ∷ 0 ∷ 18 ∷ 115 ∷ 112 ∷ 66 ∷ 118 ∷ 49 ∷ 46 ∷ 48 ∷ 47 ∷ 71 ∷ 47 ∷ 78 ∷ 66 ∷ 73 ∷ 82 ∷ 84 ∷ 72 ∷ 47 ∷ 78 ∷ 8 ∷ 6 ∷ 18 ∷ 13 ∷ 10 ∷ 5 ∷ 98 ∷ 100 ∷ 83 ∷ 101 ∷ 113 ∷ 24 ∷ 6 ∷ 32 ∷ 4 ∷ 88 ∷ 0 ∷ 18 ∷ 28 ∷ 10 ∷ 20 ∷ 78 ∷ 111 ∷ 100 ∷ 101 ∷ 32 ∷ 67 ∷ 111 ∷ 110 ∷ 116 ∷ 114 ∷ 111 ∷ 108 ∷ 47 ∷ 82 ∷ 101 ∷ 98 ∷ 105 ∷ 114 ∷ 116 ∷ 104 ∷ 24 ∷ 6 ∷ 32 ∷ 11 ∷ 112 ∷ 0 ∷ 18 ∷ 11 ∷ 10 ∷ 1 ∷ 116 ∷ 16 ∷ 1 ∷ 24 ∷ 6 ∷ 32 ∷ 3 ∷ 80 ∷ 7 ∷ 24 ∷ 0 ∷ []) ∷ []))
    × Gives restarting (set_to 7 8 ∷ accepted) (set_to 8 9) (Ok ((48 ∷ 31 ∷ 0 ∷ 17 ∷ 115 ∷ 112 ∷ 66 ∷ 118 ∷ 49 ∷ 46 ∷ 48 ∷ 47 ∷ 71 ∷ 47 ∷ 78 ∷ 68 ∷ 65 ∷ 84 ∷ 65 ∷ 47 ∷ 78 ∷ 8 ∷ 8 ∷ 18 ∷ 6 ∷ 16 ∷ 1 ∷ 24 ∷ 8 ∷ 80 ∷ 9 ∷ 24 ∷ 2 ∷ []) ∷ []))
unfolding packet.spelling packet.body packet.shortest packet.has_bad_text packet.has_bad_body packet.is_qos_two payload.spelling payload.metric_spelling wire.varint wire.groups_of wire.bytes_field spelled_answer
begins_with_zero = ((refl, refl), (refl, refl))

pub restarts_with_zero : Gives restarting third (at_moment 9 rebirth_command) (Ok ((48 ∷ 82 ∷ 0 ∷ 18 ∷ 115 ∷ 112 ∷ 66 ∷ 118 ∷ 49 ∷ 46 ∷ 48 ∷ 47 ∷ 71 ∷ 47 ∷ 78 ∷ 66 ∷ 73 ∷ 82 ∷ 84 ∷ 72 ∷ 47 ∷ 78 ∷ 8 ∷ 9 ∷ 18 ∷ 13 ∷ 10 ∷ 5 ∷ 98 ∷ 100 ∷ 83 ∷ 101 ∷ 113 ∷ 24 ∷ 9 ∷ 32 ∷ 4 ∷ 88 ∷ 0 ∷ 18 ∷ 28 ∷ 10 ∷ 20 ∷ 78 ∷ 111 ∷ 100 ∷ 101 ∷ 32 ∷ 67 ∷ 111 ∷ 110 ∷ 116 ∷ 114 ∷ 111 ∷ 108 ∷ 47 ∷ 82 ∷ 101 ∷ 98 ∷ 105 ∷ 114 ∷ 116 ∷ 104 ∷ 24 ∷ 9 ∷ 32 ∷ 11 ∷ 112 ∷ 0 ∷ 18 ∷ 11 ∷ 10 ∷ 1 ∷ 116 ∷ 16 ∷ 1 ∷ 24 ∷ 9 ∷ 32 ∷ 3 ∷ 80 ∷ 9 ∷ 24 ∷ 0 ∷ []) ∷ []))
    × Gives restarting (at_moment 9 rebirth_command ∷ third) (set_to 10 10) (Ok ((48 ∷ 31 ∷ 0 ∷ 17 ∷ 115 ∷ 112 ∷ 66 ∷ 118 ∷ 49 ∷ 46 ∷ 48 ∷ 47 ∷ 71 ∷ 47 ∷ 78 ∷ 68 ∷ 65 ∷ 84 ∷ 65 ∷ 47 ∷ 78 ∷ 8 ∷ 10 ∷ 18 ∷ 6 ∷ 16 ∷ 1 ∷ 24 ∷ 10 ∷ 80 ∷ 10 ∷ 24 ∷ 1 ∷ []) ∷ []))
    × (record_at restarting.config (standing_of restarting (set_to 10 10 ∷ at_moment 9 rebirth_command ∷ third)) ≡ record { seq = 0; bd = 1; stamp = Some 10 })
unfolding packet.spelling packet.body packet.shortest packet.has_bad_text packet.has_bad_body packet.is_qos_two payload.spelling payload.metric_spelling wire.varint wire.groups_of wire.bytes_field spelled_answer reading.payload_at reading.metric_at reading.each_item reading.text_at fields.items_of fields.items_within fields.field_at fields.varint_at fields.groups_at fields.value_at fields.some_at is_utf8 chars encode
restarts_with_zero = ((refl, refl), (refl, refl), refl)

-- ---- a device `D` with a Boolean `u` that has no value

abbrev with_device : Setup
with_device = record alone {
  book = record {
    devices = (record { name = codes "D"; up = false }) ∷ [];
    gauges = (record { owner = Node; name = codes "t"; datatype = 3; value = Some (Signed (pos 7)) })
        ∷ (record { owner = Device 0; name = codes "u"; datatype = 11; value = None }) ∷ [];
    values = choice.Whole;
  };
}

abbrev turn : ℕ → Bool → Input
turn now up = at_moment now (Turn (codes "D") up)

pub device_comes_up : Gives with_device accepted (turn 7 true) (Ok ((48 ∷ 39 ∷ 0 ∷ 20 ∷ 115 ∷ 112 ∷ 66 ∷ 118 ∷ 49 ∷ 46 ∷ 48 ∷ 47 ∷ 71 ∷ 47 ∷ 68 ∷ 66 ∷ 73 ∷ 82 ∷ 84 ∷ 72 ∷ 47 ∷ 78 ∷ 47 ∷ 68 ∷ 8 ∷ 7 ∷ 18 ∷ 11 ∷ 10 ∷ 1 ∷ 117 ∷ 16 ∷ 2 ∷ 24 ∷ 7 ∷ 32 ∷ 11 ∷ 56 ∷ 1 ∷ 24 ∷ 1 ∷ []) ∷ []))
    × Gives with_device (turn 7 true ∷ accepted) (turn 8 true) (Ok [])
    × Gives with_device (turn 7 true ∷ accepted) (turn 8 false) (Ok ((48 ∷ 26 ∷ 0 ∷ 20 ∷ 115 ∷ 112 ∷ 66 ∷ 118 ∷ 49 ∷ 46 ∷ 48 ∷ 47 ∷ 71 ∷ 47 ∷ 68 ∷ 68 ∷ 69 ∷ 65 ∷ 84 ∷ 72 ∷ 47 ∷ 78 ∷ 47 ∷ 68 ∷ 8 ∷ 8 ∷ 24 ∷ 2 ∷ []) ∷ []))
    × Gives with_device (turn 7 true ∷ accepted) (at_moment 9 rebirth_command)
    (Ok ((48 ∷ 82 ∷ 0 ∷ 18 ∷ 115 ∷ 112 ∷ 66 ∷ 118 ∷ 49 ∷ 46 ∷ 48 ∷ 47 ∷ 71 ∷ 47 ∷ 78 ∷ 66 ∷ 73 ∷ 82 ∷ 84 ∷ 72 ∷ 47 ∷ 78 ∷ 8 ∷ 9 ∷ 18 ∷ 13 ∷ 10 ∷ 5 ∷ 98 ∷ 100 ∷ 83 ∷ 101 ∷ 113 ∷ 24 ∷ 9 ∷ 32 ∷ 4 ∷ 88 ∷ 0 ∷ 18 ∷ 28 ∷ 10 ∷ 20 ∷ 78 ∷ 111 ∷ 100 ∷ 101 ∷ 32 ∷ 67 ∷ 111 ∷ 110 ∷ 116 ∷ 114 ∷ 111 ∷ 108 ∷ 47 ∷ 82 ∷ 101 ∷ 98 ∷ 105 ∷ 114 ∷ 116 ∷ 104 ∷ 24 ∷ 9 ∷ 32 ∷ 11 ∷ 112 ∷ 0 ∷ 18 ∷ 11 ∷ 10 ∷ 1 ∷ 116 ∷ 16 ∷ 1 ∷ 24 ∷ 9 ∷ 32 ∷ 3 ∷ 80 ∷ 7 ∷ 24 ∷ 2 ∷ []) ∷ (48 ∷ 39 ∷ 0 ∷ 20 ∷ 115 ∷ 112 ∷ 66 ∷ 118 ∷ 49 ∷ 46 ∷ 48 ∷ 47 ∷ 71 ∷ 47 ∷ 68 ∷ 66 ∷ 73 ∷ 82 ∷ 84 ∷ 72 ∷ 47 ∷ 78 ∷ 47 ∷ 68 ∷ 8 ∷ 9 ∷ 18 ∷ 11 ∷ 10 ∷ 1 ∷ 117 ∷ 16 ∷ 2 ∷ 24 ∷ 9 ∷ 32 ∷ 11 ∷ 56 ∷ 1 ∷ 24 ∷ 3 ∷ []) ∷ []))
unfolding packet.spelling packet.body packet.shortest packet.has_bad_text packet.has_bad_body packet.is_qos_two payload.spelling payload.metric_spelling wire.varint wire.groups_of wire.bytes_field spelled_answer reading.payload_at reading.metric_at reading.each_item reading.text_at fields.items_of fields.items_within fields.field_at fields.varint_at fields.groups_at fields.value_at fields.some_at is_utf8 chars encode
device_comes_up = ((refl, refl), (refl, refl), (refl, refl), (refl, refl))

-- a change of a device that is down only sets the value
pub down_device_is_silent : Gives with_device accepted (at_moment 7 (Change 2 (Some (Truth true)))) (Ok [])
    × Gives with_device accepted (at_moment 7 (Change 2 (Some (Signed (pos 1))))) (Err (fault.Device WrongKind))
    × Gives with_device accepted (at_moment 7 (Change 3 None)) (Err (fault.Device NoSuch))
unfolding packet.spelling packet.body packet.shortest packet.has_bad_text packet.has_bad_body packet.is_qos_two payload.spelling payload.metric_spelling wire.varint wire.groups_of wire.bytes_field spelled_answer
down_device_is_silent = ((refl, refl), (refl, refl), (refl, refl))

-- ---- several changes at once: 8, the same again, null, 9; one message says three of them, and the next one counts on from it

abbrev int_to : ℕ → ℕ → ℕ × Option Typed
int_to alias n = (alias, Some (Signed (pos n)))

abbrev at_once : ℕ → List (ℕ × Option Typed) → Input
at_once now changes = at_moment now (Changes changes)

abbrev four : List (ℕ × Option Typed)
four = int_to 1 8 ∷ int_to 1 8 ∷ (1, None) ∷ int_to 1 9 ∷ []

pub several_in_one_message : Gives alone accepted (at_once 7 four) (Ok ((48 ∷ 47 ∷ 0 ∷ 17 ∷ 115 ∷ 112 ∷ 66 ∷ 118 ∷ 49 ∷ 46 ∷ 48 ∷ 47 ∷ 71 ∷ 47 ∷ 78 ∷ 68 ∷ 65 ∷ 84 ∷ 65 ∷ 47 ∷ 78 ∷ 8 ∷ 7 ∷ 18 ∷ 6 ∷ 16 ∷ 1 ∷ 24 ∷ 7 ∷ 80 ∷ 8 ∷ 18 ∷ 6 ∷ 16 ∷ 1 ∷ 24 ∷ 7 ∷ 56 ∷ 1 ∷ 18 ∷ 6 ∷ 16 ∷ 1 ∷ 24 ∷ 7 ∷ 80 ∷ 9 ∷ 24 ∷ 1 ∷ []) ∷ []))
    × Gives alone (at_once 7 four ∷ accepted) (at_once 8 (int_to 1 9 ∷ int_to 1 9 ∷ [])) (Ok [])
    × Gives alone accepted (at_once 7 []) (Ok [])
    × (record_at alone.config (standing_of alone (at_once 7 four ∷ accepted)) ≡ record { seq = 2; bd = 1; stamp = Some 7 })
    × (record_of alone (run_of alone (at_once 7 four ∷ accepted)) ≡ record { seq = 2; bd = 1; stamp = Some 7 })
unfolding packet.spelling packet.body packet.shortest packet.has_bad_text packet.has_bad_body packet.is_qos_two payload.spelling payload.metric_spelling wire.varint wire.groups_of wire.bytes_field spelled_answer
several_in_one_message = ((refl, refl), (refl, refl), (refl, refl), refl, refl)

-- one that is refused refuses all, and its number isn't used; the first one refused says why
pub one_refused_refuses_all : Gives with_device accepted (at_once 7 (int_to 1 8 ∷ (1, Some (Truth true)) ∷ (3, None) ∷ [])) (Err (fault.Device WrongKind))
    × Gives with_device accepted (at_once 7 (int_to 1 8 ∷ (3, None) ∷ (1, Some (Truth true)) ∷ [])) (Err (fault.Device NoSuch))
    × Gives with_device accepted (at_once 7 (int_to 1 8 ∷ (2, None) ∷ (3, None) ∷ [])) (Err fault.TwoOwners)
    × Gives with_device accepted (at_once 7 (int_to 1 8 ∷ int_to 2 8 ∷ [])) (Err (fault.Device WrongKind))
    × Gives with_device opened (at_once 7 (int_to 1 8 ∷ [])) (Err fault.WrongPhase)
    × (record_at with_device.config (standing_of with_device (at_once 7 (int_to 1 8 ∷ (3, None) ∷ []) ∷ accepted)) ≡ record { seq = 1; bd = 1; stamp = Some 6 })
unfolding packet.spelling packet.body packet.shortest packet.has_bad_text packet.has_bad_body packet.is_qos_two payload.spelling payload.metric_spelling wire.varint wire.groups_of wire.bytes_field spelled_answer
one_refused_refuses_all = ((refl, refl), (refl, refl), (refl, refl), (refl, refl), (refl, refl), refl)

-- of a device that is down they only set values: behind its birth, which says the value, an equal one is silent
pub several_of_a_device : Gives with_device accepted (at_once 7 ((2, Some (Truth true)) ∷ [])) (Ok [])
    × Gives with_device (turn 7 true ∷ at_once 7 ((2, Some (Truth true)) ∷ []) ∷ accepted) (at_once 8 ((2, Some (Truth true)) ∷ [])) (Ok [])
    × Gives with_device (turn 7 true ∷ accepted) (at_once 8 ((2, None) ∷ (2, Some (Truth true)) ∷ [])) (Ok ((48 ∷ 33 ∷ 0 ∷ 19 ∷ 115 ∷ 112 ∷ 66 ∷ 118 ∷ 49 ∷ 46 ∷ 48 ∷ 47 ∷ 71 ∷ 47 ∷ 68 ∷ 68 ∷ 65 ∷ 84 ∷ 65 ∷ 47 ∷ 78 ∷ 47 ∷ 68 ∷ 8 ∷ 8 ∷ 18 ∷ 6 ∷ 16 ∷ 2 ∷ 24 ∷ 8 ∷ 112 ∷ 1 ∷ 24 ∷ 2 ∷ []) ∷ []))
unfolding packet.spelling packet.body packet.shortest packet.has_bad_text packet.has_bad_body packet.is_qos_two payload.spelling payload.metric_spelling wire.varint wire.groups_of wire.bytes_field spelled_answer
several_of_a_device = ((refl, refl), (refl, refl), (refl, refl))

-- ---- ends: the death at QoS 1 with identifier 2 and the moment of the opening, and DISCONNECT

abbrev farewell_bytes : List (List ℕ)
farewell_bytes = (50 ∷ 37 ∷ 0 ∷ 18 ∷ 115 ∷ 112 ∷ 66 ∷ 118 ∷ 49 ∷ 46 ∷ 48 ∷ 47 ∷ 71 ∷ 47 ∷ 78 ∷ 68 ∷ 69 ∷ 65 ∷ 84 ∷ 72 ∷ 47 ∷ 78 ∷ 0 ∷ 2 ∷ 8 ∷ 5 ∷ 18 ∷ 11 ∷ 10 ∷ 5 ∷ 98 ∷ 100 ∷ 83 ∷ 101 ∷ 113 ∷ 32 ∷ 4 ∷ 88 ∷ 0 ∷ []) ∷ (224 ∷ 0 ∷ []) ∷ []

pub stops_in_order : Gives alone changed (at_moment 9 Stop) (Ok farewell_bytes)
    × Gives alone opened (at_moment 9 Stop) (Err fault.WrongPhase)
    × Gives alone accepted (at_moment (2 ^ 63) Stop) (Err fault.ClockEnd)
unfolding packet.spelling packet.body packet.shortest packet.has_bad_text packet.has_bad_body packet.is_qos_two payload.spelling payload.metric_spelling wire.varint wire.groups_of wire.bytes_field spelled_answer
stops_in_order = ((refl, refl), (refl, refl), (refl, refl))

-- ---- drains, by the rules alone

abbrev a_change : Owner → ChangeData
a_change owner = record { owner = owner; alias = 1; value = None; time = 5 }

pub at_most_32_go_at_once : front_run (replicate 33 (a_change Node)) ≡ 32
at_most_32_go_at_once = refl

pub another_owner_waits : front_run (a_change Node ∷ a_change Node ∷ a_change (Device 0) ∷ a_change Node ∷ []) ≡ 2
another_owner_waits = refl

-- of a device that isn't up, what is dropped counts as lost, and nothing is sent
pub dropped_is_lost : (a : Asked) → ((draining alone.config 0 (record a { book = t_book 0 }) 5 (a_change (Device 0) ∷ a_change (Device 0) ∷ a_change Node ∷ [])).store ≡ Some (DropFront 2 true))
    × ((draining alone.config 0 (record a { book = t_book 0 }) 5 (a_change (Device 0) ∷ a_change (Device 0) ∷ a_change Node ∷ [])).drafts ≡ [])
dropped_is_lost a = (refl, refl)

-- what is sent doesn't
pub sent_is_not_lost : (a : Asked) → (draining alone.config 0 (record a { book = t_book 0; stamp = None }) 5 (a_change Node ∷ [])).store ≡ Some (DropFront 1 false)
unfolding packet.spelling packet.body packet.shortest packet.has_bad_text packet.has_bad_body packet.is_qos_two payload.spelling payload.metric_spelling wire.varint wire.groups_of wire.bytes_field
sent_is_not_lost a = refl

-- the greatest number of which a fact holds, and not the first one
pub longest_is_greatest : (longest (λ k. nat_le k 5) 32 ≡ 5) × (longest (λ k. nat_le k 5) 4 ≡ 4) × (longest (λ k. k == 3) 32 ≡ 3) × (longest (λ k. false) 32 ≡ 0)
longest_is_greatest = (refl, refl, refl, refl)

-- of a node whose topics hold U+0000 no message can be written, so its changes are lost one by one
abbrev unwritten : Config
unwritten = record alone.config { group = 0 ∷ [] }

pub first_is_lost : (a : Asked) → ((draining unwritten 0 (record a { book = t_book 0; stamp = None }) 5 (a_change Node ∷ a_change Node ∷ [])).store ≡ Some (DropFront 1 true))
    × ((draining unwritten 0 (record a { book = t_book 0; stamp = None }) 5 (a_change Node ∷ a_change Node ∷ [])).drafts ≡ [])
unfolding packet.spelling packet.body packet.shortest packet.has_bad_text packet.has_bad_body packet.is_qos_two payload.spelling payload.metric_spelling wire.varint wire.groups_of wire.bytes_field
first_is_lost a = (refl, refl)

-- the acknowledgement of a STATE stands before the death that it brings
pub acknowledges_before_the_death : (c : Config) (a : Asked) → (acked (Some 7) (leaving c a)).plain ≡ PubAck 7 ∷ (leaving c a).plain
acknowledges_before_the_death c a = refl

-- ---- a Float `f` with the value 1.5, which is 0x3fc00000 (IEEE 754 binary32) and stands with the least significant byte first. Zero of
-- the other sign is 0x80000000, and another value than 0.

abbrev floating : Setup
floating = record alone {
  book = record {
    devices = [];
    gauges = (record { owner = Node; name = codes "f"; datatype = 9; value = Some (Binary32 1069547520) }) ∷ [];
    values = choice.All;
  };
}

pub float_is_born_and_told : Gives floating opened (at_moment 6 Accepted) (Ok ((130 ∷ 42 ∷ 0 ∷ 1 ∷ 0 ∷ 16 ∷ 115 ∷ 112 ∷ 66 ∷ 118 ∷ 49 ∷ 46 ∷ 48 ∷ 47 ∷ 71 ∷ 47 ∷ 78 ∷ 67 ∷ 77 ∷ 68 ∷ 47 ∷ 78 ∷ 1 ∷ 0 ∷ 18 ∷ 115 ∷ 112 ∷ 66 ∷ 118 ∷ 49 ∷ 46 ∷ 48 ∷ 47 ∷ 71 ∷ 47 ∷ 68 ∷ 67 ∷ 77 ∷ 68 ∷ 47 ∷ 78 ∷ 47 ∷ 43 ∷ 1 ∷ []) ∷ (48 ∷ 85 ∷ 0 ∷ 18 ∷ 115 ∷ 112 ∷ 66 ∷ 118 ∷ 49 ∷ 46 ∷ 48 ∷ 47 ∷ 71 ∷ 47 ∷ 78 ∷ 66 ∷ 73 ∷ 82 ∷ 84 ∷ 72 ∷ 47 ∷ 78 ∷ 8 ∷ 6 ∷ 18 ∷ 13 ∷ 10 ∷ 5 ∷ 98 ∷ 100 ∷ 83 ∷ 101 ∷ 113 ∷ 24 ∷ 6 ∷ 32 ∷ 4 ∷ 88 ∷ 0 ∷ 18 ∷ 28 ∷ 10 ∷ 20 ∷ 78 ∷ 111 ∷ 100 ∷ 101 ∷ 32 ∷ 67 ∷ 111 ∷ 110 ∷ 116 ∷ 114 ∷ 111 ∷ 108 ∷ 47 ∷ 82 ∷ 101 ∷ 98 ∷ 105 ∷ 114 ∷ 116 ∷ 104 ∷ 24 ∷ 6 ∷ 32 ∷ 11 ∷ 112 ∷ 0 ∷ 18 ∷ 14 ∷ 10 ∷ 1 ∷ 102 ∷ 16 ∷ 1 ∷ 24 ∷ 6 ∷ 32 ∷ 9 ∷ 101 ∷ 0 ∷ 0 ∷ 192 ∷ 63 ∷ 24 ∷ 0 ∷ []) ∷ []))
    × Gives floating accepted (at_moment 7 (Change 1 (Some (Binary32 1069547520)))) (Ok [])
    × Gives floating (at_moment 7 (Change 1 (Some (Binary32 0))) ∷ accepted) (at_moment 7 (Change 1 (Some (Binary32 0)))) (Ok [])
    × Gives floating accepted (at_moment 7 (Change 1 (Some (Binary32 2147483648)))) (Ok ((48 ∷ 34 ∷ 0 ∷ 17 ∷ 115 ∷ 112 ∷ 66 ∷ 118 ∷ 49 ∷ 46 ∷ 48 ∷ 47 ∷ 71 ∷ 47 ∷ 78 ∷ 68 ∷ 65 ∷ 84 ∷ 65 ∷ 47 ∷ 78 ∷ 8 ∷ 7 ∷ 18 ∷ 9 ∷ 16 ∷ 1 ∷ 24 ∷ 7 ∷ 101 ∷ 0 ∷ 0 ∷ 0 ∷ 128 ∷ 24 ∷ 1 ∷ []) ∷ []))
    × Gives floating accepted (at_moment 7 (Change 1 (Some (Binary64 0)))) (Err (fault.Device WrongKind))
unfolding packet.spelling packet.body packet.shortest packet.has_bad_text packet.has_bad_body packet.is_qos_two payload.spelling payload.metric_spelling wire.varint wire.groups_of wire.bytes_field spelled_answer
float_is_born_and_told = ((refl, refl), (refl, refl), (refl, refl), (refl, refl), (refl, refl))
