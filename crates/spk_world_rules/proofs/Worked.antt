-- Worlds worked out by hand: what is refused, answered and consumed, so that no law of worlds is empty.
use Rattle.std.proofs.Common.{◌≡◌, ℕ, true, List, [], ◌∷◌, map, reverse, Option, Some, None, refl, ◌∙◌, ap, pos, codes, cond, false, ◌+◌}
use Rattle.std.specs.List.{range_with_len}
use Rattle.std.specs.Fmt.{digits}
use Rattle.std.specs.Str.{is_utf8, chars}
use lib.Utf8.{encode}
use Rattle.spk_protobuf.specs.Reading as fields
use Rattle.spk_protobuf.specs.Spelling as wire
use Rattle.spk_payload.specs.declared.values.Values.TheVariants as choice
use Rattle.spk_payload.specs.Reading as reading
use Rattle.spk_payload.specs.Spelling as payload
use Rattle.spk_payload.specs.Typing.{Signed}
use Rattle.spk_packets.specs.Spelling as packets
use Rattle.spk_device.specs.declared.owner.Owner.TheVariants.{Node}
use Rattle.spk_sequence.specs.declared.answer.Match.TheVariants.{Ignored, Matched}
use Rattle.spk_sequence.specs.declared.answer.Step.TheVariants.{NotLive, Old, OldBirth}
use Rattle.spk_sequence.specs.Calls.{Reply, Stepped, Ticked, Told}
use Rattle.spk_sequence.specs.HostRecord as order
use Rattle.spk_sequence.specs.HostRecord.{MessageComes}
use Rattle.spk_sequence.specs.NodeRecord.{NodeRecord, Numbering, RunsOn, Restarts, Setting}
use Rattle.spk_edge_rules.specs.Inputs as edge
use Rattle.spk_edge_rules.specs.Run.{outline}
use Rattle.spk_world_rules.specs.Answers.{Added, Gaps, answer_of, is_gap}
use Rattle.spk_world_rules.specs.Claims.{event_of}
use Rattle.spk_world_rules.specs.Events.{AtNode, Deed, Death, Hand, Renew, Tick, World}
use Rattle.spk_world_rules.specs.Files as file
use Rattle.spk_world_rules.specs.Files.{deed_of}
use Rattle.spk_world_rules.specs.Queries.{consumed_of, inputs_of, published_of, setting_of}
use Rattle.spk_world_rules.specs.Refusals.{NoSuch, NotPublished, OutsideWindow, OvertakesBirth, Refusal, TooFar, death_refusal, message_refusal, refusal_of}

-- Group G, node N, no primary host, a metric `t` of Int32 with the value 7; one host, wait 2000, width 64.
abbrev world : Numbering → World
world numbering = record {
  nodes = (record {
    config = record { group = codes "G"; node = codes "N"; primary = None; keep = 0; numbering = numbering };
    capacity = 3;
    seq = 0;
    bd = 0;
    stamp = None;
    book = record { devices = []; gauges = (record { owner = Node; name = codes "t"; datatype = 3; value = Some (Signed (pos 7)) }) ∷ []; values = choice.Whole };
  }) ∷ [];
  hosts = (record { wait = 2000; width = 64 }) ∷ [];
}

abbrev at_node : ℕ → edge.Act → Deed
at_node now act = AtNode 0 (record { now = now; ack = None; act = act })

abbrev opens_at : ℕ → Deed
opens_at now = at_node now edge.Open

abbrev accepted_at : ℕ → Deed
accepted_at now = at_node now edge.Accepted

abbrev set_to : ℕ → ℕ → Deed
set_to now n = at_node now (edge.Change 1 (Some (Signed (pos n))))

abbrev cut : Deed
cut = at_node 0 edge.Cut

-- NCMD with `Node Control/Rebirth` true
abbrev rebirth_at : ℕ → Deed
rebirth_at now = at_node now (edge.Command (codes "spBv1.0/G/NCMD/N") (8 ∷ 9 ∷ 18 ∷ 28 ∷ 10 ∷ 20 ∷ 78 ∷ 111 ∷ 100 ∷ 101 ∷ 32 ∷ 67 ∷ 111 ∷ 110 ∷ 116 ∷ 114 ∷ 111 ∷ 108 ∷ 47 ∷ 82 ∷ 101 ∷ 98 ∷ 105 ∷ 114 ∷ 116 ∷ 104 ∷ 24 ∷ 9 ∷ 32 ∷ 11 ∷ 112 ∷ 1 ∷ []))

-- ---- from what was published to what was consumed

abbrev with_record : World → List Deed → NodeRecord → Setting
with_record w done r = record (setting_of w done 0 0) { published = r }

abbrev IsPublished : World → List Deed → NodeRecord → Type 0
IsPublished w done r = outline (published_of w done 0) ≡ r

-- the positions consumed after all of this, oldest first
abbrev Consumes : World → List Deed → List ℕ → Type 0
Consumes w deeds ps = consumed_of w (reverse deeds) 0 0 ≡ ps

-- the answer to a thing that comes after all of this
abbrev Answers : World → List Deed → order.Input → Reply → Type 0
Answers w deeds input reply = (event_of w (reverse deeds) 0 0 input).reply ≡ reply

consumes : (w : World) (done : List Deed) (r : NodeRecord) (ps : List ℕ) → IsPublished w done r
    → order.consumed_of (order.record_of (with_record w done r) (inputs_of done 0 0)) ≡ ps → consumed_of w done 0 0 ≡ ps
consumes w done r ps is e = ap (λ (r : NodeRecord). order.consumed_of (order.record_of (with_record w done r) (inputs_of done 0 0))) is ∙ e

answers : (w : World) (done : List Deed) (r : NodeRecord) (input : order.Input) (reply : Reply) → IsPublished w done r
    → (order.done_at (with_record w done r) (order.record_of (with_record w done r) (inputs_of done 0 0)) (order.standing_of (with_record w done r) (inputs_of done 0 0)) input).reply ≡ reply
    → (event_of w done 0 0 input).reply ≡ reply
answers w done r input reply is e =
    ap (λ (r : NodeRecord). (order.done_at (with_record w done r) (order.record_of (with_record w done r) (inputs_of done 0 0)) (order.standing_of (with_record w done r) (inputs_of done 0 0)) input).reply) is ∙ e

refuses_hand : (numbering : Numbering) (done : List Deed) (r : NodeRecord) (p now : ℕ) (x : Option Refusal) → IsPublished (world numbering) done r
    → message_refusal (with_record (world numbering) done r) (order.record_of (with_record (world numbering) done r) (inputs_of done 0 0)) p ≡ x
    → refusal_of (world numbering) done (Hand 0 0 p now) ≡ x
refuses_hand numbering done r p now x is e =
    ap (λ (r : NodeRecord). message_refusal (with_record (world numbering) done r) (order.record_of (with_record (world numbering) done r) (inputs_of done 0 0)) p) is ∙ e

-- ---- the first worked world: an NBIRTH and an NDATA, and a third message that wasn't published

abbrev born : List Deed
born = opens_at 5 ∷ accepted_at 6 ∷ set_to 7 8 ∷ []

abbrev two : NodeRecord
two = (record { birth = 0; session = 0; stamp = 6 }) ∷ (record { birth = 0; session = 0; stamp = 7 }) ∷ []

two_published : IsPublished (world RunsOn) (reverse born) two
unfolding packets.spelling packets.body packets.shortest packets.has_bad_text packets.has_bad_body packets.is_qos_two payload.spelling payload.metric_spelling wire.varint wire.groups_of wire.bytes_field reading.payload_at reading.metric_at reading.each_item reading.text_at fields.items_of fields.items_within fields.field_at fields.varint_at fields.groups_at fields.value_at fields.some_at is_utf8 chars encode
two_published = refl

abbrev both_handed : List Deed
both_handed = opens_at 5 ∷ accepted_at 6 ∷ set_to 7 8 ∷ Hand 0 0 0 9 ∷ Hand 0 0 1 10 ∷ []

pub the_first_world : Consumes (world RunsOn) both_handed (0 ∷ 1 ∷ [])
the_first_world = consumes (world RunsOn) (reverse both_handed) two (0 ∷ 1 ∷ []) two_published refl

pub the_third_is_not_published : refusal_of (world RunsOn) (reverse both_handed) (Hand 0 0 2 11) ≡ Some NotPublished
the_third_is_not_published = refuses_hand RunsOn (reverse both_handed) two 2 11 (Some NotPublished) two_published refl

pub there_is_one_node_and_one_host : (refusal_of (world RunsOn) (reverse born) (Hand 0 1 0 9) ≡ Some NoSuch)
    × (refusal_of (world RunsOn) (reverse born) (Hand 1 0 0 9) ≡ Some NoSuch) × (refusal_of (world RunsOn) [] (Tick 1 9) ≡ Some NoSuch)
there_is_one_node_and_one_host = (refl, refl, refl)

-- a new session of the host begins with nothing: data alone aren't followed, and the NBIRTH is consumed again
abbrev renewed : List Deed
renewed = opens_at 5 ∷ accepted_at 6 ∷ set_to 7 8 ∷ Hand 0 0 0 9 ∷ Hand 0 0 1 10 ∷ Renew 0 11 ∷ []

pub a_second_session : Consumes (world RunsOn) renewed []
a_second_session = consumes (world RunsOn) (reverse renewed) two [] two_published refl

pub data_alone_are_not_followed : Answers (world RunsOn) renewed (MessageComes 1 12) (Stepped NotLive)
data_alone_are_not_followed = answers (world RunsOn) (reverse renewed) two (MessageComes 1 12) (Stepped NotLive) two_published refl

abbrev renewed_and_born : List Deed
renewed_and_born = opens_at 5 ∷ accepted_at 6 ∷ set_to 7 8 ∷ Hand 0 0 0 9 ∷ Hand 0 0 1 10 ∷ Renew 0 11 ∷ Hand 0 0 1 12 ∷ Hand 0 0 0 13 ∷ []

pub a_second_session_consumes : Consumes (world RunsOn) renewed_and_born (0 ∷ [])
a_second_session_consumes = consumes (world RunsOn) (reverse renewed_and_born) two (0 ∷ []) two_published refl

-- ---- a gap, and the rebirth after it

abbrev reborn : List Deed
reborn = opens_at 5 ∷ accepted_at 6 ∷ set_to 7 8 ∷ rebirth_at 8 ∷ set_to 9 9 ∷ []

abbrev four : NodeRecord
four = (record { birth = 0; session = 0; stamp = 6 }) ∷ (record { birth = 0; session = 0; stamp = 7 }) ∷ (record { birth = 1; session = 0; stamp = 8 })
    ∷ (record { birth = 1; session = 0; stamp = 9 }) ∷ []

four_published : IsPublished (world RunsOn) (reverse reborn) four
unfolding packets.spelling packets.body packets.shortest packets.has_bad_text packets.has_bad_body packets.is_qos_two payload.spelling payload.metric_spelling wire.varint wire.groups_of wire.bytes_field reading.payload_at reading.metric_at reading.each_item reading.text_at fields.items_of fields.items_within fields.field_at fields.varint_at fields.groups_at fields.value_at fields.some_at is_utf8 chars encode
four_published = refl

-- position 3 comes before 2, and 2 only after the wait is over
abbrev waited : List Deed
waited = opens_at 5 ∷ accepted_at 6 ∷ set_to 7 8 ∷ rebirth_at 8 ∷ set_to 9 9 ∷ Hand 0 0 0 10 ∷ Hand 0 0 3 11 ∷ Hand 0 0 1 12 ∷ Tick 0 2011 ∷ []

pub one_waits : Answers (world RunsOn) waited (order.TickComes 2012) (Ticked true) × Consumes (world RunsOn) waited (0 ∷ 1 ∷ [])
one_waits = (answers (world RunsOn) (reverse waited) four (order.TickComes 2012) (Ticked true) four_published refl, consumes (world RunsOn) (reverse waited) four (0 ∷ 1 ∷ []) four_published refl)

abbrev gapped : List Deed
gapped = opens_at 5 ∷ accepted_at 6 ∷ set_to 7 8 ∷ rebirth_at 8 ∷ set_to 9 9 ∷ Hand 0 0 0 10 ∷ Hand 0 0 3 11 ∷ Hand 0 0 1 12 ∷ Tick 0 2011 ∷ Tick 0 2012 ∷ []

-- what waited is lost, and after the gap only the newer birth is consumed
pub the_held_message_is_lost : Answers (world RunsOn) gapped (MessageComes 3 2013) (Stepped NotLive)
the_held_message_is_lost = answers (world RunsOn) (reverse gapped) four (MessageComes 3 2013) (Stepped NotLive) four_published refl

abbrev gapped_and_born : List Deed
gapped_and_born = opens_at 5 ∷ accepted_at 6 ∷ set_to 7 8 ∷ rebirth_at 8 ∷ set_to 9 9 ∷ Hand 0 0 0 10 ∷ Hand 0 0 3 11 ∷ Hand 0 0 1 12 ∷ Tick 0 2011 ∷ Tick 0 2012 ∷ Hand 0 0 2 2013 ∷ []

pub a_rebirth_after_a_gap : Consumes (world RunsOn) gapped_and_born (0 ∷ 1 ∷ 2 ∷ [])
a_rebirth_after_a_gap = consumes (world RunsOn) (reverse gapped_and_born) four (0 ∷ 1 ∷ 2 ∷ []) four_published refl

-- ---- a death

abbrev reopened : List Deed
reopened = opens_at 5 ∷ accepted_at 6 ∷ cut ∷ opens_at 7 ∷ accepted_at 8 ∷ []

abbrev two_sessions : NodeRecord
two_sessions = (record { birth = 0; session = 0; stamp = 6 }) ∷ (record { birth = 1; session = 1; stamp = 8 }) ∷ []

sessions_published : IsPublished (world RunsOn) (reverse reopened) two_sessions
unfolding packets.spelling packets.body packets.shortest packets.has_bad_text packets.has_bad_body packets.is_qos_two payload.spelling payload.metric_spelling wire.varint wire.groups_of wire.bytes_field reading.payload_at reading.metric_at reading.each_item reading.text_at fields.items_of fields.items_within fields.field_at fields.varint_at fields.groups_at fields.value_at fields.some_at is_utf8 chars encode
sessions_published = refl

abbrev both_born : List Deed
both_born = opens_at 5 ∷ accepted_at 6 ∷ cut ∷ opens_at 7 ∷ accepted_at 8 ∷ Hand 0 0 0 9 ∷ Hand 0 0 1 10 ∷ Death 0 0 0 11 ∷ []

-- the older session's death doesn't match, the present one's does, and its NBIRTH isn't taken again
pub deaths : Consumes (world RunsOn) both_born (0 ∷ 1 ∷ []) × Answers (world RunsOn) both_born (order.DeathComes 1 12) (Told Matched)
    × Answers (world RunsOn) (opens_at 5 ∷ accepted_at 6 ∷ cut ∷ opens_at 7 ∷ accepted_at 8 ∷ Hand 0 0 0 9 ∷ Hand 0 0 1 10 ∷ []) (order.DeathComes 0 11) (Told Ignored)
deaths = (
  consumes (world RunsOn) (reverse both_born) two_sessions (0 ∷ 1 ∷ []) sessions_published refl,
  answers (world RunsOn) (reverse both_born) two_sessions (order.DeathComes 1 12) (Told Matched) sessions_published refl,
  answers (world RunsOn) (Hand 0 0 1 10 ∷ Hand 0 0 0 9 ∷ reverse reopened) two_sessions (order.DeathComes 0 11) (Told Ignored) sessions_published refl,
)

abbrev dead : List Deed
dead = opens_at 5 ∷ accepted_at 6 ∷ cut ∷ opens_at 7 ∷ accepted_at 8 ∷ Hand 0 0 0 9 ∷ Hand 0 0 1 10 ∷ Death 0 0 0 11 ∷ Death 0 0 1 12 ∷ []

pub nothing_after_a_death : Answers (world RunsOn) dead (MessageComes 1 13) (Stepped OldBirth)
nothing_after_a_death = answers (world RunsOn) (reverse dead) two_sessions (MessageComes 1 13) (Stepped OldBirth) sessions_published refl

-- ---- numbers that restart

abbrev restarted : List Deed
restarted = opens_at 5 ∷ accepted_at 6 ∷ set_to 7 8 ∷ set_to 8 9 ∷ rebirth_at 9 ∷ set_to 10 10 ∷ []

abbrev five : NodeRecord
five = (record { birth = 0; session = 0; stamp = 6 }) ∷ (record { birth = 0; session = 0; stamp = 7 }) ∷ (record { birth = 0; session = 0; stamp = 8 })
    ∷ (record { birth = 1; session = 0; stamp = 9 }) ∷ (record { birth = 1; session = 0; stamp = 10 }) ∷ []

five_published : IsPublished (world Restarts) (reverse restarted) five
unfolding packets.spelling packets.body packets.shortest packets.has_bad_text packets.has_bad_body packets.is_qos_two payload.spelling payload.metric_spelling wire.varint wire.groups_of wire.bytes_field reading.payload_at reading.metric_at reading.each_item reading.text_at fields.items_of fields.items_within fields.field_at fields.varint_at fields.groups_at fields.value_at fields.some_at is_utf8 chars encode
five_published = refl

abbrev first_birth : List Deed
first_birth = opens_at 5 ∷ accepted_at 6 ∷ set_to 7 8 ∷ set_to 8 9 ∷ rebirth_at 9 ∷ set_to 10 10 ∷ Hand 0 0 0 11 ∷ []

pub a_message_before_its_birth : refusal_of (world Restarts) (reverse first_birth) (Hand 0 0 4 12) ≡ Some OvertakesBirth
a_message_before_its_birth = refuses_hand Restarts (reverse first_birth) five 4 12 (Some OvertakesBirth) five_published refl

abbrev second_birth : List Deed
second_birth = opens_at 5 ∷ accepted_at 6 ∷ set_to 7 8 ∷ set_to 8 9 ∷ rebirth_at 9 ∷ set_to 10 10 ∷ Hand 0 0 0 11 ∷ Hand 0 0 3 12 ∷ Hand 0 0 4 13 ∷ []

pub numbers_that_restart : Consumes (world Restarts) second_birth (0 ∷ 3 ∷ 4 ∷ [])
    × (refusal_of (world Restarts) (reverse second_birth) (Hand 0 0 1 14) ≡ None) × Answers (world Restarts) second_birth (MessageComes 1 14) (Stepped Old)
numbers_that_restart = (
  consumes (world Restarts) (reverse second_birth) five (0 ∷ 3 ∷ 4 ∷ []) five_published refl,
  refuses_hand Restarts (reverse second_birth) five 1 14 None five_published refl,
  answers (world Restarts) (reverse second_birth) five (MessageComes 1 14) (Stepped Old) five_published refl,
)

-- ---- answers

-- an Open gives no message, an acceptance without a primary host the NBIRTH, and a change one NDATA
pub what_a_node_adds : (answer_of (world RunsOn) [] (opens_at 5) ≡ Added 0)
    × (answer_of (world RunsOn) (opens_at 5 ∷ []) (accepted_at 6) ≡ Added 1)
    × (answer_of (world RunsOn) (accepted_at 6 ∷ opens_at 5 ∷ []) (set_to 7 8) ≡ Added 1)
unfolding packets.spelling packets.body packets.shortest packets.has_bad_text packets.has_bad_body packets.is_qos_two payload.spelling payload.metric_spelling wire.varint wire.groups_of wire.bytes_field reading.payload_at reading.metric_at reading.each_item reading.text_at fields.items_of fields.items_within fields.field_at fields.varint_at fields.groups_at fields.value_at fields.some_at is_utf8 chars encode
what_a_node_adds = (refl, refl, refl)

pub gaps_of_all_nodes : (answer_of (world RunsOn) (reverse waited) (Tick 0 2011) ≡ Gaps 0) × (answer_of (world RunsOn) (reverse waited) (Tick 0 2012) ≡ Gaps 1)
gaps_of_all_nodes = (
  gaps (reverse waited) 2011 (Ticked false) (answers (world RunsOn) (reverse waited) four (order.TickComes 2011) (Ticked false) four_published refl),
  gaps (reverse waited) 2012 (Ticked true) (answers (world RunsOn) (reverse waited) four (order.TickComes 2012) (Ticked true) four_published refl),
)
  where
    gaps : (done : List Deed) (now : ℕ) (reply : Reply) → (event_of (world RunsOn) done 0 0 (order.TickComes now)).reply ≡ reply
        → answer_of (world RunsOn) done (Tick 0 now) ≡ Gaps (0 + cond (is_gap reply) 1 0)
    gaps done now reply e = ap (λ r. Gaps (0 + cond (is_gap r) 1 0)) e

-- ---- the file of the first worked world

pub the_first_file : map (deed_of (world RunsOn)) (file.Open 0 5 ∷ file.Accepted 0 6 ∷ file.Set 0 7 1 (Some (Signed (pos 8))) ∷ file.Hand 0 0 0 9 ∷ file.Hand 0 0 1 10 ∷ [])
    ≡ both_handed
the_first_file = refl

pub a_rebirth_command : deed_of (world RunsOn) (file.Rebirth 0 9) ≡ rebirth_at 9
unfolding packets.spelling packets.body packets.shortest packets.has_bad_text packets.has_bad_body packets.is_qos_two payload.spelling payload.metric_spelling wire.varint wire.groups_of wire.bytes_field reading.payload_at reading.metric_at reading.each_item reading.text_at fields.items_of fields.items_within fields.field_at fields.varint_at fields.groups_at fields.value_at fields.some_at is_utf8 chars encode
a_rebirth_command = refl

pub a_state : deed_of (world RunsOn) (file.State 0 9 true 5) ≡ at_node 9 (edge.State (codes "{\"online\":true,\"timestamp\":5}"))
unfolding packets.spelling packets.body packets.shortest packets.has_bad_text packets.has_bad_body packets.is_qos_two payload.spelling payload.metric_spelling wire.varint wire.groups_of wire.bytes_field reading.payload_at reading.metric_at reading.each_item reading.text_at fields.items_of fields.items_within fields.field_at fields.varint_at fields.groups_at fields.value_at fields.some_at is_utf8 chars encode digits
a_state = refl

-- ---- the window, and sessions that are far apart, of a node record alone

abbrev long : Setting
long = record {
  published = map (λ p. record { birth = 0; session = 0; stamp = p }) (range_with_len 0 203);
  numbering = RunsOn;
  seq = 0;
  bd = 0;
  wait = 2000;
  width = 64;
}

-- positions 0 to 9 were consumed, and 73 is held
abbrev ten_and_one : List order.Input
ten_and_one = MessageComes 73 20 ∷ reverse (map (λ p. MessageComes p 10) (range_with_len 0 10))

pub the_window : (message_refusal long (order.record_of long ten_and_one) 201 ≡ None)
    × (message_refusal long (order.record_of long ten_and_one) 202 ≡ Some OutsideWindow)
    × (message_refusal long (order.record_of long ten_and_one) 10 ≡ None)
    × (message_refusal long (order.record_of long ten_and_one) 9 ≡ Some OutsideWindow)
    × (message_refusal long (order.record_of long ten_and_one) 203 ≡ Some NotPublished)
the_window = (refl, refl, refl, refl, refl)

-- a node that opened 300 sessions; the first NBIRTH was taken
abbrev far : Setting
far = record {
  published = (record { birth = 0; session = 0; stamp = 6 }) ∷ (record { birth = 1; session = 255; stamp = 7 }) ∷ (record { birth = 2; session = 256; stamp = 8 }) ∷ [];
  numbering = RunsOn;
  seq = 0;
  bd = 0;
  wait = 2000;
  width = 64;
}

pub far_sessions : (message_refusal far (order.record_of far (MessageComes 0 9 ∷ [])) 1 ≡ None)
    × (message_refusal far (order.record_of far (MessageComes 0 9 ∷ [])) 2 ≡ Some TooFar)
    × (message_refusal far [] 2 ≡ None)
    × (death_refusal far (order.record_of far (MessageComes 0 9 ∷ [])) 300 255 ≡ None)
    × (death_refusal far (order.record_of far (MessageComes 0 9 ∷ [])) 300 256 ≡ Some TooFar)
    × (death_refusal far (order.record_of far (MessageComes 0 9 ∷ [])) 256 256 ≡ Some NotPublished)
far_sessions = (refl, refl, refl, refl, refl, refl)
