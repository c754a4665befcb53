-- Worked logs of a plant with one edge node (client 0) and its host (client 1), newest first, named by what they show.
use Rattle.std.proofs.Common.{◌≡◌, ℕ, true, List, [], ◌∷◌, Some, None, refl}
use Rattle.spk_packets.specs.Message.{Message as Packet, Connect}
use Rattle.spk_packets.specs.Spelling.{has_bad_text, has_bad_body, is_qos_two, spelling, body, shortest}
use Rattle.spk_packets.specs.declared.fault.PacketFault.TheVariants as fault
use Rattle.spk_ingress.specs.declared.frame.Frame.TheVariants as frame
use Rattle.spk_session.specs.declared.answer.Sort.TheVariants as sort
use Rattle.spk_broker_rules.specs.Step.{step, route, route_some}
use Rattle.spk_plant_broker.specs.Data.{Entry, Offer, Room, Took, Accepted, Refused, Told, Says, Breaks, Cuts, Ends}
use Rattle.spk_plant_broker.specs.Log.{got_of, refusals_of, room_of}
use Rattle.spk_plant_broker.specs.Step.{conn_at, fresh_room}

abbrev says : ℕ → Packet → Entry
says k p = Took (record { sender = k; frame = frame.Packet (spelling p) }) (Says p)

abbrev cut : ℕ → Entry
cut k = Took (record { sender = k; frame = frame.Cut }) Cuts

abbrev hello : Packet
hello = Connect [] true 0 None

abbrev after_log : List Entry → Room
after_log log = room_of 128 1 log

-- CONNACK 0 for client 0
abbrev welcome : Offer
welcome = record { to = Some 0; conn = 1; sort = sort.Other; bytes = 32 ∷ 2 ∷ 0 ∷ 0 ∷ [] }

-- without a connection a Cut is passed over, and so are bytes that are no packet
a_cut_without_a_connection_is_passed_over : after_log (cut 0 ∷ []) ≡ fresh_room
a_cut_without_a_connection_is_passed_over = refl

a_fault_without_a_connection_is_passed_over : after_log (Took (record { sender = 0; frame = frame.Fault fault.BadType }) (Breaks fault.BadType) ∷ []) ≡ fresh_room
a_fault_without_a_connection_is_passed_over = refl

-- a packet opens a connection
a_packet_opens_one : (after_log (says 0 hello ∷ [])).pending ≡ welcome ∷ []
unfolding step route route_some has_bad_text has_bad_body is_qos_two spelling body shortest
a_packet_opens_one = refl

-- a Cut ends it, and what the ring got before was offered with no Cut taken
a_cut_ends_it : conn_at 128 (after_log (cut 0 ∷ Accepted 0 welcome ∷ says 0 hello ∷ [])) 0 ≡ None
unfolding step route route_some has_bad_text has_bad_body is_qos_two spelling body shortest
a_cut_ends_it = refl

items_count_cuts : got_of 0 (Accepted 0 welcome ∷ says 0 hello ∷ cut 0 ∷ []) ≡ (record { bytes = 32 ∷ 2 ∷ 0 ∷ 0 ∷ []; cuts = 1 }) ∷ []
items_count_cuts = refl

-- a refused CONNACK is told: it closes the client
a_refused_offer_is_told : (after_log (Told welcome ∷ Refused 0 welcome ∷ says 0 hello ∷ [])).closed 0 ≡ true
unfolding step route route_some has_bad_text has_bad_body is_qos_two spelling body shortest
a_refused_offer_is_told = refl

-- the refusal is noted with the frames taken before
a_refusal_is_noted : refusals_of (Told welcome ∷ Refused 0 welcome ∷ says 0 hello ∷ []) ≡ (record { client = 0; sort = sort.Other; taken = 1 }) ∷ []
a_refusal_is_noted = refl

-- whom the broker closed opens no further connection
who_is_closed_opens_none : (after_log (says 0 hello ∷ Told welcome ∷ Refused 0 welcome ∷ says 0 hello ∷ [])).pending ≡ []
unfolding step route route_some has_bad_text has_bad_body is_qos_two spelling body shortest
who_is_closed_opens_none = refl

-- when the edge node has ended all rings are dropped: a send to the host is passed over
a_send_after_the_drop_is_passed_over : (after_log (says 1 hello ∷ Took (record { sender = 0; frame = frame.End }) Ends ∷ [])).pending ≡ (record { to = None; conn = 1; sort = sort.Other; bytes = 32 ∷ 2 ∷ 0 ∷ 0 ∷ [] }) ∷ []
unfolding step route route_some has_bad_text has_bad_body is_qos_two spelling body shortest
a_send_after_the_drop_is_passed_over = refl
