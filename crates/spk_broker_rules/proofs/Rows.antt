-- The rules at worked lists of events, named by what they show.
use Rattle.std.proofs.Common.{◌≡◌, ℕ, ◌++◌, Bool, true, false, List, [], ◌∷◌, refl, Option, Some, None, replicate}
use Rattle.std.specs.Prelude.{codes}
use Rattle.std.specs.List.{flat_map, range_with_len, fold}
use Rattle.spk_packets.specs.declared.fault.PacketFault.TheVariants as fault
use Rattle.spk_packets.specs.Message.{Message, Connect, ConnAck, Publish, PubAck, Subscribe, SubAck, Unsubscribe, UnsubAck, PingReq, PingResp, Disconnect}
use Rattle.spk_packets.specs.Spelling.{has_bad_text, has_bad_body, is_qos_two, spelling, body, shortest}
use Rattle.spk_session.specs.PacketIds.{next_id, ids_after}
use Rattle.spk_session.specs.declared.answer.Sort.TheVariants as sort
use Rattle.spk_broker_rules.specs.Data.{AppMessage, Session, Stored, Broker, Send, fresh_broker}
use Rattle.spk_broker_rules.specs.Plan.{Event, Open, Packet, Fault, Closed, Tick, Refused, Seen, Forget, Accept, Give, Route, connect, turn_away, shut, next_packet}
use Rattle.spk_broker_rules.specs.Past.{counts}
use Rattle.spk_broker_rules.specs.Table.{Table}
use Rattle.spk_broker_rules.specs.Words.{codes_of, offers_to, weight, weight_of, with_entry, last_number}
use Rattle.spk_broker_rules.specs.Step.{step, route, route_some, hand, is_full, welcome_in}

-- what each of these events sends and closes
abbrev Out : Type 0
Out = List Send × List ℕ

abbrev outs : Broker → List Event → List Out
outs b [] = []
outs b (e ∷ es) = let t = step b e in (t.sends, t.closes) ∷ outs t.broker es

abbrev last_out : Out → List Out → Out
last_out o [] = o
last_out o (p ∷ ps) = last_out p ps

abbrev quiet : Out
quiet = ([], [])

-- the last of them, with this limit of drops
abbrev last_of : ℕ → List Event → Out
last_of limit es = last_out quiet (outs (fresh_broker limit) es)

abbrev row : List Event → List Out
row es = outs (fresh_broker 128) es

abbrev to : ℕ → Message → Send
to conn p = record { conn = conn; packet = p }

abbrev hello : List ℕ → Message
hello client = Connect client true 0 None

-- clean session 0
abbrev stay : List ℕ → Message
stay client = Connect client false 0 None

abbrev with_will : List ℕ → List ℕ → List ℕ → Message
with_will client topic message = Connect client true 0 (Some (record { topic = topic; message = message; qos = 0; retain = false }))

abbrev plain : List ℕ → List ℕ → Message
plain topic payload = Publish false 0 false topic None payload

abbrev kept_as : List ℕ → List ℕ → Message
kept_as topic payload = Publish false 0 true topic None payload

-- what the rules may ask where little is the case
abbrev asked : Option ℕ → Bool → Seen
asked older welcome = record { joined = false; older = older; welcome = welcome; spent = false; silent = []; heavy = false }

-- opened, and its CONNECT accepted
abbrev comes : ℕ → Message → List Event
comes conn p = Open 0 ∷ Packet conn p 0 ∷ []

abbrev subscribes : ℕ → List ℕ → ℕ → Event
subscribes conn filter qos = Packet conn (Subscribe 1 ((filter, qos) ∷ [])) 0

abbrev welcomed : ℕ → List Out
welcomed conn = quiet ∷ (to conn (ConnAck false 0) ∷ [], []) ∷ []

-- CONNACK 0
a_clean_connect_is_accepted : row (comes 1 (hello [])) ≡ welcomed 1
unfolding step route route_some has_bad_text has_bad_body is_qos_two spelling body shortest
a_clean_connect_is_accepted = refl

-- code 2, closed
an_empty_client_needs_clean_session : row (comes 1 (stay [])) ≡ quiet ∷ (to 1 (ConnAck false 2) ∷ [], 1 ∷ []) ∷ []
unfolding step route route_some has_bad_text has_bad_body is_qos_two spelling body shortest
an_empty_client_needs_clean_session = refl

-- session present 0
a_kept_session_is_made : row (comes 1 (stay (codes "x"))) ≡ welcomed 1
unfolding step route route_some has_bad_text has_bad_body is_qos_two spelling body shortest
a_kept_session_is_made = refl

-- CONNACK code 1, closed
another_level_is_code_1 : row (Open 0 ∷ Fault 1 fault.BadLevel 0 ∷ []) ≡ quiet ∷ (to 1 (ConnAck false 1) ∷ [], 1 ∷ []) ∷ []
unfolding step route route_some has_bad_text has_bad_body is_qos_two spelling body shortest
another_level_is_code_1 = refl

-- nothing is sent
another_level_later_just_closes : row (comes 1 (hello []) ++ Fault 1 fault.BadLevel 0 ∷ []) ≡ welcomed 1 ++ ([], 1 ∷ []) ∷ []
unfolding step route route_some has_bad_text has_bad_body is_qos_two spelling body shortest
another_level_later_just_closes = refl

-- no CONNACK
a_bad_will_topic_closes_without_connack : row (comes 1 (with_will (codes "x") (codes "a/+") [])) ≡ quiet ∷ ([], 1 ∷ []) ∷ []
unfolding step route route_some has_bad_text has_bad_body is_qos_two spelling body shortest
a_bad_will_topic_closes_without_connack = refl

-- PINGREQ closes
a_first_packet_is_connect : row (comes 1 PingReq) ≡ quiet ∷ ([], 1 ∷ []) ∷ []
unfolding step route route_some has_bad_text has_bad_body is_qos_two spelling body shortest
a_first_packet_is_connect = refl

-- and the caller is told
a_first_disconnect_closes : row (comes 1 Disconnect) ≡ quiet ∷ ([], 1 ∷ []) ∷ []
unfolding step route route_some has_bad_text has_bad_body is_qos_two spelling body shortest
a_first_disconnect_closes = refl

-- PINGRESP
pings_are_answered : row (comes 1 (hello []) ++ Packet 1 PingReq 0 ∷ []) ≡ welcomed 1 ++ (to 1 PingResp ∷ [], []) ∷ []
unfolding step route route_some has_bad_text has_bad_body is_qos_two spelling body shortest
pings_are_answered = refl

-- of the older connection, which is closed last
a_will_is_routed_before_the_newer_connack : row (comes 1 (with_will (codes "x") (codes "w") (codes "6")) ++ (comes 2 (hello (codes "y")) ++ subscribes 2 (codes "#") 2 ∷ []) ++ comes 3 (hello (codes "x"))) ≡ welcomed 1 ++ (welcomed 2 ++ (to 2 (SubAck 1 (1 ∷ [])) ∷ [], []) ∷ []) ++ quiet ∷ (to 2 (plain (codes "w") (codes "6")) ∷ to 3 (ConnAck false 0) ∷ [], 1 ∷ []) ∷ []
unfolding step route route_some has_bad_text has_bad_body is_qos_two spelling body shortest
a_will_is_routed_before_the_newer_connack = refl

-- nothing is routed, and nothing closed
a_disconnect_discards_the_will : row (comes 1 (with_will (codes "x") (codes "w") (codes "6")) ++ (comes 2 (hello (codes "y")) ++ subscribes 2 (codes "#") 2 ∷ []) ++ Packet 1 Disconnect 0 ∷ []) ≡ welcomed 1 ++ (welcomed 2 ++ (to 2 (SubAck 1 (1 ∷ [])) ∷ [], []) ∷ []) ++ quiet ∷ []
unfolding step route route_some has_bad_text has_bad_body is_qos_two spelling body shortest
a_disconnect_discards_the_will = refl

-- and the connection closed
a_will_is_routed_at_a_fault : row (comes 1 (with_will (codes "x") (codes "w") (codes "6")) ++ (comes 2 (hello (codes "y")) ++ subscribes 2 (codes "#") 2 ∷ []) ++ Fault 1 fault.BadBody 0 ∷ []) ≡ welcomed 1 ++ (welcomed 2 ++ (to 2 (SubAck 1 (1 ∷ [])) ∷ [], []) ∷ []) ++ (to 2 (plain (codes "w") (codes "6")) ∷ [], 1 ∷ []) ∷ []
unfolding step route route_some has_bad_text has_bad_body is_qos_two spelling body shortest
a_will_is_routed_at_a_fault = refl

-- which isn't told back
a_will_is_routed_at_an_end : row (comes 1 (with_will (codes "x") (codes "w") (codes "6")) ++ (comes 2 (hello (codes "y")) ++ subscribes 2 (codes "#") 2 ∷ []) ++ Closed 1 0 ∷ []) ≡ welcomed 1 ++ (welcomed 2 ++ (to 2 (SubAck 1 (1 ∷ [])) ∷ [], []) ∷ []) ++ (to 2 (plain (codes "w") (codes "6")) ∷ [], []) ∷ []
unfolding step route route_some has_bad_text has_bad_body is_qos_two spelling body shortest
a_will_is_routed_at_an_end = refl

-- as any publish with RETAIN is
a_will_with_retain_is_kept : last_of 128 (comes 1 (Connect (codes "x") true 0 (Some (record { topic = codes "w"; message = codes "6"; qos = 0; retain = true }))) ++ Closed 1 0 ∷ (comes 2 (hello []) ++ subscribes 2 (codes "w") 0 ∷ [])) ≡ (to 2 (SubAck 1 (0 ∷ [])) ∷ to 2 (kept_as (codes "w") (codes "6")) ∷ [], [])
unfolding step route route_some has_bad_text has_bad_body is_qos_two spelling body shortest
a_will_with_retain_is_kept = refl

-- only the will
a_will_is_routed_at_a_second_connect : row (comes 1 (with_will (codes "x") (codes "w") (codes "6")) ++ (comes 2 (hello (codes "y")) ++ subscribes 2 (codes "#") 2 ∷ []) ++ Packet 1 (hello (codes "x")) 0 ∷ []) ≡ welcomed 1 ++ (welcomed 2 ++ (to 2 (SubAck 1 (1 ∷ [])) ∷ [], []) ∷ []) ++ (to 2 (plain (codes "w") (codes "6")) ∷ [], 1 ∷ []) ∷ []
unfolding step route route_some has_bad_text has_bad_body is_qos_two spelling body shortest
a_will_is_routed_at_a_second_connect = refl

-- a wildcard in a PUBLISH
a_bad_topic_routes_the_will_alone : row (comes 1 (with_will (codes "x") (codes "w") (codes "6")) ++ (comes 2 (hello (codes "y")) ++ subscribes 2 (codes "#") 2 ∷ []) ++ Packet 1 (plain (codes "a/+") []) 0 ∷ []) ≡ welcomed 1 ++ (welcomed 2 ++ (to 2 (SubAck 1 (1 ∷ [])) ∷ [], []) ∷ []) ++ (to 2 (plain (codes "w") (codes "6")) ∷ [], 1 ∷ []) ∷ []
unfolding step route route_some has_bad_text has_bad_body is_qos_two spelling body shortest
a_bad_topic_routes_the_will_alone = refl

-- CONNECT with a will and QoS that is refused takes nobody over
the_will_of_one_turned_away_is_not_routed : row (comes 1 (with_will (codes "x") (codes "w") (codes "6")) ++ (comes 2 (hello (codes "y")) ++ subscribes 2 (codes "#") 2 ∷ []) ++ comes 3 (Connect [] false 0 (Some (record { topic = codes "w"; message = []; qos = 0; retain = false })))) ≡ welcomed 1 ++ (welcomed 2 ++ (to 2 (SubAck 1 (1 ∷ [])) ∷ [], []) ∷ []) ++ quiet ∷ (to 3 (ConnAck false 2) ∷ [], 3 ∷ []) ∷ []
unfolding step route route_some has_bad_text has_bad_body is_qos_two spelling body shortest
the_will_of_one_turned_away_is_not_routed = refl

-- a bad will topic closes the newer one, and the older one stays with its will
one_turned_away_takes_nobody_over : row (comes 1 (with_will (codes "x") (codes "w") (codes "6")) ++ (comes 2 (hello (codes "y")) ++ subscribes 2 (codes "#") 2 ∷ []) ++ (comes 3 (with_will (codes "x") (codes "a/#") []) ++ Packet 1 PingReq 0 ∷ []))
    ≡ welcomed 1 ++ (welcomed 2 ++ (to 2 (SubAck 1 (1 ∷ [])) ∷ [], []) ∷ []) ++ quiet ∷ ([], 3 ∷ []) ∷ (to 1 PingResp ∷ [], []) ∷ []
unfolding step route route_some has_bad_text has_bad_body is_qos_two spelling body shortest
one_turned_away_takes_nobody_over = refl

-- two of them
an_empty_client_is_taken_over_by_nobody : row (comes 1 (hello []) ++ comes 2 (hello [])) ≡ welcomed 1 ++ welcomed 2
unfolding step route route_some has_bad_text has_bad_body is_qos_two spelling body shortest
an_empty_client_is_taken_over_by_nobody = refl

-- behind SUBACK, with RETAIN; an empty one removes it
a_retained_message_is_given_to_a_new_grant : row (comes 1 (hello []) ++ Packet 1 (kept_as (codes "a") (codes "x")) 0 ∷ subscribes 1 (codes "a") 0 ∷ Packet 1 (kept_as (codes "a") []) 0 ∷ subscribes 1 (codes "a") 0 ∷ [])
    ≡ welcomed 1 ++ quiet ∷ (to 1 (SubAck 1 (0 ∷ [])) ∷ to 1 (kept_as (codes "a") (codes "x")) ∷ [], [])
    ∷ (to 1 (plain (codes "a") []) ∷ [], []) ∷ (to 1 (SubAck 1 (0 ∷ [])) ∷ [], []) ∷ []
unfolding step route route_some has_bad_text has_bad_body is_qos_two spelling body shortest
a_retained_message_is_given_to_a_new_grant = refl

-- the other follows it
a_replaced_retained_message_stays_in_place : last_of 128 (comes 1 (hello []) ++ Packet 1 (kept_as (codes "a") (codes "x")) 0 ∷ Packet 1 (kept_as (codes "b") (codes "y")) 0 ∷ Packet 1 (kept_as (codes "a") (codes "z")) 0 ∷ subscribes 1 (codes "+") 0 ∷ [])
    ≡ (to 1 (SubAck 1 (0 ∷ [])) ∷ to 1 (kept_as (codes "a") (codes "z")) ∷ to 1 (kept_as (codes "b") (codes "y")) ∷ [], [])
unfolding step route route_some has_bad_text has_bad_body is_qos_two spelling body shortest
a_replaced_retained_message_stays_in_place = refl

-- also where a later entry names the filter again
each_entry_gives_its_own_retained_messages : last_of 128 (comes 1 (hello []) ++ Packet 1 (Publish false 1 true (codes "a") (Some 7) (codes "x")) 0 ∷ Packet 1 (Subscribe 5 ((codes "a", 0) ∷ (codes "a", 1) ∷ [])) 0 ∷ [])
    ≡ (to 1 (SubAck 5 (0 ∷ 1 ∷ [])) ∷ to 1 (kept_as (codes "a") (codes "x")) ∷ to 1 (Publish false 1 true (codes "a") (Some 1) (codes "x")) ∷ [], [])
unfolding step route route_some has_bad_text has_bad_body is_qos_two spelling body shortest next_id ids_after
each_entry_gives_its_own_retained_messages = refl

-- but a millisecond more is
one_and_a_half_times_the_keep_alive_is_not_too_long : row (Open 0 ∷ Packet 1 (Connect [] true 60 None) 0 ∷ Tick 90000 ∷ Tick 90001 ∷ []) ≡ welcomed 1 ++ quiet ∷ ([], 1 ∷ []) ∷ []
unfolding step route route_some has_bad_text has_bad_body is_qos_two spelling body shortest
one_and_a_half_times_the_keep_alive_is_not_too_long = refl

-- the clock stays
an_earlier_moment_is_no_time : row (Open 0 ∷ Packet 1 (Connect [] true 60 None) 1000 ∷ Packet 1 PingReq 500 ∷ Tick 91000 ∷ Tick 91001 ∷ []) ≡ welcomed 1 ++ (to 1 PingResp ∷ [], []) ∷ quiet ∷ ([], 1 ∷ []) ∷ []
unfolding step route route_some has_bad_text has_bad_body is_qos_two spelling body shortest
an_earlier_moment_is_no_time = refl

-- and so is one without CONNECT
keep_alive_0_is_never_silent : last_of 128 (comes 1 (hello []) ++ Open 0 ∷ Tick 99999999 ∷ []) ≡ quiet
unfolding step route route_some has_bad_text has_bad_body is_qos_two spelling body shortest
keep_alive_0_is_never_silent = refl

-- the second, itself silent, gets nothing of the first one's will
silent_ones_are_ended_before_their_wills_go : last_of 128 (Open 0 ∷ Packet 1 (Connect (codes "x") true 1 (Some (record { topic = codes "w"; message = codes "6"; qos = 0; retain = false }))) 0 ∷ Open 0 ∷ Packet 2 (Connect (codes "y") true 1 None) 0 ∷ subscribes 2 (codes "w") 0 ∷ (comes 3 (hello []) ++ subscribes 3 (codes "w") 0 ∷ Tick 1501 ∷ []))
    ≡ (to 3 (plain (codes "w") (codes "6")) ∷ [], 1 ∷ 2 ∷ [])
unfolding step route route_some has_bad_text has_bad_body is_qos_two spelling body shortest
silent_ones_are_ended_before_their_wills_go = refl

-- with the greatest grant, or at the lesser QoS of the publish
overlapping_filters_give_one_send : row (comes 1 (hello []) ++ Packet 1 (Subscribe 1 ((codes "a/#", 0) ∷ (codes "+/b", 1) ∷ [])) 0 ∷ Packet 1 (Publish false 1 false (codes "a/b") (Some 9) (codes "x")) 0 ∷ Packet 1 (plain (codes "a/b") (codes "y")) 0 ∷ [])
    ≡ welcomed 1 ++ (to 1 (SubAck 1 (0 ∷ 1 ∷ [])) ∷ [], [])
    ∷ (to 1 (PubAck 9) ∷ to 1 (Publish false 1 false (codes "a/b") (Some 1) (codes "x")) ∷ [], []) ∷ (to 1 (plain (codes "a/b") (codes "y")) ∷ [], []) ∷ []
unfolding step route route_some has_bad_text has_bad_body is_qos_two spelling body shortest next_id ids_after
overlapping_filters_give_one_send = refl

-- RETAIN 0 and DUP 0 to whom the grant stood already
retain_and_dup_are_not_passed_on : last_of 128 (comes 1 (hello []) ++ subscribes 1 (codes "a") 1 ∷ Packet 1 (Publish true 1 true (codes "a") (Some 9) (codes "x")) 0 ∷ [])
    ≡ (to 1 (PubAck 9) ∷ to 1 (Publish false 1 false (codes "a") (Some 1) (codes "x")) ∷ [], [])
unfolding step route route_some has_bad_text has_bad_body is_qos_two spelling body shortest next_id ids_after
retain_and_dup_are_not_passed_on = refl

-- UNSUBACK also where it doesn't stand
an_unsubscribed_filter_gets_nothing : row (comes 1 (hello []) ++ subscribes 1 (codes "a") 0 ∷ Packet 1 (Unsubscribe 3 (codes "a" ∷ codes "b" ∷ [])) 0 ∷ Packet 1 (plain (codes "a") []) 0 ∷ [])
    ≡ welcomed 1 ++ (to 1 (SubAck 1 (0 ∷ [])) ∷ [], []) ∷ (to 1 (UnsubAck 3) ∷ [], []) ∷ quiet ∷ []
unfolding step route route_some has_bad_text has_bad_body is_qos_two spelling body shortest
an_unsubscribed_filter_gets_nothing = refl

-- nothing
an_unused_identifier_is_acknowledged_in_vain : row (comes 1 (hello []) ++ Packet 1 (PubAck 9) 0 ∷ []) ≡ welcomed 1 ++ quiet ∷ []
unfolding step route route_some has_bad_text has_bad_body is_qos_two spelling body shortest
an_unused_identifier_is_acknowledged_in_vain = refl

-- nothing of the packet takes effect
a_filter_that_is_refused_closes : row (comes 1 (hello []) ++ Packet 1 (Subscribe 1 ((codes "a", 0) ∷ (codes "a#", 0) ∷ [])) 0 ∷ []) ≡ welcomed 1 ++ ([], 1 ∷ []) ∷ []
unfolding step route route_some has_bad_text has_bad_body is_qos_two spelling body shortest
a_filter_that_is_refused_closes = refl

-- the grant of the other one isn't taken back: its connection is closed before
a_filter_that_is_refused_closes_at_unsubscribe_too : row (comes 1 (stay (codes "x")) ++ subscribes 1 (codes "a") 1 ∷ Packet 1 (Unsubscribe 3 (codes "a" ∷ codes "a#" ∷ [])) 0 ∷ [])
    ≡ welcomed 1 ++ (to 1 (SubAck 1 (1 ∷ [])) ∷ [], []) ∷ ([], 1 ∷ []) ∷ []
unfolding step route route_some has_bad_text has_bad_body is_qos_two spelling body shortest
a_filter_that_is_refused_closes_at_unsubscribe_too = refl

-- a publish of QoS 2
qos_2_closes : row (comes 1 (hello []) ++ Packet 1 (Publish false 2 false (codes "a") (Some 9) []) 0 ∷ []) ≡ welcomed 1 ++ ([], 1 ∷ []) ∷ []
unfolding step route route_some has_bad_text has_bad_body is_qos_two spelling body shortest
qos_2_closes = refl

-- without CONNACK
a_will_of_qos_2_closes : row (comes 1 (Connect (codes "x") true 0 (Some (record { topic = codes "w"; message = []; qos = 2; retain = false })))) ≡ quiet ∷ ([], 1 ∷ []) ∷ []
unfolding step route route_some has_bad_text has_bad_body is_qos_two spelling body shortest
a_will_of_qos_2_closes = refl

-- CONNACK, SUBACK, UNSUBACK, PINGRESP
what_only_a_broker_sends_closes : next_packet (asked None true) 1 (ConnAck false 0) ∷ next_packet (asked None true) 1 (SubAck 1 (0 ∷ [])) ∷ next_packet (asked None true) 1 (UnsubAck 1) ∷ next_packet (asked None true) 1 PingResp ∷ [] ≡ replicate 4 (shut 1)
what_only_a_broker_sends_closes = refl

-- the first doesn't
drop_2_of_limit_2_closes : outs (fresh_broker 2) (comes 1 (hello []) ++ Refused 1 sort.QosZero 0 ∷ Refused 1 sort.QosZero 0 ∷ []) ≡ welcomed 1 ++ quiet ∷ ([], 1 ∷ []) ∷ []
unfolding step route route_some has_bad_text has_bad_body is_qos_two spelling body shortest
drop_2_of_limit_2_closes = refl

-- from the opening
drops_before_connect_count : outs (fresh_broker 2) (Open 0 ∷ Refused 1 sort.QosZero 0 ∷ Packet 1 (hello []) 0 ∷ Refused 1 sort.QosZero 0 ∷ []) ≡ quiet ∷ quiet ∷ (to 1 (ConnAck false 0) ∷ [], []) ∷ ([], 1 ∷ []) ∷ []
unfolding step route route_some has_bad_text has_bad_body is_qos_two spelling body shortest
drops_before_connect_count = refl

drop_63_of_limit_64_leaves_it_open : last_of 64 (comes 1 (hello []) ++ replicate 63 (Refused 1 sort.QosZero 0)) ≡ quiet
unfolding step route route_some has_bad_text has_bad_body is_qos_two spelling body shortest
drop_63_of_limit_64_leaves_it_open = refl

drop_64_of_limit_64_closes : last_of 64 (comes 1 (hello []) ++ replicate 64 (Refused 1 sort.QosZero 0)) ≡ ([], 1 ∷ [])
unfolding step route route_some has_bad_text has_bad_body is_qos_two spelling body shortest
drop_64_of_limit_64_closes = refl

drop_253_of_limit_254_leaves_it_open : last_of 254 (comes 1 (hello []) ++ replicate 253 (Refused 1 sort.QosZero 0)) ≡ quiet
unfolding step route route_some has_bad_text has_bad_body is_qos_two spelling body shortest
drop_253_of_limit_254_leaves_it_open = refl

drop_254_of_limit_254_closes : last_of 254 (comes 1 (hello []) ++ replicate 254 (Refused 1 sort.QosZero 0)) ≡ ([], 1 ∷ [])
unfolding step route route_some has_bad_text has_bad_body is_qos_two spelling body shortest
drop_254_of_limit_254_closes = refl

-- at once
any_other_refused_send_closes : row (comes 1 (hello []) ++ Refused 1 sort.Other 0 ∷ []) ≡ welcomed 1 ++ ([], 1 ∷ []) ∷ []
unfolding step route route_some has_bad_text has_bad_body is_qos_two spelling body shortest
any_other_refused_send_closes = refl

-- what is kept is sent again with its identifier, DUP once it was handed out; a clean CONNECT ends it
a_kept_session_is_taken_up : row (comes 1 (stay (codes "x")) ++ subscribes 1 (codes "a") 1 ∷ Packet 1 Disconnect 0 ∷ (comes 2 (hello (codes "y")) ++ Packet 2 (Publish false 1 false (codes "a") (Some 7) (codes "x")) 0 ∷ (comes 3 (stay (codes "x")) ++ Closed 3 0
    ∷ (comes 4 (stay (codes "x")) ++ Packet 4 (PubAck 1) 0 ∷ Packet 4 Disconnect 0 ∷ (comes 5 (stay (codes "x")) ++ Packet 5 Disconnect 0 ∷ (comes 6 (hello (codes "x")) ++ Packet 6 Disconnect 0 ∷ comes 7 (stay (codes "x"))))))))
    ≡ welcomed 1 ++ (to 1 (SubAck 1 (1 ∷ [])) ∷ [], []) ∷ quiet ∷ (welcomed 2 ++ (to 2 (PubAck 7) ∷ [], []) ∷ quiet ∷ (to 3 (ConnAck true 0) ∷ to 3 (Publish false 1 false (codes "a") (Some 1) (codes "x")) ∷ [], []) ∷ quiet
    ∷ quiet ∷ (to 4 (ConnAck true 0) ∷ to 4 (Publish true 1 false (codes "a") (Some 1) (codes "x")) ∷ [], []) ∷ quiet ∷ quiet ∷ quiet ∷ (to 5 (ConnAck true 0) ∷ [], []) ∷ quiet ∷ (welcomed 6 ++ quiet ∷ welcomed 7))
unfolding step route route_some has_bad_text has_bad_body is_qos_two spelling body shortest next_id ids_after
a_kept_session_is_taken_up = refl

-- the message is dropped
qos_0_is_not_kept_while_away : last_of 128 (comes 1 (stay (codes "x")) ++ subscribes 1 (codes "a") 1 ∷ Packet 1 Disconnect 0 ∷ (comes 2 (hello []) ++ Packet 2 (plain (codes "a") []) 0 ∷ comes 3 (stay (codes "x")))) ≡ (to 3 (ConnAck true 0) ∷ [], [])
unfolding step route route_some has_bad_text has_bad_body is_qos_two spelling body shortest
qos_0_is_not_kept_while_away = refl

-- the session counts as away for it, and is then taken up
the_older_ones_will_is_kept_for_the_newer : last_of 128 (comes 1 (Connect (codes "x") false 0 (Some (record { topic = codes "w"; message = codes "6"; qos = 1; retain = false }))) ++ subscribes 1 (codes "w") 1 ∷ comes 2 (stay (codes "x")))
    ≡ (to 2 (ConnAck true 0) ∷ to 2 (Publish false 1 false (codes "w") (Some 1) (codes "6")) ∷ [], 1 ∷ [])
unfolding step route route_some has_bad_text has_bad_body is_qos_two spelling body shortest next_id ids_after
the_older_ones_will_is_kept_for_the_newer = refl

-- the older one's will goes to it first, and with it
a_clean_connect_takes_over_and_ends_the_kept_session : last_of 128 (comes 1 (stay (codes "x")) ++ subscribes 1 (codes "w") 1 ∷ comes 2 (hello (codes "x"))) ≡ (to 2 (ConnAck false 0) ∷ [], 1 ∷ [])
unfolding step route route_some has_bad_text has_bad_body is_qos_two spelling body shortest
a_clean_connect_takes_over_and_ends_the_kept_session = refl

-- the client's next CONNECT finds none
a_clean_take_over_leaves_no_kept_session : last_of 128 (comes 1 (stay (codes "x")) ++ (comes 2 (hello (codes "x")) ++ Packet 2 Disconnect 0 ∷ comes 3 (stay (codes "x")))) ≡ (to 3 (ConnAck false 0) ∷ [], [])
unfolding step route route_some has_bad_text has_bad_body is_qos_two spelling body shortest
a_clean_take_over_leaves_no_kept_session = refl

-- a session with 1,024 unacknowledged

abbrev full_session : Bool → Session
full_session kept = record {
  key = 3;
  client = codes "x";
  kept = kept;
  here = Some (record { conn = 9; alive = 0; heard = 0; will = Some (record { topic = codes "w"; payload = codes "6"; qos = 0; retain = false }); drops = 0 });
  grants = [];
  used = range_with_len 1 1024;
  last = 1024;
  in_flight = [];
}

abbrev app_message_of : ℕ → AppMessage
app_message_of qos = record { topic = codes "a"; payload = []; qos = qos; retain = false }

-- a further message of QoS 1 ends it, its connection too, and its will waits
a_message_too_many_ends_the_session : hand (app_message_of 1) (full_session true) ≡ record {
  left = [];
  sends = [];
  closes = 9 ∷ [];
  wills = (record { topic = codes "w"; payload = codes "6"; qos = 0; retain = false }) ∷ [];
}
a_message_too_many_ends_the_session = refl

-- but one of QoS 0 is sent
a_full_session_gets_qos_0 : hand (app_message_of 0) (full_session false) ≡ record {
  left = full_session false ∷ [];
  sends = to 9 (plain (codes "a") []) ∷ [];
  closes = [];
  wills = [];
}
a_full_session_gets_qos_0 = refl

-- a full session and one that listens to its will, with a retained message of QoS 1
abbrev full_broker : Broker
full_broker = record {
  limit = 128;
  given = 9;
  made = 4;
  clock = 0;
  newcomers = [];
  sessions = full_session false ∷ (record {
    key = 4;
    client = codes "y";
    kept = false;
    here = Some (record { conn = 8; alive = 0; heard = 0; will = None; drops = 0 });
    grants = (codes "w", 0) ∷ [];
    used = [];
    last = 0;
    in_flight = [];
  }) ∷ [];
  retained = (codes "a", record { payload = codes "x"; qos = 1 }) ∷ (codes "b", record { payload = codes "y"; qos = 0 }) ∷ [];
}

-- SUBACK and what is sent before stand, the rest of the SUBSCRIBE gives nothing, and the will goes at the end of the call
a_retained_message_too_many_closes : outs full_broker (Packet 9 (Subscribe 1 ((codes "b", 1) ∷ (codes "a", 1) ∷ (codes "b", 1) ∷ [])) 0 ∷ [])
    ≡ (to 9 (SubAck 1 (1 ∷ 1 ∷ 1 ∷ [])) ∷ to 9 (kept_as (codes "b") (codes "y")) ∷ to 8 (plain (codes "w") (codes "6")) ∷ [], 9 ∷ []) ∷ []
unfolding step route route_some has_bad_text has_bad_body is_qos_two spelling body shortest
a_retained_message_too_many_closes = refl

-- a full session still gets what is granted at QoS 0
a_full_session_gets_retained_qos_0 : outs full_broker (Packet 9 (Subscribe 1 ((codes "a", 0) ∷ [])) 0 ∷ [])
    ≡ (to 9 (SubAck 1 (0 ∷ [])) ∷ to 9 (kept_as (codes "a") (codes "x")) ∷ [], []) ∷ []
unfolding step route route_some has_bad_text has_bad_body is_qos_two spelling body shortest
a_full_session_gets_retained_qos_0 = refl

-- two silent ones with wills, a full session that the first will is for, and one that listens to all
abbrev silent_session : ℕ → List ℕ → Session
silent_session key topic = record {
  key = key;
  client = [];
  kept = false;
  here = Some (record { conn = key; alive = 1; heard = 0; will = Some (record { topic = topic; payload = []; qos = 1; retain = false }); drops = 0 });
  grants = [];
  used = [];
  last = 0;
  in_flight = [];
}

abbrev silent_broker : Broker
silent_broker = record {
  limit = 128;
  given = 9;
  made = 4;
  clock = 0;
  newcomers = [];
  sessions = silent_session 1 (codes "a") ∷ silent_session 2 (codes "b") ∷ record (full_session false) { grants = (codes "a", 1) ∷ [] } ∷ (record {
    key = 4;
    client = codes "y";
    kept = false;
    here = Some (record { conn = 8; alive = 0; heard = 0; will = None; drops = 0 });
    grants = (codes "#", 0) ∷ [];
    used = [];
    last = 0;
    in_flight = [];
  }) ∷ [];
  retained = [];
}

-- the will of the session that the first will ends goes behind the second one's
a_will_that_a_routing_frees_goes_behind_those_that_wait : outs silent_broker (Tick 1501 ∷ [])
    ≡ (to 8 (plain (codes "a") []) ∷ to 8 (plain (codes "b") []) ∷ to 8 (plain (codes "w") (codes "6")) ∷ [], 1 ∷ 2 ∷ 9 ∷ []) ∷ []
unfolding step route route_some has_bad_text has_bad_body is_qos_two spelling body shortest
a_will_that_a_routing_frees_goes_behind_those_that_wait = refl

-- one with a will, a full session that it is for, and a newer connection
abbrev older_broker : Broker
older_broker = record silent_broker {
  newcomers = record { conn = 2; heard = 0; drops = 0 } ∷ [];
  sessions = record (silent_session 1 (codes "a")) { client = codes "p" } ∷ record (full_session false) { grants = (codes "a", 1) ∷ [] } ∷ [];
}

-- behind the one that its will closes
the_older_connection_is_closed_last : outs older_broker (Packet 2 (hello (codes "p")) 0 ∷ []) ≡ (to 2 (ConnAck false 0) ∷ [], 9 ∷ 1 ∷ []) ∷ []
unfolding step route route_some has_bad_text has_bad_body is_qos_two spelling body shortest
the_older_connection_is_closed_last = refl

-- ---- limits

-- a thousand connections, or the greatest number, leave no room for one more
abbrev crowd : ℕ → ℕ → Broker
crowd count given = record (fresh_broker 128) { given = given; newcomers = replicate count (record { conn = 1; heard = 0; drops = 0 }) }

connection_1001_has_no_room : is_full (crowd 1000 1000) ≡ true
connection_1001_has_no_room = refl

the_1000th_connection_has_room : is_full (crowd 999 999) ≡ false
the_1000th_connection_has_room = refl

behind_the_greatest_number_there_is_none : is_full (crowd 0 last_number) ≡ true
behind_the_greatest_number_there_is_none = refl

the_greatest_number_is_given : is_full (crowd 0 18446744073709551614) ≡ false
the_greatest_number_is_given = refl

-- so many kept sessions, all of them away
abbrev away : ℕ → List Session
away count = replicate count (record { key = 1; client = codes "x"; kept = true; here = None; grants = []; used = []; last = 0; in_flight = [] })

kept_session_1001_has_no_room : welcome_in (codes "y") (away 1000) ≡ false
kept_session_1001_has_no_room = refl

the_1000th_kept_session_has_room : welcome_in (codes "y") (away 999) ≡ true
the_1000th_kept_session_has_room = refl

-- its session stands already
a_kept_client_comes_back_to_a_full_broker : welcome_in (codes "x") (away 1000) ≡ true
a_kept_client_comes_back_to_a_full_broker = refl

-- the 10,000th pair of session and filter is granted, the 10,001st gets 128, and a filter that stands gets its new grant
the_10001st_filter_gets_128 : codes_of 9999 [] ((codes "a", 0) ∷ (codes "b", 0) ∷ (codes "a", 2) ∷ []) ≡ 0 ∷ 128 ∷ 1 ∷ []
the_10001st_filter_gets_128 = refl

-- a refused entry leaves a standing grant alone
a_refused_entry_drops_no_grant : fold (with_entry 9999) ((codes "a", 1) ∷ []) ((codes "b", 0) ∷ []) ≡ (codes "a", 1) ∷ []
a_refused_entry_drops_no_grant = refl

-- the 10,001st topic isn't retained, but a present one and an empty message count
the_10001st_topic_is_not_kept : counts (replicate 10000 (codes "b")) (app_message_of 0) ≡ true
the_10001st_topic_is_not_kept = refl

abbrev full_app_message : AppMessage
full_app_message = record { topic = codes "a"; payload = codes "x"; qos = 0; retain = true }

a_further_topic_does_not_count : counts (replicate 10000 (codes "b")) full_app_message ≡ false
a_further_topic_does_not_count = refl

the_10000th_topic_counts : counts (replicate 9999 (codes "b")) full_app_message ≡ true
the_10000th_topic_counts = refl

-- topic, payload, and 9: as many as fixed header, topic length and identifier take at most
a_message_of_five_bytes_weighs_14 : weight (record { topic = codes "ab"; payload = codes "xyz"; qos = 1; retain = true }) ≡ 14
a_message_of_five_bytes_weighs_14 = refl

abbrev two_kept : Table Stored
two_kept = (codes "a", record { payload = codes "x"; qos = 1 }) ∷ (codes "b", record { payload = codes "yy"; qos = 0 }) ∷ []

-- 11 for the one, 11 and 12 for both, and the one that is named again
each_entry_weighs_by_itself : weight_of (flat_map (offers_to two_kept) ((codes "a", 0) ∷ (codes "+", 1) ∷ (codes "c", 1) ∷ (codes "a", 0) ∷ [])) ≡ 45
each_entry_weighs_by_itself = refl

-- a CONNECT is judged in order: an empty client id, the will's topic, the number of kept sessions
no_room_for_a_kept_session_is_code_3 : connect (asked (Some 7) false) 9 (codes "x") false 0 None ≡ turn_away 9 3
no_room_for_a_kept_session_is_code_3 = refl

a_clean_session_needs_no_room : connect (asked None false) 9 (codes "x") true 0 None ≡ Forget (codes "x") ∷ Accept 9 (codes "x") false 0 None ∷ []
a_clean_session_needs_no_room = refl

an_empty_client_is_judged_first : connect (asked None false) 9 [] false 0 (Some (record { topic = codes "+"; message = []; qos = 0; retain = false })) ≡ turn_away 9 2
an_empty_client_is_judged_first = refl

a_bad_will_topic_is_judged_before_the_room : connect (asked (Some 7) false) 9 (codes "x") false 0 (Some (record { topic = codes "+"; message = []; qos = 0; retain = false })) ≡ shut 9
a_bad_will_topic_is_judged_before_the_room = refl

-- a SUBSCRIBE whose entries are given too much closes, and nothing of it is given; a filter that is none closes too
too_much_closes : next_packet (record (asked None true) { heavy = true }) 1 (Subscribe 7 ((codes "a", 0) ∷ [])) ≡ shut 1
too_much_closes = refl

what_is_not_too_much_is_given : next_packet (asked None true) 1 (Subscribe 7 ((codes "a", 0) ∷ [])) ≡ Give 1 7 ((codes "a", 0) ∷ []) ∷ Route ∷ []
what_is_not_too_much_is_given = refl
