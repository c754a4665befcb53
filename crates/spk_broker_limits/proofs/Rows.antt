-- Which wills are routed at worked lists of events, named by what they show.
use Rattle.std.proofs.Common.{◌≡◌, ℕ, true, false, List, [], ◌∷◌, refl, Some, None, reverse}
use Rattle.std.specs.Prelude.{codes}
use Rattle.spk_packets.specs.declared.fault.PacketFault.TheVariants as fault
use Rattle.spk_packets.specs.Message.{Message, Connect, Publish, Disconnect}
use Rattle.spk_packets.specs.Spelling.{has_bad_text, has_bad_body, is_qos_two, spelling, body, shortest}
use Rattle.spk_session.specs.declared.answer.Sort.TheVariants as sort
use Rattle.spk_broker_rules.specs.Data.{AppMessage}
use Rattle.spk_broker_rules.specs.Plan.{Event, Open, Packet, Fault, Closed, Tick, Refused}
use Rattle.spk_broker_rules.specs.Step.{step, route, route_some}
use Rattle.spk_broker_limits.specs.Wills.{all_lost, all_taken}

abbrev will : AppMessage
will = record { topic = codes "w"; payload = codes "6"; qos = 0; retain = false }

-- keep alive 1 second
abbrev with_will : List ℕ → Message
with_will client = Connect client true 1 (Some (record { topic = codes "w"; message = codes "6"; qos = 0; retain = false }))

abbrev hello : List ℕ → Message
hello client = Connect client true 0 None

-- connection 1 joins with a will, and then this happens, oldest first
abbrev wills : List Event → List (ℕ × AppMessage)
wills es = all_lost 128 (reverse (Open 0 ∷ Packet 1 (with_will (codes "x")) 0 ∷ es))

abbrev its_will : List (ℕ × AppMessage)
its_will = (1, will) ∷ []

none_while_it_stands : wills (Tick 1500 ∷ Refused 1 sort.QosZero 0 ∷ []) ≡ []
unfolding step route route_some has_bad_text has_bad_body is_qos_two spelling body shortest
none_while_it_stands = refl

once_where_it_is_gone : wills (Closed 1 0 ∷ Tick 9999 ∷ Closed 1 0 ∷ []) ≡ its_will
unfolding step route route_some has_bad_text has_bad_body is_qos_two spelling body shortest
once_where_it_is_gone = refl

none_behind_a_disconnect : wills (Packet 1 Disconnect 0 ∷ Closed 1 0 ∷ Tick 9999 ∷ []) ≡ []
unfolding step route route_some has_bad_text has_bad_body is_qos_two spelling body shortest
none_behind_a_disconnect = refl

at_a_fault : wills (Fault 1 fault.BadBody 0 ∷ []) ≡ its_will
unfolding step route route_some has_bad_text has_bad_body is_qos_two spelling body shortest
at_a_fault = refl

where_it_is_silent : wills (Tick 1501 ∷ []) ≡ its_will
unfolding step route route_some has_bad_text has_bad_body is_qos_two spelling body shortest
where_it_is_silent = refl

at_a_refused_send : wills (Refused 1 sort.Other 0 ∷ []) ≡ its_will
unfolding step route route_some has_bad_text has_bad_body is_qos_two spelling body shortest
at_a_refused_send = refl

at_a_second_connect : wills (Packet 1 (hello (codes "x")) 0 ∷ []) ≡ its_will
unfolding step route route_some has_bad_text has_bad_body is_qos_two spelling body shortest
at_a_second_connect = refl

-- not another client's
at_a_take_over : wills (Open 0 ∷ Packet 2 (hello (codes "x")) 0 ∷ Open 0 ∷ Packet 3 (hello (codes "y")) 0 ∷ []) ≡ its_will
unfolding step route route_some has_bad_text has_bad_body is_qos_two spelling body shortest
at_a_take_over = refl

-- the newest event first
each_one_its_own : wills (Open 0 ∷ Packet 2 (with_will (codes "y")) 0 ∷ Closed 1 0 ∷ Closed 2 0 ∷ []) ≡ (2, will) ∷ (1, will) ∷ []
unfolding step route route_some has_bad_text has_bad_body is_qos_two spelling body shortest
each_one_its_own = refl

-- an empty client id without clean session
none_of_who_is_turned_away : all_lost 128 (Packet 1 (Connect [] false 0 (Some (record { topic = codes "w"; message = codes "6"; qos = 0; retain = false }))) 0 ∷ Open 0 ∷ []) ≡ []
unfolding step route route_some has_bad_text has_bad_body is_qos_two spelling body shortest
none_of_who_is_turned_away = refl

-- of whoever hasn't joined nothing is taken, and no wildcard
a_publish_is_taken_of_who_joined : all_taken 128 (reverse (Open 0 ∷ Packet 1 (hello (codes "x")) 0 ∷ Packet 1 (Publish false 0 false (codes "w") None (codes "6")) 0 ∷ Packet 1 (Publish false 0 false (codes "+") None []) 0 ∷ Open 0
    ∷ Packet 2 (Publish false 0 false (codes "w") None []) 0 ∷ [])) ≡ will ∷ []
unfolding step route route_some has_bad_text has_bad_body is_qos_two spelling body shortest
a_publish_is_taken_of_who_joined = refl
