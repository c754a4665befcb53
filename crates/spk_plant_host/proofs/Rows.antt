-- Lists of items, computed by hand.
use Rattle.std.proofs.Common.{◌≡◌, refl, [], ◌∷◌, Some, None}
use Rattle.spk_packets.specs.Message.{PubAck}
use Rattle.spk_packets.specs.Spelling.{spelling}
use Rattle.spk_reading.specs.Data.{Answered, Granted, Nothing, Published}
use Rattle.spk_host_session.specs.Data.{Config}
use Rattle.spk_host_session.specs.Packets.{connect_of, online_of, subscribe_of}
use Rattle.spk_host.specs.Inputs.{Connected, Heard, Ticked}
use Rattle.spk_plant_host.specs.Calls.{done, packets_of}
use Rattle.spk_plant_host.specs.Told.{asked, calls_of}

-- SUBACK came behind bytes that the host refuses: each has a moment of its own, and a tick
suback_second : asked (Some Granted ∷ None ∷ []) ≡ Ticked 2 ∷ Heard Granted 2 ∷ Ticked 1 ∷ Connected 0 ∷ []
suback_second = refl

-- CONNACK with code 5 ends the session: nothing is done after it
turned_away : (c : Config) → calls_of c (Some Granted ∷ Some (Answered 5) ∷ []) ≡ Heard (Answered 5) 1 ∷ Connected 0 ∷ []
unfolding done
turned_away c = refl

-- CONNECT, then SUBSCRIBE for CONNACK, STATE for SUBACK, and PUBACK for a command at QoS 1
welcome : (c : Config) → packets_of c (calls_of c (Some (Published (Some 7) Nothing) ∷ Some Granted ∷ Some (Answered 0) ∷ [])) ≡
    spelling (connect_of c 0) ∷ spelling (subscribe_of c) ∷ spelling (online_of c 0) ∷ spelling (PubAck 7) ∷ []
unfolding done packets_of
welcome c = refl
