-- What is read off a run of deeds, newest first: what happened to the connection, and what the node was told.
use Rattle.std.specs.Prelude.{ℕ, ◌==◌, Bool, true, false, List, [], ◌∷◌, ◌++◌, Option, Some, None, if◌then◌else◌}
use Rattle.std.specs.List.{flat_map}
use Rattle.spk_connection.specs.Run.{Event}
use Rattle.spk_connection.specs.Run as event
use Rattle.spk_edge.specs.Calls.{Call, CutOff, Tell}
use Rattle.spk_edge.specs.Patch.{plain_input}
use Rattle.spk_edge_rules.specs.Arriving.{input_of}
use Rattle.spk_edge_rules.specs.Config.{Config}
use Rattle.spk_edge_rules.specs.Inputs as inputs
use Rattle.spk_packets.specs.Message.{Message, Publish}
use Rattle.spk_edge_app.specs.Data.{Coming, Answered, Refused, Dropped, Deed, Opened, Read, Heard, Told, Asked, Wrote, Saved, GaveUp, Over}
use Rattle.spk_edge_app.specs.Step.{bytes_in, puback}

-- ---- the record

-- the record that was wanted is on the disk
abbrev pub is_saved : Deed → Bool
is_saved (Saved saved) = true
is_saved _ = false

-- ---- the connection

-- these bytes were sent, if there are some
abbrev pub sent_as : Bool → List ℕ → List Event
sent_as true [] = []
sent_as true (b ∷ bs) = event.Sent (b ∷ bs) ∷ []
sent_as false bytes = []

-- the identifier under which a packet is acknowledged, if it is: that of a PUBLISH of QoS 1
abbrev pub ack_in : Message → Option ℕ
ack_in (Publish dup qos retain topic id payload) = if qos == 1 then id else None
ack_in _ = None

abbrev pub acknowledged_as : Option ℕ → List Event
acknowledged_as None = []
acknowledged_as (Some id) = event.Sent (puback id) ∷ []

-- what was sent for a packet that was taken
abbrev pub sent_for : Message → Coming → List Event
sent_for packet (Answered out sent) = sent_as sent (bytes_in out)
sent_for packet (Refused fault) = acknowledged_as (ack_in packet)
sent_for packet Dropped = []

-- what a deed is to the connection
abbrev pub on_connection : Deed → List Event
on_connection (Opened now out bytes sent) = sent_as sent bytes ++ event.Opened now ∷ []
on_connection (Read piece now) = event.Read piece now ∷ []
on_connection (Heard packet now came) = sent_for packet came ++ event.Took packet ∷ []
on_connection (Told input out sent) = sent_as sent (bytes_in out)
on_connection (Asked now) = event.Asked now ∷ []
on_connection (Wrote first others now) = event.Wrote first others now ∷ []
on_connection (Over now) = event.Over now ∷ []
on_connection _ = []

abbrev pub of_connection : List Deed → List Event
of_connection deeds = flat_map on_connection deeds

-- ---- the node

-- where an answer was dropped the session is cut
abbrev pub cut_where : Bool → List Call
cut_where true = []
cut_where false = CutOff ∷ []

-- what the node was told of a packet that was taken
abbrev pub told_of : Config → Message → ℕ → Coming → List Call
told_of c packet now (Answered out sent) = cut_where sent ++ Tell (input_of c now packet) out ∷ []
told_of c packet now (Refused fault) = []
told_of c packet now Dropped = CutOff ∷ []

-- what a deed is to the node
abbrev pub on_node : Config → Deed → List Call
on_node c (Opened now out bytes sent) = cut_where sent ++ Tell (plain_input now inputs.Open) out ∷ []
on_node c (Heard packet now came) = told_of c packet now came
on_node c (Told input out sent) = cut_where sent ++ Tell input out ∷ []
on_node c (GaveUp now) = CutOff ∷ []
on_node c (Over now) = CutOff ∷ []
on_node c _ = []

abbrev pub of_node : Config → List Deed → List Call
of_node c deeds = flat_map (on_node c) deeds
