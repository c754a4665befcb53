-- What is counted (own rules), deed by deed. A count stands at the greatest number.
use Rattle.std.specs.Prelude.{ℕ, ◌+◌, min, nat_le, nat_lt, Bool, true, false, ◌&&◌, List, [], ◌∷◌, if◌then◌else◌}
use Rattle.spk_packets.specs.Message.{Message, Publish}
use Rattle.spk_clients.specs.Client.{most_number}
use Rattle.spk_clients.specs.declared.client.Offered.{Offered}
use Rattle.spk_clients.specs.declared.client.Offered.TheVariants.{Taken, Refused, Passed}
use Rattle.spk_server.specs.declared.tally.Tally.{Tally}

abbrev pub fresh_tally : Tally
fresh_tally = record { heard = 0; sent = 0; dropped = 0; stalls = 0 }

abbrev pub one_more : ℕ → ℕ
one_more n = min (n + 1) most_number

abbrev pub is_publish : Message → Bool
is_publish (Publish dup qos retain topic id payload) = true
is_publish _ = false

-- The first byte of a PUBLISH: 3 in its upper half (MQTT 3.1.1, 2.2.1).
abbrev pub is_message : List ℕ → Bool
is_message [] = false
is_message (b ∷ bs) = nat_le 48 b && nat_lt b 64

-- a packet of a client was taken: a PUBLISH is counted
abbrev pub heard_with : Message → Tally → Tally
heard_with p t = if is_publish p then record t { heard = one_more t.heard } else t

-- a packet was offered to its client: a PUBLISH that was taken is counted, and each packet that was refused
abbrev pub handed_with : Offered → Bool → Tally → Tally
handed_with Taken message t = if message then record t { sent = one_more t.sent } else t
handed_with Refused message t = record t { dropped = one_more t.dropped }
handed_with Passed message t = t

-- a publisher is made to wait
abbrev pub stalled : Tally → Tally
stalled t = record t { stalls = one_more t.stalls }
