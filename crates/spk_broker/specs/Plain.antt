-- Packets whose effect is drafted as a whole.
use Rattle.std.specs.Prelude.{Bool, true, false}
use Rattle.spk_packets.specs.Message.{Message, Publish, PubAck}

-- any but a PUBLISH, and those that change a settled session
abbrev pub is_plain : Message → Bool
is_plain (Publish dup qos retain topic id payload) = false
is_plain (PubAck id) = false
is_plain _ = true
