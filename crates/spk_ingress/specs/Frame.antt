-- Bytes that are one packet (MQTT 3.1.1, chapters 2 and 3).
use Rattle.std.specs.Prelude.{ℕ, ◌<◌, List, length, take}
use Rattle.spk_packets.specs.Message.{Message}
use Rattle.spk_packets.specs.Grammar.{Spells}
use Rattle.spk_packets.specs.Fault.{IsNamed, first_of}
use Rattle.spk_packets.specs.Refusals.{refusals}
use Rattle.spk_ingress.specs.declared.fault.FrameFault.{FrameFault}
use Rattle.spk_ingress.specs.declared.fault.FrameFault.TheVariants as fault

abbrev pub IsOnePacket : List ℕ → Type 0
IsOnePacket bytes = (p : Message) × Spells bytes p

-- a packet stands at the front, and bytes behind it
abbrev pub HasMore : List ℕ → Type 0
HasMore bytes = (n : ℕ) × (p : Message) × (n < length bytes) × Spells (take n bytes) p

-- why bytes are no frame: what the packet reader refuses first, or bytes behind a packet
abbrev pub NamesFault : List ℕ → FrameFault → Type 0
NamesFault bytes (fault.Packet f) = IsNamed f (first_of (refusals bytes))
NamesFault bytes fault.NotOne = HasMore bytes
