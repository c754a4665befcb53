-- What is read of a stream, as frames: its whole packets in order, and how it ends.
use Rattle.std.specs.Prelude.{◌≡◌, ◌≢◌, ◌⊎◌, ℕ, ◌<◌, ◌≤◌, List, [], ◌∷◌, ◌++◌, map, take, length, Option, Some, None}
use Rattle.std.specs.List.{concat}
use Rattle.std.specs.Io.KnownBytes.{Consumes, IsAtEnd}
use Rattle.spk_packets.specs.declared.fault.PacketFault.{PacketFault}
use Rattle.spk_packets.specs.declared.fault.PacketFault.TheVariants as packet
use Rattle.spk_packets.specs.Fault.{first_of}
use Rattle.spk_packets.specs.Refusals.{refusals}
use Rattle.spk_ingress.specs.Frame.{IsOnePacket}
use Rattle.spk_ingress.specs.declared.frame.Frame.{Frame}
use Rattle.spk_ingress.specs.declared.frame.Frame.TheVariants as frame
use Rattle.spk_engines.specs.declared.reading.Front.{Front}
use Rattle.spk_engines.specs.declared.reading.Front.TheVariants as front

abbrev pub AllPackets : List (List ℕ) → Type 0
AllPackets [] = Unit {0}
AllPackets (w ∷ ws) = IsOnePacket w × AllPackets ws

-- Bytes as whole packets, one behind the other, and what stands behind them: these packets were put, in order.
pub record Cuts (bytes rest : List ℕ) (put_before put : List Frame) : Type 0 where
  pub packets : List (List ℕ)
  pub parts : bytes ≡ concat packets ++ rest
  pub each : AllPackets packets
  pub put_them : put ≡ put_before ++ map frame.Packet packets

-- bytes were read, and so much of them was put; `left` is what the reader has left, where it is known
abbrev pub Reads : Option (List ℕ) → Option (List ℕ) → List ℕ → List Frame → List Frame → Type 0
Reads left_before left rest put_before put = (bytes : List ℕ) × Consumes left_before left bytes × Cuts bytes rest put_before put

-- at most so many bytes were read, where it is known what the reader has left
abbrev pub ReadsUpTo : ℕ → Option (List ℕ) → Option (List ℕ) → Type 0
ReadsUpTo most left_before left = (bytes : List ℕ) × Consumes left_before left bytes × (length bytes ≤ most)

-- no packet stands at the front, and more bytes might make it one
abbrev pub WantsMore : List ℕ → Type 0
WantsMore rest = first_of (refusals rest) ≡ Some packet.More

-- the stream ended there; what is left of a packet that wasn't whole is passed over
abbrev pub IsCut : Option (List ℕ) → List ℕ → List Frame → Type 0
IsCut left rest last = IsAtEnd left × WantsMore rest × (last ≡ frame.Cut ∷ [])

-- what follows is no packet, whatever comes behind it
abbrev pub IsFault : List ℕ → List Frame → Type 0
IsFault rest last = (f : PacketFault) × (f ≢ packet.More) × (first_of (refusals rest) ≡ Some f) × (last ≡ frame.Fault f ∷ [])

-- how a stream ends: one Cut at its end, or one Fault where it is refused
abbrev pub Ends : Option (List ℕ) → List ℕ → List Frame → Type 0
Ends left rest last = IsCut left rest last ⊎ IsFault rest last

-- A stream, read to its end or to what is refused: its packets in order, and the one frame of its end.
pub record IsWhole (left_before left : Option (List ℕ)) (put_before put : List Frame) : Type 0 where
  pub rest : List ℕ
  pub packets : List Frame
  pub last : List Frame
  pub reads : Reads left_before left rest put_before packets
  pub ends : Ends left rest last
  pub put_last : put ≡ packets ++ last

-- the packets of a front of what was read, in order
abbrev pub IsPart : Option (List ℕ) → Option (List ℕ) → List Frame → List Frame → Type 0
IsPart left_before left put_before put = (rest : List ℕ) × Reads left_before left rest put_before put

-- what was found at the front, and put if it is a packet

abbrev pub IsFront : Front → List ℕ → List Frame → List Frame → Type 0
IsFront (front.Put n) bytes put_before put =
    (n ≤ length bytes) × (0 < n) × IsOnePacket (take n bytes) × (put ≡ put_before ++ frame.Packet (take n bytes) ∷ [])
IsFront front.More bytes put_before put = WantsMore bytes × (put ≡ put_before)
IsFront (front.Refused f) bytes put_before put = (f ≢ packet.More) × (first_of (refusals bytes) ≡ Some f) × (put ≡ put_before)

-- why no further packet is put: more bytes are wanted, or what stands there is refused
abbrev pub Stops : Option PacketFault → List ℕ → Type 0
Stops None rest = WantsMore rest
Stops (Some f) rest = (f ≢ packet.More) × (first_of (refusals rest) ≡ Some f)

-- what one read gave: so many bytes, or none for an error that doesn't count
abbrev pub IsPiece : Option (List ℕ) → Option (List ℕ) → List ℕ → Option ℕ → Type 0
IsPiece left_before left piece None = Consumes left_before left []
IsPiece left_before left piece (Some n) = (n ≤ length piece) × Consumes left_before left (take n piece) × (n ≡ 0 → IsAtEnd left)

-- what was read behind what waited was put, as far as it is packets
abbrev pub TakesIn : Option PacketFault → List ℕ → List ℕ → List Frame → List Frame → Type 0
TakesIn stop bytes rest put_before put = Cuts bytes rest put_before put × Stops stop rest
