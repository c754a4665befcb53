-- A stream of packets that comes in pieces.
use Rattle.std.specs.Prelude.{◌≡◌, ℕ, List, [], ◌∷◌, ◌++◌, Option, Some, None, Result, Ok, Err}
use Rattle.spk_packets.specs.declared.fault.PacketFault.{PacketFault}
use Rattle.spk_packets.specs.declared.fault.PacketFault.TheVariants.{NoMemory}
use Rattle.spk_packets.specs.declared.packet.Packet.{Packet}
use Rattle.spk_packets.specs.Message.{Message}
use Rattle.spk_packets.specs.Grammar.{Spells}
use Rattle.spk_packets.specs.View.{view}

-- the most bytes that may wait, two of the greatest packets (own rule)
abbrev pub most_waiting : ℕ
most_waiting = 2097152

-- the old bytes are the packet, and then the new
abbrev pub TakesPacket : List ℕ → Message → List ℕ → Type 0
TakesPacket old p new = (front : List ℕ) × Spells front p × (old ≡ front ++ new)

-- that packet was given, unless memory ran out
abbrev pub IsGiven : Result (Option Packet) PacketFault → Message → Type 0
IsGiven (Ok (Some packet)) p = view packet ≡ p
IsGiven (Ok None) p = ⊥
IsGiven (Err e) p = e ≡ NoMemory

-- ---- runs of calls

-- what one call did: a piece was taken in, a packet was given, or nothing was taken or given
pub data Event : Type 0 where
  Fed : (piece : List ℕ) → Event
  Gave : (p : Message) → Event
  Rested : Event

-- no packet stands at the front
abbrev pub HasNoPacket : List ℕ → Type 0
HasNoPacket bytes = (front rest : List ℕ) (p : Message) → Spells front p → bytes ≡ front ++ rest → ⊥

-- The calls may go so, from the bytes that wait before to those that wait after: what `feed` and `next` ensure.
abbrev pub IsRun : List ℕ → List Event → List ℕ → Type 0
IsRun old [] new = old ≡ new
IsRun old (Fed piece ∷ events) new = IsRun (old ++ piece) events new
IsRun old (Gave p ∷ events) new = (between : List ℕ) × TakesPacket old p between × IsRun between events new
IsRun old (Rested ∷ events) new = IsRun old events new

-- all that was taken in
abbrev pub fed : List Event → List ℕ
fed [] = []
fed (Fed piece ∷ events) = piece ++ fed events
fed (Gave p ∷ events) = fed events
fed (Rested ∷ events) = fed events

-- the packets that were given, in order
abbrev pub given : List Event → List Message
given [] = []
given (Fed piece ∷ events) = given events
given (Gave p ∷ events) = p ∷ given events
given (Rested ∷ events) = given events
