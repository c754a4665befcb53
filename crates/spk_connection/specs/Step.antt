-- A connection after each call, and what a call is refused for. Moments are in milliseconds.
use Rattle.std.specs.Prelude.{◌≡◌, ℕ, ◌+◌, ◌<◌, ◌≤◌, ◌==◌, Bool, true, false, List, [], ◌∷◌, ◌++◌, length, take, drop, Result, Ok, Err, if◌then◌else◌}
use Rattle.spk_link.specs.declared.stand.Stand.{Stand}
use Rattle.spk_link.specs.declared.stand.Stand.TheVariants.{Off, On}
use Rattle.spk_link.specs.Step as link
use Rattle.spk_packets.specs.Grammar.{Spells}
use Rattle.spk_packets.specs.Message.{Message}
use Rattle.spk_packets.specs.Stream.{TakesPacket, most_waiting}
use Rattle.spk_packets.specs.declared.fault.PacketFault.{PacketFault}
use Rattle.spk_packets.specs.declared.fault.PacketFault.TheVariants as packet
use Rattle.spk_connection.specs.declared.fault.ConnectionFault.{ConnectionFault}
use Rattle.spk_connection.specs.declared.fault.ConnectionFault.TheVariants.{NoMemory, TooLarge, NotOpen}
use Rattle.spk_connection.specs.Data.{Connection}

-- there was no connection yet
abbrev pub fresh_connection : ℕ → ℕ → Connection
fresh_connection keep spread = record { link = link.fresh_link keep spread; unread = []; unwritten = [] }

abbrev pub stands_open : Stand → Bool
stands_open (Off at) = false
stands_open (On moments) = true

-- there is a connection
abbrev pub is_open : Connection → Bool
is_open c = stands_open c.link.stand

-- PINGREQ (MQTT 3.1.1, section 3.12)
abbrev pub ping : List ℕ
ping = 192 ∷ 0 ∷ []

-- ---- after each call

-- it begins; where there is one already, nothing changes
abbrev pub after_opened : Connection → ℕ → Connection
after_opened c now = record c { link = link.after_opened c.link now }

abbrev pub after_read : Connection → List ℕ → ℕ → Connection
after_read c piece now = record c { link = link.after_heard c.link now; unread = c.unread ++ piece }

-- the packet at the front of what was read is taken off
pub record IsTaken (old : Connection) (p : Message) (new : Connection) : Type 0 where
  pub front : TakesPacket old.unread p new.unread
  pub stays : new ≡ record old { unread = new.unread }

-- so many bytes at the front are a packet
pub record IsFront (bytes : List ℕ) (size : ℕ) : Type 0 where
  pub packet : Message
  pub within : size ≤ length bytes
  pub spelled : Spells (take size bytes) packet

-- the packet at the front has as many bytes as this, unless memory ran out
abbrev pub IsSize : List ℕ → Result ℕ PacketFault → Type 0
IsSize front (Ok size) = size ≡ length front
IsSize front (Err e) = e ≡ packet.NoMemory

-- these bytes stand at the front of what was read, and are a packet
pub record IsLent (c : Connection) (bytes : List ℕ) : Type 0 where
  pub packet : Message
  pub rest : List ℕ
  pub spelled : Spells bytes packet
  pub parts : c.unread ≡ bytes ++ rest

-- so many bytes of what was read are passed over; more than wait are all
abbrev pub after_passed : Connection → ℕ → Connection
after_passed c size = record c { unread = drop size c.unread }

abbrev pub after_sent : Connection → List ℕ → Connection
after_sent c packet = record c { unwritten = c.unwritten ++ packet }

abbrev pub after_asked : Connection → ℕ → Connection
after_asked c now = record c { link = link.after_asked c.link now; unwritten = c.unwritten ++ ping }

-- so many bytes were written; more than wait are all
abbrev pub after_wrote : Connection → ℕ → ℕ → Connection
after_wrote c count now = if count == 0 then c else record c { link = link.after_sent c.link now; unwritten = drop count c.unwritten }

-- nothing of it is left for the next one
abbrev pub after_over : Connection → ℕ → Connection
after_over c now = record { link = link.after_over c.link now; unread = []; unwritten = [] }

-- ---- refusals

-- why bytes that were read aren't taken in
abbrev pub IsUnread : Connection → List ℕ → ConnectionFault → Type 0
IsUnread c piece NotOpen = is_open c ≡ false
IsUnread c piece TooLarge = (is_open c ≡ true) × (most_waiting < length c.unread + length piece)
IsUnread c piece NoMemory = is_open c ≡ true

-- why nothing is sent
abbrev pub IsUnsent : Connection → ConnectionFault → Type 0
IsUnsent c NotOpen = is_open c ≡ false
IsUnsent c TooLarge = ⊥
IsUnsent c NoMemory = is_open c ≡ true
