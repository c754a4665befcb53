-- The numbers of the refusals, and when each is due.
use Rattle.std.specs.Prelude.{◌≡◌, ℕ, Bool, true, false}
use Rattle.spk_packets.specs.declared.fault.PacketFault.{PacketFault}
use Rattle.spk_packets.specs.declared.fault.PacketFault.TheVariants as packet
use Rattle.spk_broker.specs.declared.fault.BrokerFault.{BrokerFault}
use Rattle.spk_broker.specs.declared.fault.BrokerFault.TheVariants as broker
use Rattle.spk_broker_notes.specs.declared.fault.NoteFault.{NoteFault}
use Rattle.spk_broker_notes.specs.declared.fault.NoteFault.TheVariants.{NoMemory, NoSuchConn, Limit, Unwritten}

abbrev pub number_of : NoteFault → ℕ
number_of NoMemory = 1
number_of NoSuchConn = 30
number_of Limit = 31
number_of Unwritten = 140

-- what another crate's refusal comes to
abbrev pub of_packet : PacketFault → NoteFault
of_packet packet.NoMemory = NoMemory
of_packet _ = Unwritten

abbrev pub of_broker : BrokerFault → NoteFault
of_broker broker.NoMemory = NoMemory
of_broker broker.NoSuchConn = NoSuchConn
of_broker broker.Limit = Limit

-- what `open` and `tick` are refused with: Limit exactly where they may go no further, or want of memory
abbrev pub IsLimit : Bool → NoteFault → Type 0
IsLimit full NoMemory = Unit {0}
IsLimit full NoSuchConn = ⊥
IsLimit full Limit = full ≡ true
IsLimit full Unwritten = ⊥

-- What a call for a connection is refused with: Unwritten exactly where its packet is to be noted and can't be, else NoSuchConn exactly where the
-- connection isn't known, or want of memory.
abbrev pub IsUnknown : (unwritten known : Bool) → NoteFault → Type 0
IsUnknown unwritten known NoMemory = Unit {0}
IsUnknown unwritten known NoSuchConn = (unwritten ≡ false) × (known ≡ false)
IsUnknown unwritten known Limit = ⊥
IsUnknown unwritten known Unwritten = unwritten ≡ true
