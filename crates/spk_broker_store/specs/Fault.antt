-- The numbers of the refusals, and when each is due.
use Rattle.std.specs.Prelude.{◌≡◌, ℕ, true, Option, None, is_some}
use Rattle.spk_packets.specs.declared.fault.PacketFault.{PacketFault}
use Rattle.spk_packets.specs.declared.fault.PacketFault.TheVariants as packet
use Rattle.spk_broker.specs.declared.part_fault.PartFault.{PartFault}
use Rattle.spk_broker.specs.declared.part_fault.PartFault.TheVariants as part
use Rattle.spk_broker_store.specs.declared.fault.StoreFault.{StoreFault}
use Rattle.spk_broker_store.specs.declared.fault.StoreFault.TheVariants.{NoMemory, Unfit, Unkept}

abbrev pub number_of : StoreFault → ℕ
number_of NoMemory = 1
number_of Unfit = 139
number_of Unkept = 141

-- what another crate's refusal comes to
abbrev pub of_part : PartFault → StoreFault
of_part part.NoMemory = NoMemory
of_part part.Unfit = Unfit

abbrev pub of_packet : PacketFault → StoreFault
of_packet packet.NoMemory = NoMemory
of_packet _ = Unfit

-- what a broker is refused with whose lines are to be written: Unfit exactly where one of them can't be, or want of memory
abbrev pub IsNotWritten : Option PacketFault → StoreFault → Type 0
IsNotWritten named NoMemory = Unit {0}
IsNotWritten named Unfit = is_some named ≡ true
IsNotWritten named Unkept = ⊥

-- and where they are to stand on the disk: Unkept where each can be written, and the disk failed
abbrev pub IsNotBegun : Option PacketFault → StoreFault → Type 0
IsNotBegun named NoMemory = Unit {0}
IsNotBegun named Unfit = is_some named ≡ true
IsNotBegun named Unkept = named ≡ None
