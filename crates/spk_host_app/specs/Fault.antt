-- The number of each fault.
use Rattle.std.specs.Prelude.{ℕ}
use Rattle.spk_host_app.specs.declared.fault.HostAppFault.{HostAppFault}
use Rattle.spk_host_app.specs.declared.fault.HostAppFault.TheVariants.{NoMemory, TooLarge, WrongPhase, NotOpen, NoPacket, BadLogin}

abbrev pub number_of : HostAppFault → ℕ
number_of NoMemory = 1
number_of TooLarge = 16
number_of WrongPhase = 75
number_of NotOpen = 112
number_of NoPacket = 120
number_of BadLogin = 121
