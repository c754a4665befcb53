-- The number of each fault.
use Rattle.std.specs.Prelude.{ℕ}
use Rattle.spk_connection.specs.declared.fault.ConnectionFault.{ConnectionFault}
use Rattle.spk_connection.specs.declared.fault.ConnectionFault.TheVariants.{NoMemory, TooLarge, NotOpen}

abbrev pub number_of : ConnectionFault → ℕ
number_of NoMemory = 1
number_of TooLarge = 16
number_of NotOpen = 112
