-- The number of each fault.
use Rattle.std.specs.Prelude.{ℕ}
use Rattle.spk_network.specs.declared.fault.NetworkFault.{NetworkFault}
use Rattle.spk_network.specs.declared.fault.NetworkFault.TheVariants.{NoMemory, Device}

abbrev pub number_of : NetworkFault → ℕ
number_of NoMemory = 1
number_of Device = 96
