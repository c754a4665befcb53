-- The number of each fault.
use Rattle.std.specs.Prelude.{ℕ}
use Rattle.spk_state.specs.declared.fault.StateFault.{StateFault}
use Rattle.spk_state.specs.declared.fault.StateFault.TheVariants.{NoMemory, BadState}

abbrev pub number_of : StateFault → ℕ
number_of NoMemory = 1
number_of BadState = 50
