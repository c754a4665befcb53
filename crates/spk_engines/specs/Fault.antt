-- The numbers of the refusals.
use Rattle.std.specs.Prelude.{ℕ}
use Rattle.spk_engines.specs.declared.fault.EngineFault.{EngineFault}
use Rattle.spk_engines.specs.declared.fault.EngineFault.TheVariants.{NoMemory, Closed, TurnsSpent, Device}

abbrev pub number_of : EngineFault → ℕ
number_of NoMemory = 1
number_of Closed = 90
number_of TurnsSpent = 94
number_of Device = 96
