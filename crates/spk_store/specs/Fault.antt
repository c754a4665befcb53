-- The number of each fault.
use Rattle.std.specs.Prelude.{ℕ}
use Rattle.spk_store.specs.declared.fault.StoreFault.{StoreFault}
use Rattle.spk_store.specs.declared.fault.StoreFault.TheVariants.{NoMemory}

abbrev pub number_of : StoreFault → ℕ
number_of NoMemory = 1
