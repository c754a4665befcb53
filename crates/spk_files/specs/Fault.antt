-- The numbers of the refusals.
use Rattle.std.specs.Prelude.{ℕ}
use Rattle.spk_files.specs.declared.fault.FileFault.{FileFault}
use Rattle.spk_files.specs.declared.fault.FileFault.TheVariants.{NoMemory, BadPlan}

abbrev pub number_of : FileFault → ℕ
number_of NoMemory = 1
number_of BadPlan = 92
