-- The numbers of the refusals.
use Rattle.std.specs.Prelude.{ℕ}
use Rattle.spk_rings.specs.declared.fault.RingFault.{RingFault}
use Rattle.spk_rings.specs.declared.fault.RingFault.TheVariants as fault

abbrev pub number_of : RingFault → ℕ
number_of fault.NoMemory = 1
number_of fault.BadPlan = 92
