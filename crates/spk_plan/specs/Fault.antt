-- The numbers of the refusals of a plant.
use Rattle.std.specs.Prelude.{ℕ}
use Rattle.spk_plan.specs.declared.fault.PlantFault.{PlantFault}
use Rattle.spk_plan.specs.declared.fault.PlantFault.TheVariants.{NoMemory, Closed, BadPlan, Unsettled}

abbrev pub number_of : PlantFault → ℕ
number_of NoMemory = 1
number_of Closed = 90
number_of BadPlan = 92
number_of Unsettled = 93
