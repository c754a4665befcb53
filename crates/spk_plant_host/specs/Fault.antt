-- Why a host's thread failed, as the fault of a plant (own rule).
use Rattle.spk_plan.specs.declared.fault.PlantFault.{PlantFault}
use Rattle.spk_plan.specs.declared.fault.PlantFault.TheVariants as plant
use Rattle.spk_plant_host.specs.declared.fault.HostCause.{HostCause}
use Rattle.spk_plant_host.specs.declared.fault.HostCause.TheVariants as why

abbrev pub fault_of : HostCause → PlantFault
fault_of why.NoMemory = plant.NoMemory
fault_of (why.Closed gone) = plant.Closed
