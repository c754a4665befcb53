-- Why the broker's thread ended early, as the fault of a plant (own rule).
use Rattle.std.specs.Prelude.{Bool, true, false}
use Rattle.spk_plan.specs.declared.fault.PlantFault.{PlantFault}
use Rattle.spk_plan.specs.declared.fault.PlantFault.TheVariants as plant
use Rattle.spk_plant_broker.specs.declared.fault.BrokerFailed.{BrokerFailed}
use Rattle.spk_plant_broker.specs.declared.fault.BrokerFailed.TheVariants as failed

abbrev pub fault_of : BrokerFailed → PlantFault
fault_of failed.NoMemory = plant.NoMemory
fault_of (failed.Closed gone) = plant.Closed

abbrev pub is_closed : BrokerFailed → Bool
is_closed failed.NoMemory = false
is_closed (failed.Closed gone) = true
