use Rattle.spk_plant_laws.proofs.Plants.{is_plant, opens_few, publishes}
use Rattle.spk_plant_laws.proofs.laws.plant.Goals as goal

pub returns-clause-is_plant : goal.returns-clause-is_plant
returns-clause-is_plant c = is_plant

pub returns-clause-published : goal.returns-clause-published
returns-clause-published c = publishes

pub returns-clause-opened : goal.returns-clause-opened
returns-clause-opened c = opens_few
