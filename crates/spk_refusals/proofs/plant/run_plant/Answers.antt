use Rattle.std.proofs.Common.{arith}
use Rattle.spk_refusals.proofs.plant.run_plant.Goals as goal

pub returns-clause-ran : goal.returns-clause-ran
returns-clause-ran g c = first_of (assumption c.run_plant.ensures.ran, grind arith)

pub returns-clause-can : goal.returns-clause-can
returns-clause-can g c = first_of (assumption c.run_plant.ensures.can, grind arith)

pub returns-clause-made : goal.returns-clause-made
returns-clause-made g c = first_of (assumption c.run_plant.ensures.made, grind arith)

pub returns-clause-fault : goal.returns-clause-fault
returns-clause-fault g c = first_of (assumption c.run_plant.ensures.fault, grind arith)
