use Rattle.spk_ingress.specs.Passes.{TakesFrom}
use Rattle.spk_plant_host_tests.proofs.host.taken_of.Given as goal

abbrev pub invariant-loop : goal.invariant-loop
invariant-loop g l = TakesFrom l.ingress l.taker
