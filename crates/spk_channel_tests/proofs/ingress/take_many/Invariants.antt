use Rattle.spk_ingress.specs.Passes.{TakesFrom}
use Rattle.spk_channel_tests.proofs.ingress.take_many.Given as goal

abbrev pub invariant-loop : goal.invariant-loop
invariant-loop g l = TakesFrom l.ingress l.taker
