use Rattle.spk_ingress.specs.Passes.{TakesFrom}
use Rattle.spk_channel_tests.proofs.paces.take_at.Given as goal

abbrev pub invariant-loop-taken : goal.invariant-loop-taken
invariant-loop-taken g l = TakesFrom l.ingress l.taker
