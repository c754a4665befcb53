use Rattle.spk_ingress.specs.Passes.{TakesFrom}
use Rattle.spk_channel_tests.proofs.engines.taken_of.Given as goal

abbrev pub invariant-loop-packets : goal.invariant-loop-packets
invariant-loop-packets g l = TakesFrom l.ingress l.taker
