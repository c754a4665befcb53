use Rattle.spk_ingress.specs.Passes.{PutsInto}
use Rattle.spk_channel_tests.proofs.ingress.put_many.Given as goal

abbrev pub invariant-loop : goal.invariant-loop
invariant-loop g l = PutsInto l.ingress l.pass
