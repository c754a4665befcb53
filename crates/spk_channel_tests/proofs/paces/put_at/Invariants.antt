use Rattle.spk_ingress.specs.Passes.{PutsInto}
use Rattle.spk_channel_tests.proofs.paces.put_at.Given as goal

abbrev pub invariant-loop : goal.invariant-loop
invariant-loop g l = PutsInto l.ingress l.pass
