use Rattle.std.proofs.Common.{subst}
use Rattle.spk_broker.specs.Touched.{IsAlone}
use Rattle.spk_broker.proofs.packet_end.Ending.alone.Goals as goal

pub returns-in-Some-clause-ready : goal.returns-in-Some-clause-ready
returns-in-Some-clause-ready c d h = subst (λ o. IsAlone o d) c.in-Some.is h
