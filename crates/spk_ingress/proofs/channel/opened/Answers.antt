use Rattle.spk_ingress.proofs.Steps.{begins}
use Rattle.spk_ingress.proofs.channel.opened.Goals as goal

pub bounded_with-requires-clause-rule : goal.bounded_with-requires-clause-rule
bounded_with-requires-clause-rule c = begins
