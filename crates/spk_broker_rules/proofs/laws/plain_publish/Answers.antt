use Rattle.std.proofs.Common.{ap}
use Rattle.spk_broker_rules.specs.Step.{Turn}
use Rattle.spk_broker_rules.proofs.Publishing.{published}
use Rattle.spk_broker_rules.proofs.laws.plain_publish.Goals as goal

pub returns-clause-sends : goal.returns-clause-sends
returns-clause-sends c = λ b conn moment topic payload plain joined. ap (λ (t : Turn). t.sends) (published b conn moment topic payload plain joined)

pub returns-clause-closes : goal.returns-clause-closes
returns-clause-closes c = λ b conn moment topic payload plain joined. ap (λ (t : Turn). t.closes) (published b conn moment topic payload plain joined)

pub returns-clause-left : goal.returns-clause-left
returns-clause-left c = λ b conn moment topic payload plain joined. ap (λ (t : Turn). t.broker) (published b conn moment topic payload plain joined)
