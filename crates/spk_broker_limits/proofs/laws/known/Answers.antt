use Rattle.spk_broker_limits.proofs.Whom.{stays_in}
use Rattle.spk_broker_limits.proofs.laws.known.Goals as goal

pub returns-clause-sends : goal.returns-clause-sends
returns-clause-sends c = λ b e k. (stays_in b e k).0

pub returns-clause-closes : goal.returns-clause-closes
returns-clause-closes c = λ b e k. (stays_in b e k).1
