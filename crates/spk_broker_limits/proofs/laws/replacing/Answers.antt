use Rattle.spk_broker_limits.proofs.Topics.{leaves, replaces}
use Rattle.spk_broker_limits.proofs.laws.replacing.Goals as goal

pub returns-clause-present : goal.returns-clause-present
returns-clause-present c = λ m t r p h. replaces t.broker.retained m r p h

pub returns-clause-further : goal.returns-clause-further
returns-clause-further c = λ m t p h n. leaves t.broker.retained m p h n
