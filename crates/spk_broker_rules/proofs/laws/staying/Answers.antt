use Rattle.spk_broker_rules.proofs.Staying.{stays-joined, stays-listening}
use Rattle.spk_broker_rules.proofs.laws.staying.Goals as goal

pub returns-clause-joined : goal.returns-clause-joined
returns-clause-joined c = stays-joined

pub returns-clause-listening : goal.returns-clause-listening
returns-clause-listening c = stays-listening
