use Rattle.spk_broker_rules.proofs.AnyList.{step-lawful}
use Rattle.spk_broker_rules.proofs.laws.lawful.Goals as goal

pub returns : goal.returns
returns c = step-lawful
