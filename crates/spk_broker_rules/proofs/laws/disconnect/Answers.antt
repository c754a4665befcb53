use Rattle.spk_broker_rules.proofs.Small.{quietly}
use Rattle.spk_broker_rules.proofs.laws.disconnect.Goals as goal

pub returns : goal.returns
returns c = quietly
