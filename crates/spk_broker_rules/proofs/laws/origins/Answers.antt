use Rattle.spk_broker_rules.proofs.Origins.{origins}
use Rattle.spk_broker_rules.proofs.laws.origins.Goals as goal

pub returns : goal.returns
returns c = origins
