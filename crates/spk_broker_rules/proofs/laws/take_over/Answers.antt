use Rattle.spk_broker_rules.proofs.Small.{takes-over}
use Rattle.spk_broker_rules.proofs.laws.take_over.Goals as goal

pub returns : goal.returns
returns c = takes-over
