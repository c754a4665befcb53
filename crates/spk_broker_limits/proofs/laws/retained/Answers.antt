use Rattle.spk_broker_limits.proofs.Topics.{always}
use Rattle.spk_broker_limits.proofs.laws.retained.Goals as goal

pub returns : goal.returns
returns c = always
