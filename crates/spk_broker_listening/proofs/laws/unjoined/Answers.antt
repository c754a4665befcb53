use Rattle.spk_broker_listening.proofs.First.{unjoined}
use Rattle.spk_broker_listening.proofs.laws.unjoined.Goals as goal

pub returns : goal.returns
returns c = unjoined
