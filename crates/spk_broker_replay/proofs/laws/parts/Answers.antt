use Rattle.spk_broker_replay.proofs.Together.{together}
use Rattle.spk_broker_replay.proofs.laws.parts.Goals as goal

pub returns : goal.returns
returns c = together
