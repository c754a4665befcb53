use Rattle.spk_broker_replay.proofs.Ends.{ended}
use Rattle.spk_broker_replay.proofs.laws.ended.Goals as goal

pub returns : goal.returns
returns c = ended c.lawful.ensures c.knowing.ensures.ended c.knowing.ensures.gone c.knowing.ensures.given
