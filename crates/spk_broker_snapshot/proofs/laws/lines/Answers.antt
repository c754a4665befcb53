use Rattle.spk_broker_snapshot.proofs.Assembling.{all-lines}
use Rattle.spk_broker_snapshot.proofs.laws.lines.Goals as goal

pub returns : goal.returns
returns c = all-lines
