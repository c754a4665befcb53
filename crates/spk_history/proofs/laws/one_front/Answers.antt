use Rattle.spk_history.proofs.OneFront.{one_front}
use Rattle.spk_history.proofs.laws.one_front.Goals as goal

pub returns : goal.returns
returns c = one_front
