use Rattle.spk_history.proofs.Whole.{synced}
use Rattle.spk_history.proofs.laws.synced.Goals as goal

pub returns : goal.returns
returns c = synced
