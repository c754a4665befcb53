use Rattle.spk_history.proofs.Whole.{one_reading}
use Rattle.spk_history.proofs.laws.one_reading.Goals as goal

pub returns : goal.returns
returns c = one_reading
