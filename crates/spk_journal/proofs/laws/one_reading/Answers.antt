use Rattle.spk_journal.proofs.Torn.{one_reading}
use Rattle.spk_journal.proofs.laws.one_reading.Goals as goal

pub returns : goal.returns
returns c = one_reading
