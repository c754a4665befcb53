use Rattle.spk_record.proofs.Meanings.{one_meaning}
use Rattle.spk_record.proofs.laws.one_meaning.Goals as goal

pub returns : goal.returns
returns c = one_meaning
