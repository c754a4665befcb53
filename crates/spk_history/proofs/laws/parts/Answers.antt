use Rattle.spk_history.proofs.Whole.{parts_cut, parts_read}
use Rattle.spk_history.proofs.laws.parts.Goals as goal

pub returns-clause-whole : goal.returns-clause-whole
returns-clause-whole c = parts_read

pub returns-clause-torn : goal.returns-clause-torn
returns-clause-torn c = parts_cut
