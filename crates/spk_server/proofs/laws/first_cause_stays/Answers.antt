use Rattle.spk_server.proofs.Causes.{cause_stays}
use Rattle.spk_server.proofs.laws.first_cause_stays.Goals as goal

pub returns : goal.returns
returns c = cause_stays
