use Rattle.spk_device.proofs.HistoryLemmas.{owner-decides}
use Rattle.spk_device.proofs.laws.owners.Goals as goal

pub returns : goal.returns
returns c = owner-decides
