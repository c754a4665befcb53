use Rattle.spk_host_rules.proofs.Asking.{asked-exactly}
use Rattle.spk_host_rules.proofs.Foreign.{unknown-is}
use Rattle.spk_host_rules.proofs.laws.asked.Goals as goal

pub returns-clause-exactly : goal.returns-clause-exactly
returns-clause-exactly c = asked-exactly

pub returns-clause-unknown : goal.returns-clause-unknown
returns-clause-unknown c = unknown-is
