use Rattle.spk_connection.proofs.Along.{links, reads, waits_not, writes}
use Rattle.spk_connection.proofs.Front.{passed}
use Rattle.spk_connection.proofs.laws.any_list.Goals as goal

pub returns-clause-read : goal.returns-clause-read
returns-clause-read c = reads

pub returns-clause-written : goal.returns-clause-written
returns-clause-written c = writes

pub returns-clause-closed : goal.returns-clause-closed
returns-clause-closed c = waits_not

pub returns-clause-link : goal.returns-clause-link
returns-clause-link c = links

pub returns-clause-passes : goal.returns-clause-passes
returns-clause-passes c = passed
