use Rattle.spk_host.proofs.Along.{over, ticked}
use Rattle.spk_host.proofs.Fresh.{fresh_death, fresh_over, fresh_tick}
use Rattle.spk_host.proofs.Kept.{changed_other, changed_same, put_other, put_same}
use Rattle.spk_host.proofs.laws.nodes.Goals as goal

pub returns-clause-put_same : goal.returns-clause-put_same
returns-clause-put_same c = put_same

pub returns-clause-put_other : goal.returns-clause-put_other
returns-clause-put_other c = put_other

pub returns-clause-changed_same : goal.returns-clause-changed_same
returns-clause-changed_same c = changed_same

pub returns-clause-changed_other : goal.returns-clause-changed_other
returns-clause-changed_other c = changed_other

pub returns-clause-ticked : goal.returns-clause-ticked
returns-clause-ticked c = ticked

pub returns-clause-over : goal.returns-clause-over
returns-clause-over c = over

pub returns-clause-fresh_death : goal.returns-clause-fresh_death
returns-clause-fresh_death c = fresh_death

pub returns-clause-fresh_tick : goal.returns-clause-fresh_tick
returns-clause-fresh_tick c = fresh_tick

pub returns-clause-fresh_over : goal.returns-clause-fresh_over
returns-clause-fresh_over c = fresh_over
