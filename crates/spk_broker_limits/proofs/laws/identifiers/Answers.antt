use Rattle.spk_broker_limits.proofs.Numbers.{acked, distinct, next, on, sent}
use Rattle.spk_broker_limits.proofs.laws.identifiers.Goals as goal

pub returns-clause-distinct : goal.returns-clause-distinct
returns-clause-distinct c = distinct c.any_list.ensures.next

pub returns-clause-next : goal.returns-clause-next
returns-clause-next c = next c.any_list.ensures.next

pub returns-clause-goes_on : goal.returns-clause-goes_on
returns-clause-goes_on c = on c.any_list.ensures.next

pub returns-clause-sent : goal.returns-clause-sent
returns-clause-sent c = sent

pub returns-clause-acknowledged : goal.returns-clause-acknowledged
returns-clause-acknowledged c = acked
