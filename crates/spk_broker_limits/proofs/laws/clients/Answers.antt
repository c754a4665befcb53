use Rattle.spk_broker_limits.proofs.Plans.{single}
use Rattle.spk_broker_limits.proofs.laws.clients.Goals as goal

pub returns-clause-single : goal.returns-clause-single
returns-clause-single c = λ limit es. (single c.any_list.ensures.lawful limit es).single

pub returns-clause-kept : goal.returns-clause-kept
returns-clause-kept c = λ limit es. (single c.any_list.ensures.lawful limit es).few
