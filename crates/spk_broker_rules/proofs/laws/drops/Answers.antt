use Rattle.spk_broker_rules.proofs.Dropping.{drop-closes, drop-noted, drops-kept, few-first, few-step, other-closes}
use Rattle.spk_broker_rules.proofs.Endings.{limit-step}
use Rattle.spk_broker_rules.proofs.laws.drops.Goals as goal

pub returns-clause-first : goal.returns-clause-first
returns-clause-first c = few-first

pub returns-clause-few : goal.returns-clause-few
returns-clause-few c = few-step

pub returns-clause-limit : goal.returns-clause-limit
returns-clause-limit c = limit-step

pub returns-clause-kept : goal.returns-clause-kept
returns-clause-kept c = drops-kept

pub returns-clause-noted : goal.returns-clause-noted
returns-clause-noted c = drop-noted

pub returns-clause-spent : goal.returns-clause-spent
returns-clause-spent c = drop-closes

pub returns-clause-other : goal.returns-clause-other
returns-clause-other c = other-closes
