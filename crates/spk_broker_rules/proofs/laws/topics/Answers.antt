use Rattle.spk_broker_rules.proofs.Topics.{off-first, off-kept, off-plain, off-sent, off-unjoined}
use Rattle.spk_broker_rules.proofs.laws.topics.Goals as goal

pub returns-clause-first : goal.returns-clause-first
returns-clause-first c = off-first

pub returns-clause-kept : goal.returns-clause-kept
returns-clause-kept c = off-kept

pub returns-clause-others : goal.returns-clause-others
returns-clause-others c = off-sent

pub returns-clause-plain : goal.returns-clause-plain
returns-clause-plain c = off-plain

pub returns-clause-unjoined : goal.returns-clause-unjoined
returns-clause-unjoined c = off-unjoined
