use Rattle.spk_broker_rules.proofs.Waiting.{accepted, first-known, waits-known, waits-unjoined}
use Rattle.spk_broker_rules.proofs.laws.joining.Goals as goal

pub returns-clause-waits : goal.returns-clause-waits
returns-clause-waits c = waits-known

pub returns-clause-unjoined : goal.returns-clause-unjoined
returns-clause-unjoined c = waits-unjoined

pub returns-clause-first : goal.returns-clause-first
returns-clause-first c = first-known

pub returns-clause-accepted : goal.returns-clause-accepted
returns-clause-accepted c = accepted
