use Rattle.spk_broker_rules.proofs.AnyList.{answers-all, goes-on, lawful-after, one, one-past, tied}
use Rattle.spk_broker_rules.proofs.Opens.{full-after, known-after}
use Rattle.spk_broker_rules.proofs.laws.any_list.Goals as goal

pub returns-clause-answers : goal.returns-clause-answers
returns-clause-answers c = answers-all

pub returns-clause-one : goal.returns-clause-one
returns-clause-one c = one

pub returns-clause-past : goal.returns-clause-past
returns-clause-past c = one-past

pub returns-clause-goes_on : goal.returns-clause-goes_on
returns-clause-goes_on c = goes-on

pub returns-clause-asked : goal.returns-clause-asked
returns-clause-asked c = λ limit es h leads. (tied limit es h leads).data_is

pub returns-clause-lawful : goal.returns-clause-lawful
returns-clause-lawful c = lawful-after

pub returns-clause-known : goal.returns-clause-known
returns-clause-known c = known-after

pub returns-clause-full : goal.returns-clause-full
returns-clause-full c = full-after
