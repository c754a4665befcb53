use Rattle.spk_store.specs.Law.{as_called}
use Rattle.spk_store.proofs.laws.any_list.Goals as goal

pub returns-clause-kept : goal.returns-clause-kept
returns-clause-kept x c = λ capacity calls lawful. (as_called capacity calls lawful).kept

pub returns-clause-place : goal.returns-clause-place
returns-clause-place x c = λ capacity calls lawful. (as_called capacity calls lawful).place

pub returns-clause-few : goal.returns-clause-few
returns-clause-few x c = λ capacity calls lawful. (as_called capacity calls lawful).few

pub returns-clause-overwritten : goal.returns-clause-overwritten
returns-clause-overwritten x c = λ capacity calls next lawful. (as_called capacity calls lawful).overwritten next

pub returns-clause-lost : goal.returns-clause-lost
returns-clause-lost x c = λ capacity calls lawful. (as_called capacity calls lawful).lost

pub returns-clause-fates : goal.returns-clause-fates
returns-clause-fates x c = λ capacity calls lawful. (as_called capacity calls lawful).fates

pub returns-clause-counted : goal.returns-clause-counted
returns-clause-counted x c = λ capacity calls lawful. (as_called capacity calls lawful).counted
