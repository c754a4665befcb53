use Rattle.spk_host_rules.proofs.Choices.{asked-whole, shown-whole, view-whole}
use Rattle.spk_host_rules.proofs.laws.choices.Goals as goal

pub returns-clause-value : goal.returns-clause-value
returns-clause-value c = shown-whole

pub returns-clause-view : goal.returns-clause-view
returns-clause-view c = view-whole

pub returns-clause-asked : goal.returns-clause-asked
returns-clause-asked c = asked-whole
