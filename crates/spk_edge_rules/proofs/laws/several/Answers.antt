use Rattle.spk_edge_rules.proofs.Several.{at-most-one, each-taken, same-book, same-told}
use Rattle.spk_edge_rules.proofs.laws.several.Goals as goal

pub returns-clause-taken : goal.returns-clause-taken
returns-clause-taken c = each-taken

pub returns-clause-one : goal.returns-clause-one
returns-clause-one c = at-most-one

pub returns-clause-metrics : goal.returns-clause-metrics
returns-clause-metrics c = same-told

pub returns-clause-values : goal.returns-clause-values
returns-clause-values c = λ config a now changes. same-book config a now changes
