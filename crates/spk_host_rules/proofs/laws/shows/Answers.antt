use Rattle.spk_host_rules.proofs.Order.{in-order}
use Rattle.spk_host_rules.proofs.Showing.{always-shown, born, shown-after}
use Rattle.spk_host_rules.proofs.laws.shows.Goals as goal

pub returns-clause-any_list : goal.returns-clause-any_list
returns-clause-any_list c = always-shown

pub returns-clause-birth : goal.returns-clause-birth
returns-clause-birth c = born

pub returns-clause-keeps : goal.returns-clause-keeps
returns-clause-keeps c = shown-after

pub returns-clause-order : goal.returns-clause-order
returns-clause-order c = in-order
