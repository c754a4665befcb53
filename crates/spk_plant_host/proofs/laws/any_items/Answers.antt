use Rattle.spk_plant_host.proofs.Items.{all_done, all_of_node, kept_of_node}
use Rattle.spk_plant_host.proofs.laws.any_items.Goals as goal

pub returns-clause-done : goal.returns-clause-done
returns-clause-done c = all_done

pub returns-clause-consumed : goal.returns-clause-consumed
returns-clause-consumed c = all_of_node c.any_list.ensures.order c.any_list.ensures.config

pub returns-clause-kept : goal.returns-clause-kept
returns-clause-kept c = kept_of_node
