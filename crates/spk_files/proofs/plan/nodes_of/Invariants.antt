use Rattle.std.proofs.Common.{◌≡◌, length, true}
use Rattle.std.specs.List.{list_all}
use Rattle.spk_plan_rules.specs.Plan.{are_distinct, fits}
use Rattle.spk_files.specs.Plan.{is_well_made}
use Rattle.spk_files.proofs.plan.nodes_of.Given as goal

-- one for each number, and what holds of those so far
abbrev pub invariant-loop-index : goal.invariant-loop-index
invariant-loop-index l = record {
  sized : length l.nodes.items ≡ l.index;
  fit : list_all fits l.nodes.items ≡ true;
  made : list_all is_well_made l.nodes.items ≡ true;
  distinct : are_distinct l.nodes.items ≡ true;
}
