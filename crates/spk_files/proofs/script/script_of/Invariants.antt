use Rattle.std.proofs.Common.{◌≡◌, ◌≤◌}
use Rattle.std.specs.Prelude.{count_by}
use Rattle.spk_plan_rules.specs.Plan.{changes_in, is_open}
use Rattle.spk_files.proofs.script.script_of.Given as goal

-- what the steps so far ask for
abbrev pub invariant-loop-index : goal.invariant-loop-index
invariant-loop-index l = record {
  opens : l.opens ≡ count_by is_open l.steps.items;
  changes : l.changes ≡ changes_in l.steps.items;
  few_opens : l.opens ≤ 200;
  few_changes : l.changes ≤ 100000;
}
