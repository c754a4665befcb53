use Rattle.std.proofs.Common.{◌≡◌, ◌+◌, drop}
use Rattle.spk_plan_rules.specs.Plan.{changes_in}
use Rattle.spk_plan_rules.proofs.limits.changes_fit.Given as goal

-- what is left is the most without the changes of the steps before
abbrev pub invariant-loop-step : goal.invariant-loop-step
invariant-loop-step l = changes_in l.script + l.left ≡ changes_in (drop l.step-index l.script) + l.most
