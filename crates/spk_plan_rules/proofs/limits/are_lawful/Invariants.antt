use Rattle.std.proofs.Common.{take}
use Rattle.std.specs.List.{AllByRecursion}
use Rattle.spk_plan_rules.specs.Plan.{HasLawful}
use Rattle.spk_plan_rules.proofs.limits.are_lawful.Given as goal

-- those that were seen are lawful
abbrev pub invariant-loop-node : goal.invariant-loop-node
invariant-loop-node l = AllByRecursion HasLawful (take l.node-index l.nodes)
