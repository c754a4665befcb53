use Rattle.std.proofs.Common.{take}
use Rattle.std.specs.List.{AllByRecursion}
use Rattle.spk_world.specs.Setups.{HasWide}
use Rattle.spk_world.proofs.making.are_wide.Given as goal

-- those that were seen are wide
abbrev pub invariant-loop-config : goal.invariant-loop-config
invariant-loop-config l = AllByRecursion HasWide (take l.config-index l.configs)
