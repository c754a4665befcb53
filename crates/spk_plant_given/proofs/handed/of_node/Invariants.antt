use Rattle.spk_plant_given.specs.Steps.{Follows}
use Rattle.spk_plant_given.proofs.handed.of_node.Given as goal

-- what the items so far say
abbrev pub invariant-loop-item : goal.invariant-loop-item
invariant-loop-item l = Follows l.group l.name l.place l.taken l.accepted l.given l.item l.book
