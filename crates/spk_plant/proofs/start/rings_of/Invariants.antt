use Rattle.spk_plant.specs.Start.{AreRings}
use Rattle.spk_plant.proofs.start.rings_of.Given as goal

-- so many rings as there were turns
abbrev pub invariant-loop-place : goal.invariant-loop-place
invariant-loop-place l = AreRings l.capacity l._place l.outlets.items l.inlets.items
