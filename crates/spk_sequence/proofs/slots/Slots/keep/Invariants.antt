use Rattle.spk_sequence.proofs.KeepLemmas.{IsKeptTo}
use Rattle.spk_sequence.proofs.slots.Slots.keep.Given as goal

abbrev pub invariant-loop-slot : goal.invariant-loop-slot
invariant-loop-slot l = IsKeptTo l.fn.self l.self l.from l.width l.number l.stamp l.slot
