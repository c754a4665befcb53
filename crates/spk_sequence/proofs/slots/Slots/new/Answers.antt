use Rattle.spk_sequence.proofs.SlotLemmas.{slots_of-zero}
use Rattle.spk_sequence.proofs.slots.Slots.new.Goals as goal

pub returns : goal.returns
returns c = slots_of-zero _
