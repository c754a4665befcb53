use Rattle.spk_sequence.proofs.SlotLemmas.{slots_of-zero}
use Rattle.spk_sequence.proofs.slots.Slots.clear_all.Goals as goal

pub returns : goal.returns
returns c = slots_of-zero c.self.inside.stamps
