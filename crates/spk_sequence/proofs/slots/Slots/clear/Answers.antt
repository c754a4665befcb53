use Rattle.std.proofs.Common.{◌∙◌, ap, set, None}
use Rattle.spk_sequence.proofs.SlotLemmas.{slots_of-clear}
use Rattle.spk_sequence.proofs.slots.Slots.clear.Goals as goal

pub returns : goal.returns
returns c = slots_of-clear c.self.inside.mask c.args.slot c.self.inside.stamps c.requires ∙ ap (λ s. set s c.args.slot None) c.self.view_is
