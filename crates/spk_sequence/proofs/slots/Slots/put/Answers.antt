use Rattle.std.proofs.Common.{◌∙◌, ap, set, Some}
use Rattle.spk_sequence.proofs.SlotLemmas.{slots_of-put}
use Rattle.spk_sequence.proofs.slots.Slots.put.Goals as goal

pub returns : goal.returns
returns c = slots_of-put c.self.inside.mask c.args.slot c.self.inside.stamps c.args.stamp c.requires c.self.invariant.1 ∙ ap (λ s. set s c.args.slot (Some c.args.stamp)) c.self.view_is
