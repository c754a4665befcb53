use Rattle.std.proofs.Common.{◌∙◌, ap, not, is_some}
use Rattle.std.specs.List.{list_any}
use Rattle.spk_sequence.proofs.SlotLemmas.{mask_is_zero}
use Rattle.spk_sequence.proofs.slots.Slots.is_empty.Goals as goal

pub returns : goal.returns
returns c = mask_is_zero c.self.inside.mask c.self.inside.stamps c.self.invariant.0 ∙ ap (λ s. not (list_any is_some s)) c.self.view_is
