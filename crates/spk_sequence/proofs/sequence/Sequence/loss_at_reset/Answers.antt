use Rattle.std.proofs.Common.{◌∙◌, sym}
use Rattle.spk_sequence.proofs.LossLemmas.{loss_at_reset}
use Rattle.spk_sequence.proofs.sequence.Sequence.loss_at_reset.Goals as goal

pub returns : goal.returns
returns c = c.at_stake.ensures.value ∙ sym (loss_at_reset c.args.self.now c.at_stake.ensures.whole)
