use Rattle.std.proofs.Common.{◌∙◌, sym, ap, cond}
use Rattle.spk_sequence.specs.Losses.{at_stake, no_loss}
use Rattle.spk_sequence.proofs.LossLemmas.{loss_at_tick}
use Rattle.spk_sequence.proofs.sequence.Sequence.loss_at_tick.Goals as goal

pub returns : goal.returns
returns c = c.loss_if.ensures ∙ ap (λ b. cond b (at_stake c.args.self.now) no_loss) c.is_over.ensures.value ∙ sym (loss_at_tick c.args.self.now c.args.now c.is_over.ensures.whole)
