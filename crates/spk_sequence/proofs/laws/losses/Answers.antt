use Rattle.std.proofs.Common.{◌∙◌, ◌+◌, ap, sym}
use Rattle.spk_sequence.specs.declared.message.Kind.TheVariants.{Birth}
use Rattle.spk_sequence.specs.Step.{hand}
use Rattle.spk_sequence.specs.Calls.{Hand}
use Rattle.spk_sequence.specs.Numbers.{held_count}
use Rattle.spk_sequence.specs.Losses.{Called}
use Rattle.spk_sequence.proofs.LossLemmas.{loss_at_tick, loss_at_death, loss_at_reset, loss_at_gap, no_loss_else, no_loss_unborn, no_loss_idle, loss_held}
use Rattle.spk_sequence.proofs.FateLemmas.{one_consumed}
use Rattle.spk_sequence.proofs.laws.losses.Goals as goal

pub returns-clause-tick : goal.returns-clause-tick
returns-clause-tick c = loss_at_tick

pub returns-clause-death : goal.returns-clause-death
returns-clause-death c = loss_at_death

pub returns-clause-reset : goal.returns-clause-reset
returns-clause-reset c = loss_at_reset

pub returns-clause-gap : goal.returns-clause-gap
returns-clause-gap c = loss_at_gap

pub returns-clause-no_gap : goal.returns-clause-no_gap
returns-clause-no_gap c = no_loss_else

pub returns-clause-not_taken : goal.returns-clause-not_taken
returns-clause-not_taken c = no_loss_unborn

pub returns-clause-birth : goal.returns-clause-birth
returns-clause-birth c s number stamp bd now n byte w is =
    one_consumed s number now n (Birth stamp bd) byte w is
    ∙ sym (ap (λ l. n + l + held_count (hand s number (Birth stamp bd) now).1.held) (loss_held s (Called (Hand number (Birth stamp bd) now))))

pub returns-clause-idle : goal.returns-clause-idle
returns-clause-idle c = no_loss_idle
