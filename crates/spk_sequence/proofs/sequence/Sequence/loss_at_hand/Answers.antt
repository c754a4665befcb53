use Rattle.std.proofs.Common.{◌∙◌, sym, ap}
use Rattle.spk_sequence.specs.Calls.{Hand}
use Rattle.spk_sequence.specs.Losses.{Called, loss_at}
use Rattle.spk_sequence.proofs.LossLemmas.{no_loss_idle}
use Rattle.spk_sequence.proofs.LossCalls.{gap_loss, else_loss}
use Rattle.spk_sequence.proofs.sequence.Sequence.loss_at_hand.Goals as goal

pub returns-then-not-is_any_held : goal.returns-then-not-is_any_held
returns-then-not-is_any_held c =
    sym (no_loss_idle c.args.self.now (Called (Hand c.args.number c.args.kind c.args.now)) (sym c.is_any_held.ensures.value ∙ c.if-not-is_any_held.true))

pub returns-in-Gap : goal.returns-in-Gap
returns-in-Gap c =
    gap_loss c.args.self.now c.args.number c.args.now c.in-Other.stamp c.other_step.result c.at_stake.result c.ranges.number.fits c.at_stake.ensures.whole (c.other_step.ensures c.args.now) c.in-Gap.is c.at_stake.ensures.value
    ∙ ap (λ kind. loss_at c.args.self.now (Called (Hand c.args.number kind c.args.now))) (sym c.in-Other.is)

pub returns-in_default-other_step : goal.returns-in_default-other_step
returns-in_default-other_step c =
    else_loss c.args.self.now c.args.number c.args.now c.in-Other.stamp c.other_step.result c.ranges.number.fits c.is_any_held.ensures.whole (c.other_step.ensures c.args.now) c.in_default-other_step.not-Gap
    ∙ ap (λ kind. loss_at c.args.self.now (Called (Hand c.args.number kind c.args.now))) (sym c.in-Other.is)
