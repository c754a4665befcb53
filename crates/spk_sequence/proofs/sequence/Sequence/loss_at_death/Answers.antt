use Rattle.std.proofs.Common.{◌≡◌, ◌&&◌, ◌∙◌, sym, ap, cond, eqb}
use Rattle.spk_sequence.specs.Losses.{at_stake, no_loss}
use Rattle.spk_sequence.specs.Step.{is_known, is_match}
use Rattle.spk_sequence.proofs.LossLemmas.{loss_at_death}
use Rattle.spk_sequence.proofs.sequence.Sequence.loss_at_death.Goals as goal
use Rattle.spk_sequence.proofs.sequence.Sequence.loss_at_death.Goals.{then-is_known, else-is_known}

pub returns : goal.returns
returns c =
    let known : c.is_known.result ≡ is_known c.args.self.now.phase = c.is_known.ensures ∙ ap is_known c.phase.ensures.value in
    let same : c.if-is_known.loss_if ≡ is_match c.args.self.now c.args.bd = elim c.if-is_known.branch [
      | then-is_known w ↦ w.loss_if-is ∙ w.is_session.ensures ∙ sym (ap (λ b. b && eqb c.args.bd c.args.self.now.bd) (sym known ∙ w.if-is_known.true))
      | else-is_known w ↦ w.loss_if-is ∙ w.if-is_known.false ∙ sym (ap (λ b. b && eqb c.args.bd c.args.self.now.bd) (sym known ∙ w.if-is_known.false))
    ] in
    c.loss_if.ensures ∙ ap (λ b. cond b (at_stake c.args.self.now) no_loss) same ∙ sym (loss_at_death c.args.self.now c.args.bd c.phase.ensures.whole)
