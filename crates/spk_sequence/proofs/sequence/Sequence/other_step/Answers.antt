use Rattle.std.proofs.Common.{◌≡◌, ◌∙◌, ap, sym, true, false, eqb}
use Rattle.std.proofs.lemmas.Bool.{ne_eqb}
use Rattle.spk_sequence.specs.declared.answer.Step.{Step}
use Rattle.spk_sequence.specs.Data.{Standing}
use Rattle.spk_sequence.specs.Step.{is_live, is_below, ahead, hand_ahead}
use Rattle.spk_sequence.proofs.Outcomes.{not_next}
use Rattle.spk_sequence.proofs.sequence.Sequence.other_step.Goals as goal

pub returns-then-place-ne0 : goal.returns-then-place-ne0
returns-then-place-ne0 c = λ now.
    let live : is_live c.args.self.now.phase ≡ true = ap is_live (sym c.phase.ensures.value ∙ c.in-Live.is) in
    let fresh : is_below c.args.stamp c.args.self.now.stamp ≡ false = sym c.is_before_birth.ensures ∙ c.if-is_before_birth.false in
    let later : eqb (ahead c.args.number c.args.self.now.next) 0 ≡ false = ne_eqb (ahead c.args.number c.args.self.now.next) 0 (λ e. c.if-place-ne0.true (c.place_of-place.ensures.value ∙ e)) in
    c.ahead_step.ensures c.args.stamp now
    ∙ ap (λ place. (hand_ahead c.args.self.now place c.args.stamp now).0) c.place_of-place.ensures.value
    ∙ sym (ap (λ (y : Step × Standing). y.0) (not_next c.args.self.now c.args.number now c.args.stamp live fresh later))
