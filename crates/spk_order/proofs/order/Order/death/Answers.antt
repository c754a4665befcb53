use Rattle.std.proofs.Common.{◌∙◌, sym, inl, inr}
use Rattle.spk_sequence.specs.Step.{death}
use Rattle.spk_order.proofs.Left.{stands_kept, remains_by, left_kept_still, still_death}
use Rattle.spk_order.proofs.Steps.{idle_left}
use Rattle.spk_order.proofs.order.Order.death.Goals as goal

pub invariant_of-self : goal.invariant_of-self
invariant_of-self g c =
    stands_kept c.self.inside.sequence c.death-answer.new.self c.self.inside.slots.items c.settle.new.slots.items c.self.invariant
    c.death-answer.ensures.whole
    (remains_by c.self.inside.sequence c.death-answer.new.self (death c.self.inside.sequence c.args.bd) c.death-answer.ensures.data
    (c.numbers.ensures.death c.self.inside.sequence c.args.bd))
    c.settle.ensures

pub returns-clause-whole : goal.returns-clause-whole
returns-clause-whole g c = invariant_of-self g c

pub settle-requires-clause-still : goal.settle-requires-clause-still
settle-requires-clause-still g c = λ none. elim (c.may_end.ensures none) [
  | inl ignored ↦ left_kept_still c.self.inside.sequence c.death-answer.new.self c.self.inside.slots.items c.self.invariant
      (still_death c.self.inside.sequence c.death-answer.new.self c.args.bd (sym c.death-answer.ensures.answer ∙ ignored) c.death-answer.ensures.data)
  | inr idle ↦ idle_left c.self.inside.sequence c.death-answer.new.self c.self.inside.slots.items c.self.invariant
      (sym c.is_any_held-is_any_held.ensures.value ∙ idle)
]
