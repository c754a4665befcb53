use Rattle.std.proofs.Common.{◌∙◌, sym}
use Rattle.spk_sequence.specs.Step.{tick}
use Rattle.spk_order.proofs.Left.{stands_kept, remains_by, left_kept_still, still_tick}
use Rattle.spk_order.proofs.order.Order.tick.Goals as goal

pub invariant_of-self : goal.invariant_of-self
invariant_of-self g c =
    stands_kept c.self.inside.sequence c.tick-gap.new.self c.self.inside.slots.items c.settle.new.slots.items c.self.invariant
    c.tick-gap.ensures.whole
    (remains_by c.self.inside.sequence c.tick-gap.new.self (tick c.self.inside.sequence c.args.now) c.tick-gap.ensures.data
    (c.numbers.ensures.tick c.self.inside.sequence c.args.now))
    c.settle.ensures

pub returns-clause-whole : goal.returns-clause-whole
returns-clause-whole g c = invariant_of-self g c

pub settle-requires-clause-still : goal.settle-requires-clause-still
settle-requires-clause-still g c = λ none.
    left_kept_still c.self.inside.sequence c.tick-gap.new.self c.self.inside.slots.items c.self.invariant
    (still_tick c.self.inside.sequence c.tick-gap.new.self c.args.now (sym c.tick-gap.ensures.gap ∙ sym c.is_some.ensures ∙ none) c.tick-gap.ensures.data)
