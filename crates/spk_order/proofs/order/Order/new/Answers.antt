use Rattle.spk_order.proofs.Left.{fresh_kept}
use Rattle.spk_order.proofs.order.Order.new.Goals as goal

pub invariant_of-result : goal.invariant_of-result
invariant_of-result g c =
    fresh_kept c.new-sequence.result c.in_ok-slots.slots.items c.args.wait c.args.width c.new-sequence.ensures.whole
    c.new-sequence.ensures.fresh c.in_ok-slots.ensures

pub returns-clause-whole : goal.returns-clause-whole
returns-clause-whole g c = invariant_of-result g c
