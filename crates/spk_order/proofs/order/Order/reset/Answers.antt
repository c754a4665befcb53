use Rattle.std.proofs.Common.{◌∙◌, sym}
use Rattle.spk_order.proofs.Left.{fresh_kept, fresh_left, fresh_data}
use Rattle.spk_order.proofs.Steps.{idle_left}
use Rattle.spk_order.proofs.order.Order.reset.Goals as goal

pub invariant_of-self : goal.invariant_of-self
invariant_of-self g c = fresh_kept c.reset.new.self c.settle.new.slots.items c.self.inside.sequence.wait c.self.inside.sequence.width
    c.reset.ensures.whole c.reset.ensures.data
    (fresh_left c.reset.new.self c.self.inside.slots.items c.settle.new.slots.items c.self.inside.sequence.wait c.self.inside.sequence.width
    c.reset.ensures.data c.settle.ensures)

pub returns-clause-whole : goal.returns-clause-whole
returns-clause-whole g c = invariant_of-self g c

pub returns-clause-data : goal.returns-clause-data
returns-clause-data g c =
    rw (← c.self.view_is) (fresh_data c.reset.new.self c.settle.new.slots.items c.self.inside.sequence.wait c.self.inside.sequence.width
    c.reset.ensures.data
    (fresh_left c.reset.new.self c.self.inside.slots.items c.settle.new.slots.items c.self.inside.sequence.wait c.self.inside.sequence.width
    c.reset.ensures.data c.settle.ensures))

pub settle-requires-clause-still : goal.settle-requires-clause-still
settle-requires-clause-still g c = λ none.
    idle_left c.self.inside.sequence c.reset.new.self c.self.inside.slots.items c.self.invariant
    (sym c.is_any_held-is_any_held.ensures.value ∙ none)
