use Rattle.std.proofs.Common.{sym, subst, arith}
use Rattle.spk_sequence.specs.Numbers.{KeepsNumbers}
use Rattle.spk_order.specs.Step.{IsAlone}
use Rattle.spk_order.proofs.Left.{stands}
use Rattle.spk_order.proofs.Steps.{keeps_by, or_none, passed_kept, passed_still, passed_handed}
use Rattle.spk_order.proofs.order.Order.pass.Goals as goal
use Rattle.spk_order.proofs.order.Order.pass.Goals.{After-settle}

keeps : (g : _) (c : After-settle g) → KeepsNumbers c.self.inside.sequence c.hand-passed.new.self c.args.number c.hand-passed.result
keeps g c =
    keeps_by c.self.inside.sequence c.hand-passed.new.self c.args.number c.args.kind c.args.now c.hand-passed.result
    (omega arith) c.self.invariant.whole c.hand-passed.ensures.data c.hand-passed.ensures.step c.numbers.ensures.hand

alone : (g : _) (c : After-settle g) → IsAlone c.hand-passed.result
alone g c = subst IsAlone (sym c.hand-passed.ensures.step) (rw (← c.self.view_is) at c.requires)

pub invariant_of-self : goal.invariant_of-self
invariant_of-self g c =
    rw (c.settle.ensures)
    (passed_kept c.self.inside.sequence c.hand-passed.new.self c.self.inside.slots.items c.args.number c.hand-passed.result c.self.invariant (keeps g c) (alone g c))

pub returns-clause-data : goal.returns-clause-data
returns-clause-data g c =
    rw (← c.self.view_is)
    (passed_handed (stands c.self.inside.sequence c.self.inside.slots.items) c.hand-passed.new.self c.settle.new.slots.items c.args.number
    c.args.kind c.args.now c.hand-passed.result c.hand-passed.ensures.data c.hand-passed.ensures.step (alone g c) c.settle.ensures)

pub returns-clause-whole : goal.returns-clause-whole
returns-clause-whole g c = invariant_of-self g c

pub settle-requires-clause-still : goal.settle-requires-clause-still
settle-requires-clause-still g c = λ none.
    passed_still c.self.inside.sequence c.hand-passed.new.self c.self.inside.slots.items c.args.number c.hand-passed.result c.self.invariant
    (keeps_by c.self.inside.sequence c.hand-passed.new.self c.args.number c.args.kind c.args.now c.hand-passed.result
    (omega arith) c.self.invariant.whole c.hand-passed.ensures.data c.hand-passed.ensures.step c.numbers.ensures.hand)
    (subst IsAlone (sym c.hand-passed.ensures.step) (rw (← c.self.view_is) at c.requires))
    (or_none c.hand-passed.result c.self.inside.sequence.held c.is_any_held-is_any_held.result c.is_any_held-is_any_held.ensures.value (c.may_drop.ensures none))
