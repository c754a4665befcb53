use Rattle.std.proofs.Common.{◌≡◌, ◌≤◌, ◌∙◌, sym, arith}
use Rattle.spk_sequence.specs.Numbers.{KeepsNumbers}
use Rattle.spk_order.specs.Step.{left_by, placed}
use Rattle.spk_order.proofs.Left.{stands}
use Rattle.spk_order.proofs.Steps.{keeps_by, run_full, few_eaten, left_placed, placed_kept, few_consumed, same_handed, placed_still, or_none}
use Rattle.spk_order.proofs.order.Order.hand.Goals as goal
use Rattle.spk_order.proofs.order.Order.hand.Goals.{After-settle}

pub place-consumed-requires-clause-full : goal.place-consumed-requires-clause-full
place-consumed-requires-clause-full g c =
    run_full c.self.inside.sequence c.hand-step.new.self c.self.inside.slots.items c.args.number c.hand-step.result c.self.invariant
    (keeps_by c.self.inside.sequence c.hand-step.new.self c.args.number c.args.kind c.args.now c.hand-step.result
    (omega arith) c.self.invariant.whole c.hand-step.ensures.data c.hand-step.ensures.step c.numbers.ensures.hand)

pub place-consumed-requires-clause-room : goal.place-consumed-requires-clause-room
place-consumed-requires-clause-room g c = λ n is.
    let enough : n ≤ c.room_for-room.result =
    c.room_for-room.ensures.enough c.args.number c.args.now n c.args.kind (omega arith) (sym c.hand-step.ensures.step ∙ is) in
    omega (arith, c.in-Ok.ensures.exact)

keeps : (g : _) (c : After-settle g) → KeepsNumbers c.self.inside.sequence c.hand-step.new.self c.args.number c.hand-step.result
keeps g c =
    keeps_by c.self.inside.sequence c.hand-step.new.self c.args.number c.args.kind c.args.now c.hand-step.result
    (omega arith) c.self.invariant.whole c.hand-step.ensures.data c.hand-step.ensures.step c.numbers.ensures.hand

-- what is left in the slots is what stays of the payloads, this one placed
slots_are : (g : _) (c : After-settle g) → c.settle.new.slots.items ≡
    left_by c.hand-step.new.self (placed c.self.inside.slots.items c.args.number c.args.payload c.hand-step.result)
slots_are g c =
    c.settle.ensures
    ∙ left_placed c.self.inside.sequence c.hand-step.new.self c.self.inside.slots.items c.place-consumed.new.slots.items c.args.number
    c.args.payload c.hand-step.result (omega arith) c.self.invariant.whole (keeps g c) c.place-consumed.ensures.others

pub invariant_of-self : goal.invariant_of-self
invariant_of-self g c =
    rw (slots_are g c)
    (placed_kept c.self.inside.sequence c.hand-step.new.self c.self.inside.slots.items c.args.number c.args.payload c.hand-step.result
    c.self.invariant (keeps g c) (omega arith))

pub returns-clause-few : goal.returns-clause-few
returns-clause-few g c =
    rw (← c.self.view_is)
    (few_consumed c.self.inside.slots.items c.args.number c.args.payload c.hand-step.result c.place-consumed.result.items
    c.self.inside.sequence.width c.place-consumed.ensures.consumed
    (λ n is. few_eaten c.self.inside.sequence c.hand-step.new.self c.args.number n c.hand-step.result c.self.invariant.whole (keeps g c) is)
    c.self.invariant.whole.some_places)

pub returns-clause-data : goal.returns-clause-data
returns-clause-data g c =
    rw (← c.self.view_is)
    (same_handed (stands c.self.inside.sequence c.self.inside.slots.items) c.hand-step.new.self c.settle.new.slots.items c.args.number
    c.args.kind c.args.payload c.args.now c.hand-step.result c.hand-step.ensures.data c.hand-step.ensures.step (slots_are g c))

pub returns-clause-whole : goal.returns-clause-whole
returns-clause-whole g c = invariant_of-self g c

pub settle-requires-clause-still : goal.settle-requires-clause-still
settle-requires-clause-still g c = λ none.
    placed_still c.self.inside.sequence c.hand-step.new.self c.self.inside.slots.items c.place-consumed.new.slots.items c.args.number
    c.args.payload c.hand-step.result c.self.invariant
    (keeps_by c.self.inside.sequence c.hand-step.new.self c.args.number c.args.kind c.args.now c.hand-step.result
    (omega arith) c.self.invariant.whole c.hand-step.ensures.data c.hand-step.ensures.step c.numbers.ensures.hand)
    c.place-consumed.ensures.sized (or_none c.hand-step.result c.self.inside.sequence.held c.is_any_held-is_any_held.result c.is_any_held-is_any_held.ensures.value (c.may_drop.ensures none))
    c.place-consumed.ensures.others
