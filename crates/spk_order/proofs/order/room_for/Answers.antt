use Rattle.std.proofs.Common.{◌≤◌, ◌∙◌, sym, arith}
use Rattle.spk_sequence.specs.Step.{hand}
use Rattle.spk_order.proofs.Steps.{few_eaten, one_eaten, none_any}
use Rattle.spk_order.proofs.order.room_for.Goals as goal

pub returns-else-is_any_held-clause-enough : goal.returns-else-is_any_held-clause-enough
returns-else-is_any_held-clause-enough c = λ number now n kind byte is.
    one_eaten c.args.sequence.now (hand c.args.sequence.now number kind now).1 number n (hand c.args.sequence.now number kind now).0
    (none_any c.args.sequence.now.held (sym c.requires.any ∙ c.if-is_any_held.false))
    (c.numbers.ensures.hand c.args.sequence.now number now kind byte c.requires.whole) is

pub returns-then-is_any_held-clause-enough : goal.returns-then-is_any_held-clause-enough
returns-then-is_any_held-clause-enough c = λ number now n kind byte is.
    let few : n ≤ c.args.sequence.now.width = few_eaten c.args.sequence.now (hand c.args.sequence.now number kind now).1 number n (hand c.args.sequence.now number kind now).0 c.requires.whole
    (c.numbers.ensures.hand c.args.sequence.now number now kind byte c.requires.whole) is in
    let most : c.args.sequence.now.width ≤ 96 = c.requires.whole.few_places in
    omega arith
