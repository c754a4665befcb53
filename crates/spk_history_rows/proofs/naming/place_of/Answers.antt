use Rattle.spk_history_rows.proofs.Places.{found_last}
use Rattle.spk_history_rows.proofs.naming.place_of.Goals as goal

pub returns-then-given-number : goal.returns-then-given-number
returns-then-given-number c =
    found_last c.args.numbers.now c.loop-left.left c.args.number (record { number = 0; place = 0 }) c.loop-left-test.true c.loop-left.invariant.0
    c.if-given-number.true c.loop-left.invariant.1
