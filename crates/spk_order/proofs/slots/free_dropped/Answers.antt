use Rattle.std.proofs.Common.{◌≡◌, arith}
use Rattle.spk_order.proofs.Left.{left_ends}
use Rattle.spk_order.proofs.slots.free_dropped.Goals as goal

pub returns : goal.returns
returns g c =
    let all : 256 ≡ c.loop-number.number = omega arith in
    left_ends c.args.sequence.now c.args.slots.now.items c.loop-number.slots.items c.loop-number.invariant.0
    (λ x byte. c.loop-number.invariant.1 x (omega arith))
