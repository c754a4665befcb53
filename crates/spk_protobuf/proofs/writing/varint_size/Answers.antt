use Rattle.std.proofs.Common.{ap, sym, List, ℕ, length}
use Rattle.spk_protobuf.proofs.Shortest.{size_by_bits, varint_small}
use Rattle.spk_protobuf.proofs.writing.varint_size.Goals as goal

pub returns-then-number-lt128-clause-size : goal.returns-then-number-lt128-clause-size
returns-then-number-lt128-clause-size c = ap (λ (x : List ℕ). length x) (sym (varint_small c.args.number c.if-number-lt128.true))

pub returns-clause-size : goal.returns-clause-size
returns-clause-size c = size_by_bits c.args.number c.ilog2.result c.ilog2.ensures.bound c.ilog2.ensures.power_le c.ilog2.ensures.next_power_gt
