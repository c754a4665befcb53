use Rattle.spk_protobuf.proofs.Shortest.{varint_is, varint_shortest}
use Rattle.spk_protobuf.proofs.writing.put_varint.Goals as goal

pub returns-clause-reads : goal.returns-clause-reads
returns-clause-reads c = varint_is c.args.number c.ranges.number.fits

pub returns-clause-shortest : goal.returns-clause-shortest
returns-clause-shortest c = λ text h. varint_shortest c.args.number text h

pub returns-then-number-lt128-clause-reads : goal.returns-then-number-lt128-clause-reads
returns-then-number-lt128-clause-reads c = varint_is c.args.number c.ranges.number.fits

pub returns-then-number-lt128-clause-shortest : goal.returns-then-number-lt128-clause-shortest
returns-then-number-lt128-clause-shortest c = λ text h. varint_shortest c.args.number text h
