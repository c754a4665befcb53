use Rattle.spk_protobuf.specs.Reading.{varint_at}
use Rattle.spk_protobuf.proofs.Loops.{with_low-start, goes_on, ends_with, ends_short, ends_long}
use Rattle.spk_protobuf.proofs.reading.any_varint_at.Goals as goal

pub loop-init : goal.loop-init
loop-init c = with_low-start c.args.bytes.now

pub returns-in_default : goal.returns-in_default
returns-in_default c = ends_short c.loop.value c.loop.weight c.loop.counter c.loop.rest.now (varint_at c.args.bytes.now) c.loop-test.true c.in_default.ensures.cases c.loop.invariant

pub returns-then-byte-lt128 : goal.returns-then-byte-lt128
returns-then-byte-lt128 c = ends_with c.loop.value c.loop.weight c.loop.counter c.in-Some.byte.now c.from.result c.loop.rest.now c.in-Some.after.now (varint_at c.args.bytes.now) c.loop-test.true c.in-Some.ensures.cases.0 c.if-byte-lt128.true c.from.ensures c.loop.invariant

pub loop-preserved : goal.loop-preserved
loop-preserved c = goes_on c.loop.value c.loop.weight c.loop.counter c.in-Some.byte.now c.from.result c.loop.rest.now c.in-Some.after.now (varint_at c.args.bytes.now) c.loop-test.true c.in-Some.ensures.cases.0 c.if-byte-lt128.false c.from.ensures c.loop.invariant

pub returns : goal.returns
returns c = ends_long c.loop.value c.loop.weight c.loop.counter c.loop.rest.now (varint_at c.args.bytes.now) c.loop-test.false c.loop.invariant
