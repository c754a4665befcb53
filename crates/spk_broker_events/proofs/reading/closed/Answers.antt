use Rattle.spk_broker_events.proofs.Saying.{nil-of, not-nil, nothing-closed, pair-more, pair-none, closed-said}
use Rattle.spk_broker_events.proofs.reading.closed.Goals as goal

pub returns-in_default : goal.returns-in_default
returns-in_default c = nothing-closed c.args.bytes.now (pair-none c.args.bytes.now c.in_default.ensures.none)

pub returns-then-is_empty : goal.returns-then-is_empty
returns-then-is_empty c =
    closed-said c.args.bytes.now c.in-Some.conn c.in-Some.moment c.in-Some.rest.now c.in-Some.ensures.some (nil-of c.in-Some.rest.now c.is_empty.result c.is_empty.ensures c.if-is_empty.true)

pub returns-else-is_empty : goal.returns-else-is_empty
returns-else-is_empty c =
    nothing-closed c.args.bytes.now
    (pair-more c.args.bytes.now c.in-Some.conn c.in-Some.moment c.in-Some.rest.now c.in-Some.ensures.some (not-nil c.in-Some.rest.now c.is_empty.result c.is_empty.ensures c.if-is_empty.false))
