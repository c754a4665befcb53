use Rattle.spk_broker_events.proofs.Saying.{nil-of, not-nil, nothing-refused, pair-more, pair-none, refused-said}
use Rattle.spk_broker_events.proofs.reading.refused.Goals as goal

pub returns-in_default : goal.returns-in_default
returns-in_default c = nothing-refused c.args.sort c.args.bytes.now (pair-none c.args.bytes.now c.in_default.ensures.none)

pub returns-then-is_empty : goal.returns-then-is_empty
returns-then-is_empty c =
    refused-said c.args.bytes.now c.in-Some.conn c.in-Some.moment c.in-Some.rest.now c.in-Some.ensures.some c.args.sort (nil-of c.in-Some.rest.now c.is_empty.result c.is_empty.ensures c.if-is_empty.true)

pub returns-else-is_empty : goal.returns-else-is_empty
returns-else-is_empty c =
    nothing-refused c.args.sort c.args.bytes.now
    (pair-more c.args.bytes.now c.in-Some.conn c.in-Some.moment c.in-Some.rest.now c.in-Some.ensures.some (not-nil c.in-Some.rest.now c.is_empty.result c.is_empty.ensures c.if-is_empty.false))
