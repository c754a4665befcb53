use Rattle.std.proofs.Common.{arith}
use Rattle.spk_broker_events.proofs.Saying.{moment-not, moment-read, nil-of, none-moment, not-nil}
use Rattle.spk_broker_events.proofs.reading.moment_in.Goals as goal

pub returns-in_default-clause-none : goal.returns-in_default-clause-none
returns-in_default-clause-none c = none-moment c.args.bytes.now c.in_default.ensures

pub returns-then-is_empty-clause-some : goal.returns-then-is_empty-clause-some
returns-then-is_empty-clause-some c =
    moment-read c.args.bytes.now c.in-Some.moment c.in-Some.rest.now (λ i. omega (arith, c.type_inv.bytes i)) c.in-Some.ensures (nil-of c.in-Some.rest.now c.is_empty.result c.is_empty.ensures c.if-is_empty.true)

pub returns-else-is_empty-clause-none : goal.returns-else-is_empty-clause-none
returns-else-is_empty-clause-none c =
    moment-not c.args.bytes.now c.in-Some.moment c.in-Some.rest.now (λ i. omega (arith, c.type_inv.bytes i)) c.in-Some.ensures (not-nil c.in-Some.rest.now c.is_empty.result c.is_empty.ensures c.if-is_empty.false)
