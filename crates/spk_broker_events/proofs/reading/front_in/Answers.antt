use Rattle.std.proofs.Common.{arith}
use Rattle.spk_broker_events.proofs.Saying.{front-half, front-none, front-read}
use Rattle.spk_broker_events.proofs.reading.front_in.Goals as goal

pub returns-in_default-clause-none : goal.returns-in_default-clause-none
returns-in_default-clause-none c = front-none c.args.bytes.now c.in_default.ensures

pub returns-in_default-eight-clause-none : goal.returns-in_default-eight-clause-none
returns-in_default-eight-clause-none c = front-half c.args.bytes.now c.in-Some.behind.now c.in-Some.conn (λ i. omega (arith, c.type_inv.bytes i)) c.in-Some.ensures c.in_default-eight.ensures

pub returns-clause-some : goal.returns-clause-some
returns-clause-some c =
    front-read c.args.bytes.now c.in-Some.behind.now c.in-Some.conn c.in-Some-eight.moment c.in-Some-eight.rest.now (λ i. omega (arith, c.type_inv.bytes i)) c.in-Some.ensures c.in-Some-eight.ensures
