use Rattle.spk_broker_events.proofs.Saying.{nothing-tick, tick-said}
use Rattle.spk_broker_events.proofs.reading.tick.Goals as goal

pub returns-in_default : goal.returns-in_default
returns-in_default c = nothing-tick c.args.bytes.now c.in_default.ensures.none

pub returns : goal.returns
returns c = tick-said c.args.bytes.now c.in-Some.moment c.in-Some.ensures.some
