use Rattle.spk_broker_events.proofs.Saying.{nothing-open, open-said}
use Rattle.spk_broker_events.proofs.reading.open.Goals as goal

pub returns-in_default : goal.returns-in_default
returns-in_default c = nothing-open c.args.bytes.now c.in_default.ensures.none

pub returns : goal.returns
returns c = open-said c.args.bytes.now c.in-Some.moment c.in-Some.ensures.some
