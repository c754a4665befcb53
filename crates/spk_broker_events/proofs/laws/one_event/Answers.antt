use Rattle.spk_broker_events.proofs.Saying.{one-event}
use Rattle.spk_broker_events.proofs.laws.one_event.Goals as goal

pub returns : goal.returns
returns c = one-event c.prefix_free.ensures
