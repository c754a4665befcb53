use Rattle.spk_broker_store.proofs.Refused.{is-not-read}
use Rattle.spk_broker_store.proofs.opening.kept_on.Goals as goal

pub returns-clause-refused : goal.returns-clause-refused
returns-clause-refused g c = is-not-read c.as_slice.result.now c.broker_of.result c.broker_of.ensures.refused
