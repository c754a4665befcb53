use Rattle.spk_broker_notes.proofs.Noting.{all-broker, all-notes}
use Rattle.spk_broker_notes.proofs.laws.noted.Goals as goal

pub returns-clause-broker : goal.returns-clause-broker
returns-clause-broker c = all-broker

pub returns-clause-notes : goal.returns-clause-notes
returns-clause-notes c = all-notes
