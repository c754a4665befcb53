use Rattle.spk_broker_limits.proofs.Each.{in_flight, identifiers}
use Rattle.spk_broker_limits.proofs.laws.sessions.Goals as goal

pub returns-clause-identifiers : goal.returns-clause-identifiers
returns-clause-identifiers c = identifiers

pub returns-clause-in_flight : goal.returns-clause-in_flight
returns-clause-in_flight c = in_flight
