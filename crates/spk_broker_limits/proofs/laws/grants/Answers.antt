use Rattle.spk_broker_limits.proofs.Totals.{few_grants}
use Rattle.spk_broker_limits.proofs.laws.grants.Goals as goal

pub returns : goal.returns
returns c = few_grants
