use Rattle.spk_host_app.proofs.Calls.{call_reaches, calls_reach}
use Rattle.spk_host_app.proofs.laws.calls_are_deeds.Goals as goal

pub returns-clause-one_by_one : goal.returns-clause-one_by_one
returns-clause-one_by_one c = call_reaches

pub returns-clause-all : goal.returns-clause-all
returns-clause-all c = calls_reach
