use Rattle.spk_world_run.proofs.Renewals.{renewal-answer, renewal-run}
use Rattle.spk_world_run.proofs.laws.renewals.Goals as goal

pub returns-clause-runs : goal.returns-clause-runs
returns-clause-runs c = renewal-run

pub returns-clause-answers : goal.returns-clause-answers
returns-clause-answers c = renewal-answer
