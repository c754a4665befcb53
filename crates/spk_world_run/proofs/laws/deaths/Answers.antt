use Rattle.spk_world_run.proofs.Deaths.{death-answer, death-run}
use Rattle.spk_world_run.proofs.laws.deaths.Goals as goal

pub returns-clause-runs : goal.returns-clause-runs
returns-clause-runs c = death-run c.deaths.ensures.read c.spelling_spells.ensures

pub returns-clause-answers : goal.returns-clause-answers
returns-clause-answers c = death-answer c.headline.ensures.steps
