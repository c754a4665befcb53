use Rattle.spk_world_run.proofs.Ticks.{tick-answer, tick-run}
use Rattle.spk_world_run.proofs.laws.ticks.Goals as goal

pub returns-clause-runs : goal.returns-clause-runs
returns-clause-runs c = tick-run

pub returns-clause-answers : goal.returns-clause-answers
returns-clause-answers c =
    tick-answer c.headline.ensures.steps c.positions.ensures.live c.lawful.ensures c.any_list.ensures.config c.any_list.ensures.order c.consumption.ensures.standing
