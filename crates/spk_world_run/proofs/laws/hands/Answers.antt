use Rattle.spk_world_run.proofs.Hands.{hand-answer, hand-run}
use Rattle.spk_world_run.proofs.laws.hands.Goals as goal

pub returns-clause-runs : goal.returns-clause-runs
returns-clause-runs c =
    hand-run c.messages.ensures c.headline.ensures.steps c.lawful.ensures c.positions.ensures.taken c.consumption.ensures.consumed
    c.any_list.ensures.config c.any_list.ensures.order c.records.ensures.start_below

pub returns-clause-answers : goal.returns-clause-answers
returns-clause-answers c = hand-answer c.messages.ensures c.consumption.ensures.steps c.any_list.ensures.config c.any_list.ensures.order
