use Rattle.spk_world_run.proofs.Inputs.{input-answer, input-run}
use Rattle.spk_world_run.proofs.laws.inputs.Goals as goal

pub returns-clause-runs : goal.returns-clause-runs
returns-clause-runs c =
    input-run c.any_list.ensures.same_steps c.records.ensures.same_number c.records.ensures.same_start c.along.ensures.numbered c.along.ensures.numbered_whole c.any_list.ensures.openings
    c.published.ensures.moments c.messages.ensures.opens c.along.ensures.alone c.positions.ensures.grows c.positions.ensures.taken_opens c.records.ensures.same_message c.records.ensures.same_opens c.records.ensures.handed c.grows.ensures.inputs c.lawful.ensures

pub returns-clause-answers : goal.returns-clause-answers
returns-clause-answers c = input-answer c.any_list.ensures.same_steps c.along.ensures.lengths
