use Rattle.spk_world_run.proofs.Refused.{refused}
use Rattle.spk_world_run.proofs.laws.refusals.Goals as goal

pub returns : goal.returns
returns c =
    refused c.any_list.ensures.same_steps c.any_list-2.ensures.config c.any_list-2.ensures.order c.consumption.ensures.standing c.positions.ensures.live c.lawful.ensures
    c.records.ensures.start_below c.records.ensures.start_opens
