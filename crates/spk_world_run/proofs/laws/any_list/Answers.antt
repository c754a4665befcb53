use Rattle.std.proofs.Common.{◌∙◌, sym}
use Rattle.spk_world_rules.specs.Events.{AtNode, Hand, Death, Tick, Renew}
use Rattle.spk_world_run.proofs.laws.any_list.Goals as goal

pub returns-clause-runs : goal.returns-clause-runs
returns-clause-runs c w done d after (AtNode n input) answer run passed step =
    c.inputs.ensures.runs w done d after n input answer run (sym (c.refusals.ensures w done d (AtNode n input) run) ∙ passed) step
returns-clause-runs c w done d after (Hand h n p now) answer run passed step =
    c.hands.ensures.runs w done d after h n p now answer run (sym (c.refusals.ensures w done d (Hand h n p now) run) ∙ passed) step
returns-clause-runs c w done d after (Death h n s now) answer run passed step =
    c.deaths.ensures.runs w done d after h n s now answer run (sym (c.refusals.ensures w done d (Death h n s now) run) ∙ passed) step
returns-clause-runs c w done d after (Tick h now) answer run passed step =
    c.ticks.ensures.runs w done d after h now answer run (sym (c.refusals.ensures w done d (Tick h now) run) ∙ passed) step
returns-clause-runs c w done d after (Renew h now) answer run passed step =
    c.renewals.ensures.runs w done d after h now answer run (sym (c.refusals.ensures w done d (Renew h now) run) ∙ passed) step

pub returns-clause-answers : goal.returns-clause-answers
returns-clause-answers c w done d after (AtNode n input) answer run passed step = c.inputs.ensures.answers w done d after n input answer run step
returns-clause-answers c w done d after (Hand h n p now) answer run passed step = c.hands.ensures.answers w done d after h n p now answer run step
returns-clause-answers c w done d after (Death h n s now) answer run passed step =
    c.deaths.ensures.answers w done d after h n s now answer run (sym (c.refusals.ensures w done d (Death h n s now) run) ∙ passed) step
returns-clause-answers c w done d after (Tick h now) answer run passed step =
    c.ticks.ensures.answers w done d after h now answer run (sym (c.refusals.ensures w done d (Tick h now) run) ∙ passed) step
returns-clause-answers c w done d after (Renew h now) answer run passed step = c.renewals.ensures.answers w done d after h now answer step
