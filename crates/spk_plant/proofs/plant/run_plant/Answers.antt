use Rattle.std.proofs.lemmas.Result.{IfErr-weaker, IfOk-weaker}
use Rattle.spk_plant.proofs.Chosen.{of_left, of_threads}
use Rattle.spk_plant.proofs.Runs.{ready_is, runs, ties}
use Rattle.spk_plant.proofs.plant.run_plant.Goals as goal

pub run_all-requires-clause-edges : goal.run_all-requires-clause-edges
run_all-requires-clause-edges g c κs within =
    ready_is c.args.plan c.in-Ok.parts.ingress c.in-Ok.parts.edges.items c.in-Ok.parts.broker c.in-Ok.parts.host c.in-Ok.ensures.parts

pub report_of-requires : goal.report_of-requires
report_of-requires g c =
    ties c.args.plan c.in-Ok.parts.ingress c.in-Ok.parts.edges.items c.in-Ok.parts.broker c.in-Ok.parts.host c.in-Ok-run_all.ends c.in-Ok.ensures.parts
    c.in-Ok-run_all.ensures.done

pub returns-clause-ran : goal.returns-clause-ran
returns-clause-ran g c =
    IfOk-weaker c.report_of.result _ _
    (λ r tied. runs c.args.plan c.in-Ok.parts.ingress c.in-Ok.parts.edges.items c.in-Ok.parts.broker c.in-Ok.parts.host c.in-Ok-run_all.ends r
    c.in-Ok.ensures.parts c.in-Ok-run_all.ensures.done tied)
    c.report_of.ensures.tied

pub returns-in-Err-run_all-clause-fault : goal.returns-in-Err-run_all-clause-fault
returns-in-Err-run_all-clause-fault g c =
    of_threads c.args.plan c.in-Ok.parts c.in-Err-run_all.fault c.in-Ok.ensures.can c.in-Ok.ensures.parts c.in-Err-run_all.ensures.fault

pub returns-clause-fault : goal.returns-clause-fault
returns-clause-fault g c =
    IfErr-weaker c.report_of.result _ _
    (λ e why. of_left c.args.plan c.in-Ok.parts c.in-Ok-run_all.ends e c.in-Ok.ensures.can c.in-Ok.ensures.parts c.in-Ok-run_all.ensures.done why)
    c.report_of.ensures.fault
