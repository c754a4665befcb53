use Rattle.std.proofs.Common.{◌≡◌, ap, subst, true, ◌∙◌}
use Rattle.spk_broker_events.specs.Line.{IsLine, kept}
use Rattle.spk_broker_events.specs.Record.{IsSaid, said}
use Rattle.spk_broker_rules.specs.Step.{step}
use Rattle.spk_broker_snapshot.specs.Together.{apart}
use Rattle.spk_broker_journal.specs.Assembled.{stand}
use Rattle.spk_broker_journal.specs.Fitting.{is_taken}
use Rattle.spk_broker_journal.proofs.Replaying.{event-said, line-said}
use Rattle.spk_broker_journal.proofs.restoring.with_content.Goals as goal

pub returns-in-Ok-clause-done : goal.returns-in-Ok-clause-done
returns-in-Ok-clause-done c =
    line-said c.args.limit (stand c.args.assembly) (stand c.in-Ok.assembly) c.args.content.now (kept c.in-Some.line)
    (subst (IsLine c.args.content.now) c.in-Some.is c.in_ok-line.ensures) c.in-Ok.ensures.fit c.in-Ok.ensures.done

pub returns-clause-done : goal.returns-clause-done
returns-clause-done c =
    let e = said c.in-Some-2.event in
    event-said c.args.limit (stand c.args.assembly) (stand c.apart.result) c.args.content.now e
    (subst (IsSaid c.args.content.now) c.in-Some-2.is c.in_ok-event.ensures) c.in_ok-ended.ensures.fit
    (subst (λ b. is_taken b e ≡ true) c.in_ok-ended.ensures.done c.in_ok-broker.ensures.fit)
    (c.apart.ensures ∙ ap apart (c.in_ok-broker.ensures.done ∙ ap (λ b. (step b e).broker) c.in_ok-ended.ensures.done))
