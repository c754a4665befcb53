use Rattle.std.proofs.Common.{subst}
use Rattle.std.specs.Prelude.{◌∷◌}
use Rattle.spk_world_rules.specs.Files.{deed_of}
use Rattle.spk_world_rules.specs.Refusals.{AllDone}
use Rattle.spk_world.specs.View.{done_view, event_view}
use Rattle.spk_world.proofs.Listed.{allowed, answered, err-map, next-run, ok-map, ok-on, refused-by}
use Rattle.spk_world.proofs.world.World.step.Goals as goal

pub returns-clause-runs : goal.returns-clause-runs
returns-clause-runs c = λ w done run.
    ok-on c.done.result _ _ (λ a d. next-run c.any_list.ensures.runs w done c.args.self.now c.done.new.self (event_view c.args.event.now) (done_view a) run d.passed d.step) c.done.ensures.done

pub returns-clause-answers : goal.returns-clause-answers
returns-clause-answers c = λ w done run.
    ok-map c.done.result _ _ (λ a d. answered c.any_list.ensures.answers w done c.args.self.now c.done.new.self (event_view c.args.event.now) (done_view a) run d.passed d.step) c.done.ensures.done

pub returns-clause-allowed : goal.returns-clause-allowed
returns-clause-allowed c = λ w done run. ok-on c.done.result _ _ (λ a d. allowed c.refusals.ensures w done c.args.self.now (event_view c.args.event.now) run d.passed) c.done.ensures.done

pub returns-clause-ruled : goal.returns-clause-ruled
returns-clause-ruled c = λ w done run.
    err-map c.done.result _ _ (λ e r. refused-by c.refusals.ensures c.sent.ensures.messages c.sent.ensures.deaths w done c.args.self.now (event_view c.args.event.now) e run r) c.done.ensures.refused

pub returns-clause-after_gap : goal.returns-clause-after_gap
returns-clause-after_gap c = λ w done h n input run comes.
    ok-on c.done.result _ _ (λ a d.
    let next = next-run c.any_list.ensures.runs w done c.args.self.now c.done.new.self (event_view c.args.event.now) (done_view a) run d.passed d.step in
    c.headline.ensures.after_gap w done (deed_of w (event_view c.args.event.now)) h n input next.world.widths next.all comes) c.done.ensures.done

pub returns-clause-after_death : goal.returns-clause-after_death
returns-clause-after_death c = λ w done h n input run comes.
    ok-on c.done.result _ _ (λ a d.
    let next = next-run c.any_list.ensures.runs w done c.args.self.now c.done.new.self (event_view c.args.event.now) (done_view a) run d.passed d.step in
    c.headline.ensures.after_death w done (deed_of w (event_view c.args.event.now)) h n input next.world.widths next.all comes) c.done.ensures.done

pub returns-clause-births : goal.returns-clause-births
returns-clause-births c = λ w done h n p now run is.
    ok-on c.done.result _ _ (λ a d.
    let next = next-run c.any_list.ensures.runs w done c.args.self.now c.done.new.self (event_view c.args.event.now) (done_view a) run d.passed d.step in
    c.headline.ensures.births w done h n p now next.world.widths (subst (λ e. AllDone w (e ∷ done)) is next.all)) c.done.ensures.done

pub returns-clause-cause : goal.returns-clause-cause
returns-clause-cause c = λ w done h n run.
    ok-on c.done.result _ _ (λ a d.
    let next = next-run c.any_list.ensures.runs w done c.args.self.now c.done.new.self (event_view c.args.event.now) (done_view a) run d.passed d.step in
    c.headline.ensures.cause w (deed_of w (event_view c.args.event.now) ∷ done) h n next.world.widths next.all) c.done.ensures.done
