use Rattle.std.proofs.Common.{◌≡◌, ◌∙◌, ap, sym, subst, refl, suc, ◌+◌, ◌++◌, ◌∷◌, [], length, map, take, List, arith}
use Rattle.std.proofs.lemmas.List.{take-map, take_all}
use Rattle.std.proofs.lemmas.Option.{slice_get_read}
use Rattle.std.specs.Prelude.{slice_get, Some}
use Rattle.spk_world_rules.specs.Files.{Event}
use Rattle.spk_world_run.specs.Data.{WorldData}
use Rattle.spk_world.specs.Outcome.{IsRefused}
use Rattle.spk_world.specs.Steps.{AreSteps, deed_at}
use Rattle.spk_world.specs.View.{done_view, event_view}
use Rattle.spk_world.proofs.Listed.{steps-run, stopped-by}
use Rattle.spk_world.proofs.Lists.{get-map, take-at}
use Rattle.spk_world.proofs.Running.{steps-more}
use Rattle.spk_world.proofs.world.World.run.Goals as goal

pub returns-in-Err-clause-stopped : goal.returns-in-Err-clause-stopped
returns-in-Err-clause-stopped c =
    let events = c.args.events.now in
    let i = c.loop-index.index in
    let e = c.index-events-index.result in
    let same = c.in-Err.ensures.unchanged in
    let there : slice_get events i ≡ Some e = slice_get_read events (length events) i e refl c.loop-index-test.true c.index-events-index.is in
    record {
      event = event_view e;
      there = get-map event_view events i e there;
      before = subst (λ (es : List Event). AreSteps c.args.self.now es c.step.new.self) (sym (take-map event_view i events))
          (subst (λ (w : WorldData). AreSteps c.args.self.now (map event_view (take i events)) w) (sym same) c.loop-index.invariant);
      refused = subst (λ (w : WorldData). IsRefused w (deed_at w (event_view e)) c.in-Err.fault) (sym same) c.in-Err.ensures.refused;
    }

pub loop-index-preserved : goal.loop-index-preserved
loop-index-preserved c =
    let events = c.args.events.now in
    let i = c.loop-index.index in
    let e = c.index-events-index.result in
    let there : slice_get events i ≡ Some e = slice_get_read events (length events) i e refl c.loop-index-test.true c.index-events-index.is in
    let one : suc i ≡ i + 1 = omega arith in
    let split : map event_view (take (i + 1) events) ≡ map event_view (take i events) ++ event_view e ∷ [] =
    ap (λ k. map event_view (take k events)) (sym one) ∙ take-at event_view events i e there in
    subst (λ (es : List Event). AreSteps c.args.self.now es c.step.new.self) (sym split)
    (steps-more c.args.self.now c.loop-index.self c.step.new.self (map event_view (take i events)) (event_view e) c.loop-index.invariant
    (record { answer = done_view c.in_default.field-0; passed = c.in_default.ensures.passed; step = c.in_default.ensures.step }))

pub returns-in-Err-clause-ruled : goal.returns-in-Err-clause-ruled
returns-in-Err-clause-ruled c = λ w done run.
    stopped-by c.any_list.ensures.runs c.refusals.ensures c.sent.ensures.messages c.sent.ensures.deaths w done c.args.self.now c.step.new.self (map event_view c.args.events.now) _ run
    (returns-in-Err-clause-stopped c)

pub returns-clause-runs : goal.returns-clause-runs
returns-clause-runs c = λ w done run.
    let events = c.args.events.now in
    let i = c.loop-index.index in
    let over = c.loop-index-test.false in
    let all : take i events ≡ events = take_all i events (omega (arith, over)) in
    steps-run c.any_list.ensures.runs w (map event_view events) done c.args.self.now c.loop-index.self run
    (subst (λ es. AreSteps c.args.self.now (map event_view es) c.loop-index.self) all c.loop-index.invariant)
