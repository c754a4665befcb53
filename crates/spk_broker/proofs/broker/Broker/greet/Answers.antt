use Rattle.std.proofs.Common.{◌≡◌, ◌∙◌, ap, sym, subst, map, refl, arith}
use Rattle.std.proofs.lemmas.List.{map_push}
use Rattle.spk_broker_rules.specs.Data as plain
use Rattle.spk_broker_rules.specs.Lawful.{IsLawful}
use Rattle.spk_broker_rules.specs.Plan.{Open}
use Rattle.spk_broker_rules.specs.Step.{step}
use Rattle.spk_broker_rules.proofs.AnyList.{step-lawful}
use Rattle.spk_broker.specs.View.{state_was, newcomer_was}
use Rattle.spk_broker.proofs.Opening.{newcomers-more, opened, opened-settled, with_newcomers}
use Rattle.spk_broker.proofs.broker.Broker.greet.Goals as goal

pub invariant_of-self-2 : goal.invariant_of-self-2
invariant_of-self-2 c =
    let d = c.self.inside.state in
    let more = c.push.new.self.items in
    let all : with_newcomers (state_was d) c.max-clock.result (map newcomer_was more) ≡ (step (state_was d) (Open c.args.now)).broker =
    opened (state_was d) c.args.now c.max-clock.result (map newcomer_was more) c.max-clock.ensures
    (ap (map newcomer_was) c.in_ok-push.ensures.items ∙ map_push newcomer_was d.newcomers.items _) in
    record {
      sound = record {
        settled = opened-settled d c.max-clock.result more c.self.invariant.sound.settled
            (newcomers-more d.newcomers.items more _ c.in_ok-push.ensures.items (ap (λ (b : plain.Broker). b.newcomers) c.self.invariant.sound.settled) refl);
        lawful = subst IsLawful (sym all) (step-lawful (state_was d) (Open c.args.now) c.self.invariant.sound.lawful);
      };
      index = c.self.invariant.index;
      calm = record { sessions = c.self.invariant.calm.sessions; soon = omega (arith, c.self.invariant.calm.soon, c.max-clock.ensures) };
    }

pub returns-clause-done : goal.returns-clause-done
returns-clause-done c =
    let d = c.self.inside.state in
    opened (state_was d) c.args.now c.max-clock.result (map newcomer_was c.push.new.self.items) c.max-clock.ensures
    (ap (map newcomer_was) c.in_ok-push.ensures.items ∙ map_push newcomer_was d.newcomers.items _)
    ∙ ap (λ b. (step b (Open c.args.now)).broker) c.self.view_is
