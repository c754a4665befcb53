use Rattle.std.proofs.Common.{◌∙◌, refl, ap, map, arith, vec_len}
use Rattle.std.specs.List.{flat_map}
use Rattle.std.specs.Vec.{with_items}
use Rattle.spk_broker_rules.specs.Step.{newcomer_heard}
use Rattle.spk_broker.specs.declared.state.State.{State}
use Rattle.spk_broker.specs.View.{newcomer_now}
use Rattle.spk_broker.proofs.Near.{hear-newcomer-stands}
use Rattle.spk_broker.proofs.Refilled.{refilled}
use Rattle.spk_broker.proofs.state.State.hear.Goals as goal

pub returns-in-None-clause-done : goal.returns-in-None-clause-done
returns-in-None-clause-done c =
    let d = c.args.self.now in
    let end : State = record d { newcomers = with_items d.newcomers c.hear.new.newcomers; sendable = c.self-in-None-1.given.0 } in
    let back = refilled (vec_len d.newcomers) c.hear.new.newcomers d.newcomers.items (omega arith) (omega arith) in
    hear-newcomer-stands d end c.args.conn (c.requires ∙ c.in-None.is) refl
    (ap (flat_map newcomer_now) back ∙ c.hear.ensures.now ∙ ap (λ l. map (newcomer_heard c.args.conn d.clock) (flat_map newcomer_now l)) c.deref_mut.ensures.value) refl refl
