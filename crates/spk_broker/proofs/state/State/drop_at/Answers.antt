use Rattle.std.proofs.Common.{◌∙◌, refl, ap}
use Rattle.std.specs.Option.{option_map}
use Rattle.std.specs.Vec.{with_item}
use Rattle.spk_broker.specs.Both.{Both}
use Rattle.spk_broker.specs.Sessions.{session_dropped}
use Rattle.spk_broker.specs.View.{state_was, session_was}
use Rattle.spk_broker.specs.declared.state.State.{State}
use Rattle.spk_broker.proofs.Near.{drop-at-stands}
use Rattle.spk_broker.proofs.Walks.{same-step}
use Rattle.spk_broker.proofs.state.State.drop_at.Goals as goal

pub returns-clause-done : goal.returns-clause-done
returns-clause-done c =
    let d = c.args.self.now in
    let end : State = record d { sessions = with_item d.sessions c.args.place c.count_drop.new.self; sendable = c.self-2-1.given.0 } in
    drop-at-stands d end c.args.conn c.args.place c.index_mut.result.now c.count_drop.new.self c.requires refl refl refl
    (c.count_drop.ensures.now ∙ ap (λ (b : Both). option_map (session_dropped c.args.conn) b.now) c.index_mut.ensures.value) refl

pub returns-clause-same : goal.returns-clause-same
returns-clause-same c =
    let d = c.args.self.now in
    ap (λ l. record (state_was d) { sessions = l }) (same-step session_was d.sessions.items c.args.place c.index_mut.result.now _ c.count_drop.new.self refl (c.count_drop.ensures.was ∙ ap (λ (b : Both). b.was) c.index_mut.ensures.value))
