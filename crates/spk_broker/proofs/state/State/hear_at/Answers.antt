use Rattle.std.proofs.Common.{◌∙◌, refl, ap, subst}
use Rattle.std.specs.Option.{option_map}
use Rattle.std.specs.Vec.{with_item}
use Rattle.spk_broker.specs.Both.{Both}
use Rattle.spk_broker.specs.Called.{IsKeyed}
use Rattle.spk_broker.specs.Sessions.{session_heard}
use Rattle.spk_broker.specs.View.{state_was, session_was}
use Rattle.spk_broker.specs.declared.state.State.{State}
use Rattle.spk_broker.proofs.Near.{hear-at-stands}
use Rattle.spk_broker.proofs.Visits.{keyed-at}
use Rattle.spk_broker.proofs.Walks.{same-step}
use Rattle.spk_broker.proofs.state.State.hear_at.Goals as goal

pub returns-clause-done : goal.returns-clause-done
returns-clause-done c =
    let d = c.args.self.now in
    let end : State = record d { sessions = with_item d.sessions c.args.place c.hear.new.self; sendable = c.self-2-1.given.0 } in
    hear-at-stands d end c.args.conn c.args.place c.index_mut.result.now c.hear.new.self c.requires refl refl refl
    (c.hear.ensures.now ∙ ap (λ (b : Both). option_map (session_heard c.args.conn d.clock) b.now) c.index_mut.ensures.value) refl

pub returns-clause-same : goal.returns-clause-same
returns-clause-same c =
    let d = c.args.self.now in
    ap (λ l. record (state_was d) { sessions = l }) (same-step session_was d.sessions.items c.args.place c.index_mut.result.now _ c.hear.new.self refl (c.hear.ensures.was ∙ ap (λ (b : Both). b.was) c.index_mut.ensures.value))

pub returns-clause-keyed : goal.returns-clause-keyed
returns-clause-keyed c = keyed-at c.args.self.now.sessions.items c.args.place c.hear.new.self c.index.result.now (subst IsKeyed c.index.ensures c.keyed.ensures)
