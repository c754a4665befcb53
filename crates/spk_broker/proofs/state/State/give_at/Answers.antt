use Rattle.std.proofs.Common.{◌≡◌, ◌∙◌, ap, map, refl, sym, get_or, subst, Some, Global}
use Rattle.std.specs.List.{flat_map, fold}
use Rattle.std.specs.Option.{option_map}
use Rattle.std.specs.Vec.{with_item}
use Rattle.spk_broker_rules.specs.Data as plain
use Rattle.spk_broker_rules.specs.Step.{Turn, offer, retained_with, session_by, sits}
use Rattle.spk_broker_rules.specs.Words.{offers_to}
use Rattle.spk_broker.specs.Asking.{session_here}
use Rattle.spk_broker.specs.Both.{Both}
use Rattle.spk_broker.specs.declared.state.State.{State}
use Rattle.spk_broker.specs.Granting.{Grown, regranted}
use Rattle.spk_broker.specs.Parts.{grant_view, retained_view}
use Rattle.spk_broker.specs.View.{Stands, state_was, session_was}
use Rattle.spk_broker.proofs.Alive.{found-alive}
use Rattle.spk_broker.proofs.Gives.{begins, given_turn, gives}
use Rattle.spk_broker.proofs.Touched.{only-set}
use Rattle.spk_broker.proofs.Walks.{same-step}
use Rattle.spk_broker.proofs.state.State.give_at.Goals as goal

pub returns-clause-done : goal.returns-clause-done
returns-clause-done c t session entries s sitting grown =
    let d = c.args.self.now in
    let end : State = record d { sessions = with_item d.sessions c.args.place c.set_grants.new.self; sendable = c.self-2-1.given.0 } in
    let e = c.index_mut.result.now in
    let at = found-alive session_here (sits c.args.conn) d.sessions.items c.args.place e c.requires.place in
    let here : (get_or d.sessions.items c.args.place e).now ≡ Some session =
    sym at.1 ∙ ap (λ (b : plain.Broker). session_by c.args.conn b.sessions) s.broker ∙ sitting in
    let now = c.set_grants.ensures.now ∙ ap (λ (b : Both). option_map (regranted (map grant_view c.args.granting.grants.items)) b.now) c.index_mut.ensures.value
    ∙ ap (option_map (regranted (map grant_view c.args.granting.grants.items))) here in
    let off = begins d end c.args.draft.now c.say.new.self c.args.place e c.set_grants.new.self c.args.conn c.args.id session
    (map grant_view c.args.granting.grants.items) c.args.granting.codes.items t c.requires.place here refl now refl refl c.in_ok-say.ensures s in
    let done = c.in_ok-offer_all.ensures.done session.key _ off in
    let table : map (retained_view {A = Global}) d.retained.entries ≡ t.broker.retained =
    ap (fold retained_with (map (retained_view {A = Global}) d.retained.entries)) (sym c.requires.keeps) ∙ ap (λ (b : plain.Broker). b.retained) s.broker in
    subst (λ (u : Turn). Stands c.offer_all.new.self c.offer_all.new.draft u)
    (ap (λ gs. fold (offer session.key) (given_turn session (map grant_view c.args.granting.grants.items) c.args.granting.codes.items c.args.conn c.args.id t)
    (flat_map (offers_to (map (retained_view {A = Global}) d.retained.entries)) (map grant_view gs))) c.deref.ensures.value
    ∙ ap (λ r. fold (offer session.key) (given_turn session (map grant_view c.args.granting.grants.items) c.args.granting.codes.items c.args.conn c.args.id t)
    (flat_map (offers_to r) (map grant_view c.args.granting.given.items))) table
    ∙ ap (λ (g : Grown). fold (offer session.key) (given_turn session g.grants g.codes c.args.conn c.args.id t) (flat_map (offers_to t.broker.retained) g.given)) grown
    ∙ gives c.args.conn c.args.id entries t session sitting)
    done.stands

pub returns-in_err-say-clause-same : goal.returns-in_err-say-clause-same
returns-in_err-say-clause-same c =
    let d = c.args.self.now in
    ap (λ l. record (state_was d) { sessions = l }) (same-step session_was d.sessions.items c.args.place c.index_mut.result.now _ c.set_grants.new.self refl (c.set_grants.ensures.was ∙ ap (λ (b : Both). b.was) c.index_mut.ensures.value))

pub returns-in_err-offer_all-clause-same : goal.returns-in_err-offer_all-clause-same
returns-in_err-offer_all-clause-same c =
    let d = c.args.self.now in
    c.offer_all.ensures.same
    ∙ ap (λ l. record (state_was d) { sessions = l }) (same-step session_was d.sessions.items c.args.place c.index_mut.result.now _ c.set_grants.new.self refl (c.set_grants.ensures.was ∙ ap (λ (b : Both). b.was) c.index_mut.ensures.value))

pub returns-clause-same : goal.returns-clause-same
returns-clause-same c =
    let d = c.args.self.now in
    c.offer_all.ensures.same
    ∙ ap (λ l. record (state_was d) { sessions = l }) (same-step session_was d.sessions.items c.args.place c.index_mut.result.now _ c.set_grants.new.self refl (c.set_grants.ensures.was ∙ ap (λ (b : Both). b.was) c.index_mut.ensures.value))

pub returns-clause-only : goal.returns-clause-only
returns-clause-only c o =
    let d = c.args.self.now in
    let end : State = record d { sessions = with_item d.sessions c.args.place c.set_grants.new.self; sendable = c.self-2-1.given.0 } in
    c.in_ok-offer_all.ensures.only (only-set d end c.args.place c.set_grants.new.self refl refl o)
