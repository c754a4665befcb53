use Rattle.std.proofs.Common.{◌∙◌, ap, map, refl, sym, subst, Some, Global}
use Rattle.std.specs.List.{fold, slice_get}
use Rattle.std.specs.Vec.{with_item}
use Rattle.spk_broker_rules.specs.Step.{hand, offer}
use Rattle.spk_broker_rules.specs.Data as plain
use Rattle.spk_broker.specs.Both.{Both}
use Rattle.spk_broker.specs.Drafts.{draft_view, left_by, served_by}
use Rattle.spk_broker.specs.declared.state.State.{State}
use Rattle.spk_broker.specs.Encoded.{AreGiven}
use Rattle.spk_broker.specs.Offering.{Offering, offers_at}
use Rattle.spk_broker.specs.Parts.{grant_view, retained_view}
use Rattle.spk_broker.specs.View.{state_was, session_was}
use Rattle.spk_broker.proofs.Offers.{offers}
use Rattle.spk_broker.proofs.Touched.{only-set}
use Rattle.spk_broker.proofs.Walks.{same-step}
use Rattle.spk_broker.proofs.state.State.offer_one.Goals as goal

pub returns-in_err-hand_given-in-Some-clause-same : goal.returns-in_err-hand_given-in-Some-clause-same
returns-in_err-hand_given-in-Some-clause-same c =
    let d = c.args.self.now in
    ap (λ l. record (state_was d) { sessions = l }) (same-step session_was d.sessions.items c.args.place c.index_mut.result.now _ c.hand_given.new.self refl (c.hand_given.ensures.was ∙ ap (λ (b : Both). b.was) c.index_mut.ensures.value))

pub returns-in_ok-hand_given-in-Some-clause-same : goal.returns-in_ok-hand_given-in-Some-clause-same
returns-in_ok-hand_given-in-Some-clause-same c =
    let d = c.args.self.now in
    ap (λ l. record (state_was d) { sessions = l }) (same-step session_was d.sessions.items c.args.place c.index_mut.result.now _ c.hand_given.new.self refl (c.hand_given.ensures.was ∙ ap (λ (b : Both). b.was) c.index_mut.ensures.value))

pub returns-in_ok-hand_given-in-Some-clause-done : goal.returns-in_ok-hand_given-in-Some-clause-done
returns-in_ok-hand_given-in-Some-clause-done c key t o =
    let d = c.args.self.now in
    let end : State = record d { sessions = with_item d.sessions c.args.place c.hand_given.new.self; sendable = c.self-in-Some-1.given.0 } in
    let offered = offers_at (slice_get (map (retained_view {A = Global}) d.retained.entries) c.args.from) (grant_view c.args.grant.now) in
    let given : AreGiven (Some c.in-Some.given) offered = subst (λ o. AreGiven o offered) c.in-Some.is c.in_ok-given.ensures.given in
    let p : plain.AppMessage = given.0 in
    subst (λ ps. Offering end c.hand_given.new.draft c.args.place key (fold (offer key) t ps)) (sym given.1)
    (offers d end c.args.draft.now c.hand_given.new.draft c.args.place key p c.index_mut.result.now c.hand_given.new.self t
    (record {
      sessions = refl;
      state = refl;
      retained = refl;
      left = c.in_ok-hand_given-in-Some.ensures.left p given.2 ∙ ap (λ (b : Both). left_by (hand p) b.now) c.index_mut.ensures.value;
      drafted = c.in_ok-hand_given-in-Some.ensures.drafted p given.2 ∙ ap (λ (b : Both). served_by (hand p) b.now (draft_view c.args.draft.now)) c.index_mut.ensures.value;
    }) o)

pub returns-in_ok-hand_given-in-Some-clause-only : goal.returns-in_ok-hand_given-in-Some-clause-only
returns-in_ok-hand_given-in-Some-clause-only c o =
    let d = c.args.self.now in
    let end : State = record d { sessions = with_item d.sessions c.args.place c.hand_given.new.self; sendable = c.self-in-Some-1.given.0 } in
    only-set d end c.args.place c.hand_given.new.self refl refl o
