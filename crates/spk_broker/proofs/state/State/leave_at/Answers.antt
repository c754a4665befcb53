use Rattle.std.proofs.Common.{◌∙◌, ◌++◌, refl, ap, arith, vec_len}
use Rattle.std.specs.List.{flat_map}
use Rattle.std.specs.Vec.{with_items, with_item}
use Rattle.spk_broker_rules.specs.Step.{other_newcomers, left_behind, will_at}
use Rattle.spk_broker_rules.specs.Words.{option_list}
use Rattle.spk_broker.specs.Both.{Both}
use Rattle.spk_broker.specs.declared.state.State.{State}
use Rattle.spk_broker.specs.Drafts.{draft_view}
use Rattle.spk_broker.specs.View.{newcomer_now, session_was, state_was}
use Rattle.spk_broker.proofs.Leaving.{index-left}
use Rattle.spk_broker.proofs.Refilled.{refilled}
use Rattle.spk_broker.proofs.Standing.{newcomer-leaves, session-leaves}
use Rattle.spk_broker.proofs.Walks.{same-step}
use Rattle.spk_broker.proofs.state.State.leave_at.Goals as goal

pub returns-in_default-clause-done : goal.returns-in_default-clause-done
returns-in_default-clause-done c =
    let d = c.args.self.now in
    let end : State = record d { newcomers = with_items d.newcomers c.leave.new.newcomers; sendable = c.self-in_default-1.given.0 } in
    let back = refilled (vec_len d.newcomers) c.leave.new.newcomers d.newcomers.items (omega arith) (omega arith) in
    newcomer-leaves d end c.args.conn c.args.wills
    (c.requires ∙ c.in_default.is) refl
    (ap (flat_map newcomer_now) back ∙ c.leave.ensures.now ∙ ap (λ l. other_newcomers c.args.conn (flat_map newcomer_now l)) c.deref_mut.ensures.value) refl c.args.draft.now

pub returns-in_err-leave-clause-same : goal.returns-in_err-leave-clause-same
returns-in_err-leave-clause-same c =
    let d = c.args.self.now in
    ap (λ l. record (state_was d) { sessions = l }) (same-step session_was d.sessions.items c.in-Some.place c.index_mut.result.now _ c.leave-2.new.self refl (c.leave-2.ensures.was ∙ ap (λ (b : Both). b.was) c.index_mut.ensures.value))

pub returns-clause-same : goal.returns-clause-same
returns-clause-same c =
    let d = c.args.self.now in
    ap (λ l. record (state_was d) { sessions = l }) (same-step session_was d.sessions.items c.in-Some.place c.index_mut.result.now _ c.leave-2.new.self refl (c.leave-2.ensures.was ∙ ap (λ (b : Both). b.was) c.index_mut.ensures.value))

pub returns-clause-done : goal.returns-clause-done
returns-clause-done c =
    let d = c.args.self.now in
    let end : State = record d { sessions = with_item d.sessions c.in-Some.place c.leave-2.new.self; sendable = c.self-3-1.given.0 } in
    session-leaves d end c.args.draft.now c.leave-2.new.draft c.args.conn c.in-Some.place c.args.wills c.index_mut.result.now c.leave-2.new.self
    (c.requires ∙ c.in-Some.is) refl refl
    (c.in_ok-leave.ensures.left ∙ ap (λ (b : Both). flat_map left_behind (option_list b.now)) c.index_mut.ensures.value)
    (c.in_ok-leave.ensures.drafted ∙ ap (λ (b : Both). record (draft_view c.args.draft.now) { waiting = (draft_view c.args.draft.now).waiting ++ flat_map (will_at c.args.wills) (option_list b.now) }) c.index_mut.ensures.value)

pub returns-clause-index : goal.returns-clause-index
returns-clause-index c i h =
    index-left i c.args.self.now.sessions.items c.in-Some.place c.index_mut.result.now c.leave-2.new.self
    (c.in_ok-leave.ensures.left ∙ ap (λ (b : Both). flat_map left_behind (option_list b.now)) c.index_mut.ensures.value) h
