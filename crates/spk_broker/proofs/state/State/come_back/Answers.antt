use Rattle.std.proofs.Common.{◌≡◌, ◌∙◌, ap, arith, sym, subst, true}
use Rattle.std.proofs.lemmas.List.Quantifiers.{position-Some}
use Rattle.std.specs.List.{find}
use Rattle.std.specs.Option.{IfSome}
use Rattle.spk_broker_rules.specs.Step.{is_away, other_newcomers}
use Rattle.spk_broker_rules.specs.Words.{resent}
use Rattle.spk_broker.specs.Asking.{passes, session_here}
use Rattle.spk_broker.specs.Both.{Both}
use Rattle.spk_broker.specs.Changes.{changed_at}
use Rattle.spk_broker.specs.Drafts.{draft_view}
use Rattle.spk_broker.specs.Entering.{taken_up, with_sends}
use Rattle.spk_broker.specs.Parts.{connection_now}
use Rattle.spk_broker.specs.View.{state_now}
use Rattle.spk_broker.proofs.Alive.{found-alive}
use Rattle.spk_broker.proofs.Changes.{is-there}
use Rattle.spk_broker.proofs.States.{come-entry, come-sends}
use Rattle.spk_broker.proofs.Sendables.{connack-writable}
use Rattle.spk_broker.proofs.state.State.come_back.Goals as goal

pub say-requires : goal.say-requires
say-requires c = connack-writable true 0 (omega arith)

pub returns-clause-entry : goal.returns-clause-entry
returns-clause-entry c =
    let b = state_now c.args.self.now in
    let at = found-alive session_here (is_away c.args.client.now) c.args.self.now.sessions.items c.args.place c.index.result.now c.requires.place in
    let passed = (position-Some (passes (is_away c.args.client.now)) c.args.self.now.sessions.items c.args.place c.index.result.now c.requires.place).1 in
    let there = is-there (is_away c.args.client.now) _ passed in
    ap (λ client. record b {
      newcomers = other_newcomers c.args.connection.conn b.newcomers;
      sessions = changed_at (find (is_away client) b.sessions) (taken_up (connection_now c.args.connection)) b.sessions;
    }) c.in_ok-from_str.ensures.ok
    ∙ come-entry c.args.client.now (connection_now c.args.connection) b (find (is_away c.args.client.now) b.sessions) there.0 (at.1 ∙ there.1)

pub returns-clause-sends : goal.returns-clause-sends
returns-clause-sends c =
    let b = state_now c.args.self.now in
    let at = found-alive session_here (is_away c.args.client.now) c.args.self.now.sessions.items c.args.place c.index.result.now c.requires.place in
    let passed = (position-Some (passes (is_away c.args.client.now)) c.args.self.now.sessions.items c.args.place c.index.result.now c.requires.place).1 in
    let there = is-there (is_away c.args.client.now) _ passed in
    come-sends c.args.client.now (connection_now c.args.connection) b (find (is_away c.args.client.now) b.sessions) there.0
    (draft_view c.args.draft.now) (draft_view c.say.new.self) (draft_view c.resend.new.draft) (at.1 ∙ there.1) c.in_ok-say.ensures
    (subst (λ o. IfSome o (λ x. draft_view c.resend.new.draft ≡ with_sends (resent c.args.connection.conn x.in_flight) (draft_view c.say.new.self)))
    (ap (λ (x : Both). x.now) c.index.ensures ∙ sym at.1) c.in_ok-resend.ensures)
