use Rattle.std.proofs.Common.{◌≡◌, ◌∙◌, sym, subst, None}
use Rattle.std.specs.Result.{IfOk, OnOk}
use Rattle.spk_broker_rules.specs.Step.{Turn, away_for}
use Rattle.spk_broker.specs.Asking.{sessions_now}
use Rattle.spk_broker.specs.Drafts.{draft_view}
use Rattle.spk_broker.specs.Entering.{entered, with_sends}
use Rattle.spk_broker.specs.Parts.{connection_now}
use Rattle.spk_broker.specs.View.{state_now}
use Rattle.spk_broker.proofs.States.{nobody-away, taken-none}
use Rattle.spk_broker.proofs.state.State.prepare.Goals as goal

pub returns-in-None-clause-entry : goal.returns-in-None-clause-entry
returns-in-None-clause-entry c =
    let nobody : away_for c.args.kept c.args.client.now (sessions_now c.args.self.now.sessions.items) ≡ None =
    nobody-away c.args.kept c.args.client.now c.args.self.now.sessions.items
    (sym (c.requires.away c.if-not-kept.false) ∙ c.in-None.is) in
    subst (λ (u : Turn). IfOk c.make-in-None.result (λ e. entered e (state_now c.args.self.now) ≡ u.broker))
    (taken-none c.args.kept c.args.client.now (connection_now c.args.connection) (state_now c.args.self.now) c.if-not-kept.false nobody)
    c.make-in-None.ensures.entry

pub returns-in-None-clause-sends : goal.returns-in-None-clause-sends
returns-in-None-clause-sends c =
    let nobody : away_for c.args.kept c.args.client.now (sessions_now c.args.self.now.sessions.items) ≡ None =
    nobody-away c.args.kept c.args.client.now c.args.self.now.sessions.items
    (sym (c.requires.away c.if-not-kept.false) ∙ c.in-None.is) in
    subst (λ (u : Turn). OnOk c.make-in-None.result (draft_view c.make-in-None.new.draft ≡ with_sends u.sends (draft_view c.args.draft.now)))
    (taken-none c.args.kept c.args.client.now (connection_now c.args.connection) (state_now c.args.self.now) c.if-not-kept.false nobody)
    c.make-in-None.ensures.sends

pub come_back-requires-clause-place : goal.come_back-requires-clause-place
come_back-requires-clause-place c = sym (c.requires.away c.if-not-kept.false) ∙ c.in-Some.is
