use Rattle.std.proofs.Common.{◌<◌, ◌∙◌, ap, get_or, sym, refl, length, arith}
use Rattle.spk_broker_rules.specs.Step.{serve}
use Rattle.spk_broker.specs.Drafts.{draft_view, left_by, served_by}
use Rattle.spk_broker.specs.Parts.{app_message_view}
use Rattle.spk_broker.proofs.Rounds.{was-step, round-step, left-end, left-whole, drafted-end, drafted-whole}
use Rattle.spk_broker.proofs.Visits.{keyed-set}
use Rattle.spk_broker.proofs.route.visit.Goals as goal

pub returns-in_err-serve-clause-was : goal.returns-in_err-serve-clause-was
returns-in_err-serve-clause-was c =
    was-step c.loop-session.sessions c.loop-session.session-index c.session-item.result _ c.serve.new.self refl c.serve.ensures.was
    ∙ c.loop-session.invariant.was

pub loop-session-preserved : goal.loop-session-preserved
loop-session-preserved c =
    let f = serve (app_message_view c.args.app_message.now) in
    let same = c.loop-session.invariant.delivery in
    let left = c.in_ok-serve.ensures.left ∙ ap (λ m. left_by (serve m) (get_or c.loop-session.sessions c.loop-session.session-index c.session-item.result).now) same in
    let drafted = c.in_ok-serve.ensures.drafted ∙ ap (λ m. served_by (serve m) (get_or c.loop-session.sessions c.loop-session.session-index c.session-item.result).now (draft_view c.loop-session.draft)) same in
    let below : c.loop-session.session-index < length c.loop-session.sessions = omega arith in
    let step = round-step f c.loop-session.sessions c.loop-session.session-index c.session-item.result _ c.serve.new.self below refl c.serve.ensures.was left in
    record {
      keyed = λ k. keyed-set c.loop-session.sessions c.loop-session.session-index c.serve.new.self c.keyed.ensures (c.loop-session.invariant.keyed k);
      delivery = c.serve.ensures.delivery ∙ same;
      was = step.was ∙ c.loop-session.invariant.was;
      left = step.left ∙ c.loop-session.invariant.left;
      drafted = rw drafted (step.drafted (draft_view c.loop-session.draft) ∙ c.loop-session.invariant.drafted);
    }

pub returns-clause-left : goal.returns-clause-left
returns-clause-left c =
    let f = serve (app_message_view c.args.app_message.now) in
    sym (left-end f c.loop-session.sessions c.loop-session.session-index (omega arith)) ∙ c.loop-session.invariant.left ∙ left-whole f c.args.sessions.now

pub returns-clause-drafted : goal.returns-clause-drafted
returns-clause-drafted c =
    let f = serve (app_message_view c.args.app_message.now) in
    sym (drafted-end f c.loop-session.sessions c.loop-session.session-index (draft_view c.loop-session.draft) (omega arith))
    ∙ c.loop-session.invariant.drafted ∙ drafted-whole f c.args.sessions.now (draft_view c.args.draft.now)
