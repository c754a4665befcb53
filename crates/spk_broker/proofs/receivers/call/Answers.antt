use Rattle.std.proofs.Common.{◌∙◌, ap, get_or, refl}
use Rattle.spk_broker_rules.specs.Step.{serve}
use Rattle.spk_broker.specs.Drafts.{draft_view, left_by, served_by}
use Rattle.spk_broker.specs.Parts.{app_message_view}
use Rattle.spk_broker.proofs.Rounds.{was-step}
use Rattle.spk_broker.proofs.Touched.{apart-step, visited}
use Rattle.spk_broker.proofs.Visits.{calling-end, calling-step, keyed-at}
use Rattle.spk_broker.proofs.receivers.call.Goals as goal

pub returns-in_err-serve-clause-was : goal.returns-in_err-serve-clause-was
returns-in_err-serve-clause-was c =
    was-step c.loop-place.sessions (get_or c.args.places.now c.loop-place.place-index 0) c.index-sessions-place.result _ c.serve.new.self refl c.serve.ensures.was ∙ c.loop-place.invariant.calling.was

pub loop-place-preserved : goal.loop-place-preserved
loop-place-preserved c =
    let m = app_message_view c.args.app_message.now in
    let same = c.loop-place.invariant.delivery in
    let x = get_or c.loop-place.sessions (get_or c.args.places.now c.loop-place.place-index 0) c.index-sessions-place.result in
    record {
      keyed = λ k. keyed-at c.loop-place.sessions (get_or c.args.places.now c.loop-place.place-index 0) c.serve.new.self _ c.keyed.ensures (c.loop-place.invariant.keyed k);
      delivery = c.serve.ensures.delivery ∙ same;
      calling = calling-step m c.args.places.now c.loop-place.place-index c.args.sessions.now c.loop-place.sessions (draft_view c.args.draft.now) (draft_view c.loop-place.draft) (draft_view c.serve.new.draft)
          c.index-sessions-place.result x c.serve.new.self c.loop-place.invariant.calling c.requires.places c.loop-place-test.true refl c.serve.ensures.was
          (c.in_ok-serve.ensures.left ∙ ap (λ k. left_by (serve k) x.now) same)
          (c.in_ok-serve.ensures.drafted ∙ ap (λ k. served_by (serve k) x.now (draft_view c.loop-place.draft)) same);
      apart = apart-step c.args.places.now c.loop-place.place-index c.args.sessions.now c.loop-place.sessions c.serve.new.self c.loop-place-test.true c.loop-place.invariant.apart;
    }

pub returns-clause-left : goal.returns-clause-left
returns-clause-left c =
    (calling-end (app_message_view c.args.app_message.now) c.args.places.now c.loop-place.place-index c.args.sessions.now c.loop-place.sessions (draft_view c.args.draft.now) (draft_view c.loop-place.draft)
    c.loop-place.invariant.calling c.loop-place-test.false).0

pub returns-clause-drafted : goal.returns-clause-drafted
returns-clause-drafted c =
    (calling-end (app_message_view c.args.app_message.now) c.args.places.now c.loop-place.place-index c.args.sessions.now c.loop-place.sessions (draft_view c.args.draft.now) (draft_view c.loop-place.draft)
    c.loop-place.invariant.calling c.loop-place-test.false).1

pub returns-clause-visited : goal.returns-clause-visited
returns-clause-visited c = visited c.args.places.now c.args.sessions.now c.loop-place.sessions c.loop-place.invariant.calling.was c.requires.places c.loop-place.invariant.apart
