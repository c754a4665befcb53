use Rattle.std.proofs.Common.{◌≡◌, length, min, ap, ap₂, subst, sym, ◌∙◌}
use Rattle.spk_frames.specs.File.{Walk}
use Rattle.spk_broker_journal.specs.Assembled.{stand}
use Rattle.spk_broker_journal.specs.Fitting.{is_ended_fit}
use Rattle.spk_broker_journal.specs.Replayed.{AreRead, IsReplayed}
use Rattle.spk_broker_journal.proofs.Replaying.{all-read, one-content, one-item, small-most, unfit-content, unfit-end, unread-content, unread-end}
use Rattle.spk_broker_journal.proofs.restoring.replay.Goals as goal

pub returns-in-Ok-clause-said : goal.returns-in-Ok-clause-said
returns-in-Ok-clause-said c =
    let over = c.in_default.ensures.over in
    let least : c.least-whole.result ≡ min c.loop.contents.whole (length c.loop.contents.bytes) =
    c.least-whole.ensures ∙ ap₂ min (c.whole-given.ensures ∙ ap (λ (w : Walk). w.whole) over.0) (sym (ap length c.loop.invariant.0)) in
    subst (λ x. IsReplayed c.args.limit x c.least-whole.result c.in-Ok.broker) c.loop.invariant.0
    (all-read c.args.limit c.loop.contents (stand c.loop.assembly) c.in-Ok.broker c.least-whole.result least c.loop.invariant.1 c.loop.invariant.2 over.1 c.in-Ok.ensures.fit
    c.in-Ok.ensures.done)

pub returns-in-Err-clause-refused : goal.returns-in-Err-clause-refused
returns-in-Err-clause-refused c =
    let over = c.in_default.ensures.over in
    let one = one-item c.one_event.ensures c.one_line.ensures.alone c.one_line.ensures.apart in
    unread-end c.args.limit c.args.bytes.now (is_ended_fit (stand c.loop.assembly)) c.in-Err.fault c.in-Err.ensures.refused
    (λ none items whole r. unfit-end one c.args.limit c.loop.contents (stand c.loop.assembly) c.one_reading.ensures small-most c.loop.invariant.1 c.loop.invariant.2 over.1 none
    items whole (subst (λ x. AreRead x items whole) (sym c.loop.invariant.0) r))

pub returns-in-Err-with_content-clause-refused : goal.returns-in-Err-with_content-clause-refused
returns-in-Err-with_content-clause-refused c =
    let one = one-item c.one_event.ensures c.one_line.ensures.alone c.one_line.ensures.apart in
    unread-content c.args.limit c.args.bytes.now (stand c.loop.assembly) c.in-Some.content.now c.in-Err-with_content.fault c.in-Err-with_content.ensures.refused
    (λ none items whole r. unfit-content one c.args.limit c.loop.contents c.next.new.self (stand c.loop.assembly) c.in-Some.content.now c.synced.ensures small-most c.in-Some.ensures.bytes
    (c.in-Some.ensures.most ∙ c.loop.invariant.1) c.loop.invariant.2 c.in-Some.ensures.taken none items whole (subst (λ x. AreRead x items whole) (sym c.loop.invariant.0) r))

pub loop-preserved : goal.loop-preserved
loop-preserved c = (
  c.in-Some.ensures.bytes ∙ c.loop.invariant.0,
  c.in-Some.ensures.most ∙ c.loop.invariant.1,
  one-content c.args.limit c.loop.contents c.next.new.self (stand c.loop.assembly) (stand c.in-Ok-with_content.assembly) c.in-Some.content.now c.loop.invariant.2 c.in-Some.ensures.taken
      c.in-Ok-with_content.ensures.done,
)
