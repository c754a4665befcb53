use Rattle.std.proofs.Common.{◌≡◌, ◌∙◌, sym, ap, map, take, length, true, false, arith}
use Rattle.std.proofs.Math.Seq.{take-length}
use Rattle.spk_payload.specs.View.{metric_view}
use Rattle.spk_reading.specs.Meaning.{is_session, session_in, session_of}
use Rattle.spk_reading.proofs.Sessions.{session_step, if_then, if_else}
use Rattle.spk_reading.proofs.numbers.session_number.Goals as goal
use Rattle.spk_reading.proofs.numbers.session_number.Goals.{then-is_session, else-is_session}

pub loop-metric-preserved : goal.loop-metric-preserved
loop-metric-preserved c =
    let step = session_step c.args.metrics.now c.loop-metric.metric-index c.metric-item.result c.loop-metric-test.true c.metric-item.is in
    let m = metric_view c.metric-item.result in
    let before = session_of (map metric_view (take c.loop-metric.metric-index c.args.metrics.now)) in
    elim c.if-is_session.branch [
      | then-is_session w ↦
          let yes : is_session m ≡ true = sym c.is_session.ensures ∙ w.if-is_session.true in
          w.found-is ∙ w.session_in-found.ensures ∙ sym (if_then (is_session m) (session_in m) before yes) ∙ sym step
      | else-is_session w ↦
          let no : is_session m ≡ false = sym c.is_session.ensures ∙ w.if-is_session.false in
          w.found-is ∙ c.loop-metric.invariant ∙ sym (if_else (is_session m) (session_in m) before no) ∙ sym step
    ]

pub returns : goal.returns
returns c =
    let ms = c.args.metrics.now in
    let e : c.loop-metric.metric-index ≡ length ms = omega arith in
    c.loop-metric.invariant ∙ ap (λ i. session_of (map metric_view (take i ms))) e ∙ ap (λ l. session_of (map metric_view l)) (take-length ms)
