use Rattle.std.proofs.Common.{◌≡◌, ◌<◌, ◌∙◌, sym, ap, length, map, arith, Some, get_or}
use Rattle.std.proofs.lemmas.List.{length-map}
use Rattle.spk_payload.specs.View.{metric_view}
use Rattle.spk_payload.specs.declared.metric.Metric.{Metric}
use Rattle.spk_refusals.specs.Wrong.{stamped}
use Rattle.spk_refusals.proofs.Walks.{change-step, changed-all}
use Rattle.spk_refusals.proofs.turning.stamp_metrics.Goals as goal

pub loop-metric-preserved : goal.loop-metric-preserved
loop-metric-preserved c =
    let i = c.loop-metric.metric-index in
    let x = c.metric-item.result in
    let here = get_or c.loop-metric.metrics i x in
    let new : Metric = record here { timestamp = Some c.args.stamp } in
    let changed : metric_view new ≡ stamped c.args.stamp (metric_view x) =
    ap (λ (m : Metric). stamped c.args.stamp (metric_view m)) (sym c.metric-item.is) in
    let below : i < length c.loop-metric.metrics = omega arith in
    change-step metric_view (stamped c.args.stamp) i c.loop-metric.metrics (map metric_view c.args.metrics.now) x new c.loop-metric.invariant below c.metric-item.is changed

pub returns : goal.returns
returns c =
    let size = length-map c.args.metrics.now metric_view in
    c.loop-metric.invariant ∙ changed-all metric_view (stamped c.args.stamp) (map metric_view c.args.metrics.now) c.loop-metric.metric-index (omega arith)
