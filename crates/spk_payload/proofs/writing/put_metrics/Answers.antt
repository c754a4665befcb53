use Rattle.std.proofs.Common.{◌≡◌, ◌≤◌, ◌++◌, ℕ, List, length, All, take, sym, ap, subst, ◌∙◌}
use Rattle.std.proofs.lemmas.List.{append-nil, take_all}
use Rattle.std.proofs.lemmas.List.Elements.{All-nil}
use Rattle.std.proofs.lemmas.Result.{err_from_is_err_and}
use Rattle.std.specs.List.{flat_map}
use Rattle.spk_payload.specs.declared.metric.Metric.{Metric}
use Rattle.spk_payload.specs.Spelling.{MetricFits}
use Rattle.spk_payload.proofs.Appended.{spelled, views, spelled_more, fits_more, fault_at}
use Rattle.spk_payload.proofs.writing.put_metrics.Goals as goal

pub loop-metric-init : goal.loop-metric-init
loop-metric-init c = record { appended = sym (append-nil c.args.out.now.items); fit = All-nil MetricFits }

pub returns-in_err-put_metric-clause-fault : goal.returns-in_err-put_metric-clause-fault
returns-in_err-put_metric-clause-fault c =
    let p = err_from_is_err_and c.from_residual.result c.from_residual.ensures.1 in
    rw (p.1, p.2) (fault_at c.args.metrics.now c.loop-metric.metric-index c.metric-item.result c.in_err-put_metric.field-0.0 c.loop-metric-test.true c.metric-item.is c.in_err-put_metric.ensures.fault)

pub loop-metric-preserved : goal.loop-metric-preserved
loop-metric-preserved c = record {
  appended = spelled_more c.args.out.now.items c.loop-metric.out.items c.put_metric.new.out.items c.args.metrics.now c.loop-metric.metric-index c.metric-item.result c.loop-metric-test.true c.metric-item.is c.loop-metric.invariant.appended c.in_ok-put_metric.ensures.ok;
  fit = fits_more c.args.metrics.now c.loop-metric.metric-index c.metric-item.result c.loop-metric-test.true c.metric-item.is c.loop-metric.invariant.fit c.in_ok-put_metric.ensures.fits;
}

whole : (ms : List Metric) (i : ℕ) → length ms ≤ i → take i ms ≡ ms
whole ms i le = take_all i ms le

pub returns-clause-ok : goal.returns-clause-ok
returns-clause-ok c =
    c.loop-metric.invariant.appended ∙ ap (λ (ms : List Metric). c.args.out.now.items ++ flat_map spelled (views ms)) (whole c.args.metrics.now c.loop-metric.metric-index c.loop-metric-test.false)

pub returns-clause-fits : goal.returns-clause-fits
returns-clause-fits c = subst (λ (ms : List Metric). All MetricFits (views ms)) (whole c.args.metrics.now c.loop-metric.metric-index c.loop-metric-test.false) c.loop-metric.invariant.fit
