use Rattle.std.proofs.Common.{◌≡◌, ℕ, List, sym, ap, ◌∙◌}
use Rattle.std.proofs.lemmas.Result.{err_from_is_err_and}
use Rattle.spk_protobuf.specs.declared.field.Fields.{Fields}
use Rattle.spk_protobuf.specs.Reading.{items_of}
use Rattle.spk_protobuf.specs.View.{items_left}
use Rattle.spk_protobuf.proofs.Items.{items_are}
use Rattle.spk_payload.specs.declared.values.Values.{Values}
use Rattle.spk_payload.specs.Meaning.{MetricData}
use Rattle.spk_payload.specs.Reading.{each_item, no_metric, metric_entry, metric_at}
use Rattle.spk_payload.specs.View.{metric_view}
use Rattle.spk_payload.proofs.Turns.{Items, turns_ok, turns_err, turns_fail, turns_end}
use Rattle.spk_payload.proofs.metric.metric_at.Goals as goal

begins : (values : Values) (bytes : List ℕ) (items : Items) → items_of bytes ≡ items → each_item (metric_entry values) no_metric items ≡ metric_at values bytes
unfolding metric_at
begins values bytes items e = ap (each_item (metric_entry values) no_metric) (sym e)

pub loop-field-init : goal.loop-field-init
loop-field-init c =
    let all : items_of c.args.bytes.now ≡ items_left c.into_iter-field-iterator.result = c.new-field-items.ensures.only (items_of c.args.bytes.now) (items_are c.args.bytes.now) ∙ ap (λ (s : Fields). items_left s) (sym c.into_iter-field-iterator.ensures.into_iter_gives) in
    record { can = tt; finite = tt; gives = ap (λ (m : MetricData). each_item (metric_entry c.args.values) m (items_left c.into_iter-field-iterator.result)) c.empty-metric.ensures ∙ begins c.args.values c.args.bytes.now (items_left c.into_iter-field-iterator.result) all }

pub returns-in_err-field : goal.returns-in_err-field
returns-in_err-field c =
    let p = err_from_is_err_and c.from_residual.result c.from_residual.ensures.1 in
    rw (p.1, p.2) (turns_err (metric_entry c.args.values) (metric_view c.loop-field.metric) (items_left c.loop-field.field-iterator) (items_left c.next.new.self) c.in-Some.field c.in_err-field.field-0.0 (metric_at c.args.values c.args.bytes.now) c.in-Some.ensures.steps c.in_err-field.was c.loop-field.invariant.gives)

pub loop-field-preserved : goal.loop-field-preserved
loop-field-preserved c = record {
  can = tt;
  finite = tt;
  gives = turns_ok (metric_entry c.args.values) (metric_view c.loop-field.metric) (metric_view c.set.new.self) (items_left c.loop-field.field-iterator) (items_left c.next.new.self) c.in-Some.field c.in_ok-field.field-0 (metric_at c.args.values c.args.bytes.now) c.in-Some.ensures.steps c.in_ok-field.was c.in_ok-set.ensures c.loop-field.invariant.gives;
}

pub returns-in_err-set : goal.returns-in_err-set
returns-in_err-set c =
    let p = err_from_is_err_and c.from_residual-in_err-set.result c.from_residual-in_err-set.ensures.1 in
    rw (p.1, p.2) (turns_fail (metric_entry c.args.values) c.in_err-set.field-0.0 (metric_view c.loop-field.metric) (items_left c.loop-field.field-iterator) (items_left c.next.new.self) c.in-Some.field c.in_ok-field.field-0 (metric_at c.args.values c.args.bytes.now) c.in-Some.ensures.steps c.in_ok-field.was c.in_err-set.ensures c.loop-field.invariant.gives)

pub returns : goal.returns
returns c = turns_end (metric_entry c.args.values) (metric_view c.loop-field.metric) (items_left c.loop-field.field-iterator) (metric_at c.args.values c.args.bytes.now) c.in-None.ensures.steps.0 c.loop-field.invariant.gives
