use Rattle.std.proofs.Common.{◌≡◌, ℕ, List, None, map, sym, ap, subst, ◌∙◌}
use Rattle.std.specs.Prelude.{IsTrue}
use Rattle.std.proofs.lemmas.Result.{err_from_is_err_and}
use Rattle.spk_protobuf.specs.declared.field.Fields.{Fields}
use Rattle.spk_protobuf.specs.Reading.{items_of}
use Rattle.spk_protobuf.specs.View.{items_left}
use Rattle.spk_protobuf.proofs.Items.{items_are}
use Rattle.spk_payload.specs.declared.metric.Metric.{Metric}
use Rattle.spk_payload.specs.declared.values.Values.{Values}
use Rattle.spk_payload.specs.Meaning.{PayloadData}
use Rattle.spk_payload.specs.Reading.{each_item, no_payload, payload_entry, payload_at, has_metric}
use Rattle.spk_payload.specs.View.{metric_view, payload_view}
use Rattle.spk_payload.proofs.Asking.{metric_here, metric_later}
use Rattle.spk_payload.proofs.Turns.{Items, turns_ok, turns_err, turns_fail, turns_end}
use Rattle.spk_payload.proofs.payload.payload_at.Goals as goal

begins : (values : Values) (bytes : List ℕ) (items : Items) → items_of bytes ≡ items → each_item (payload_entry values) no_payload items ≡ payload_at values bytes
unfolding payload_at
begins values bytes items e = ap (each_item (payload_entry values) no_payload) (sym e)

abbrev empty_but : List Metric → PayloadData
empty_but ms = record { timestamp = None; metrics = map metric_view ms; seq = None }

pub loop-field-init : goal.loop-field-init
loop-field-init c =
    let all : items_of c.args.bytes.now ≡ items_left c.into_iter-field-iterator.result = c.new-field-items.ensures.only (items_of c.args.bytes.now) (items_are c.args.bytes.now) ∙ ap (λ (s : Fields). items_left s) (sym c.into_iter-field-iterator.ensures.into_iter_gives) in
    record {
      can = tt;
      finite = tt;
      gives = ap (λ (ms : List Metric). each_item (payload_entry c.args.values) (empty_but ms) (items_left c.into_iter-field-iterator.result)) c.new.ensures.items ∙ begins c.args.values c.args.bytes.now (items_left c.into_iter-field-iterator.result) all;
      memory = λ h. subst (λ (items : Items). IsTrue (has_metric items)) (sym all) h;
    }

pub returns-in_err-field-clause-gives : goal.returns-in_err-field-clause-gives
returns-in_err-field-clause-gives c =
    let p = err_from_is_err_and c.from_residual.result c.from_residual.ensures.1 in
    rw (p.1, p.2) (turns_err (payload_entry c.args.values) (payload_view c.loop-field.payload) (items_left c.loop-field.field-iterator) (items_left c.next.new.self) c.in-Some.field c.in_err-field.field-0.0 (payload_at c.args.values c.args.bytes.now) c.in-Some.ensures.steps c.in_err-field.was c.loop-field.invariant.gives)

pub loop-field-preserved : goal.loop-field-preserved
loop-field-preserved c = record {
  can = tt;
  finite = tt;
  gives = turns_ok (payload_entry c.args.values) (payload_view c.loop-field.payload) (payload_view c.put.new.self) (items_left c.loop-field.field-iterator) (items_left c.next.new.self) c.in-Some.field c.in_ok-field.field-0 (payload_at c.args.values c.args.bytes.now) c.in-Some.ensures.steps c.in_ok-field.was c.in_ok-put.ensures.turns c.loop-field.invariant.gives;
  memory = λ h. c.loop-field.invariant.memory (metric_later (items_left c.loop-field.field-iterator) (items_left c.next.new.self) c.in-Some.field c.in_ok-field.field-0 c.in-Some.ensures.steps c.in_ok-field.was h);
}

pub returns-in_err-put-clause-gives : goal.returns-in_err-put-clause-gives
returns-in_err-put-clause-gives c =
    let p = err_from_is_err_and c.from_residual-in_err-put.result c.from_residual-in_err-put.ensures.1 in
    rw (p.1, p.2) (turns_fail (payload_entry c.args.values) c.in_err-put.field-0.0 (payload_view c.loop-field.payload) (items_left c.loop-field.field-iterator) (items_left c.next.new.self) c.in-Some.field c.in_ok-field.field-0 (payload_at c.args.values c.args.bytes.now) c.in-Some.ensures.steps c.in_ok-field.was c.in_err-put.ensures.turns c.loop-field.invariant.gives)

pub returns-in_err-put-clause-memory : goal.returns-in_err-put-clause-memory
returns-in_err-put-clause-memory c =
    let p = err_from_is_err_and c.from_residual-in_err-put.result c.from_residual-in_err-put.ensures.1 in
    rw (p.1, p.2) (λ n. c.loop-field.invariant.memory (metric_here (items_left c.loop-field.field-iterator) (items_left c.next.new.self) c.in-Some.field c.in_ok-field.field-0 c.in-Some.ensures.steps c.in_ok-field.was (c.in_err-put.ensures.memory n)))

pub returns-clause-gives : goal.returns-clause-gives
returns-clause-gives c = turns_end (payload_entry c.args.values) (payload_view c.loop-field.payload) (items_left c.loop-field.field-iterator) (payload_at c.args.values c.args.bytes.now) c.in-None.ensures.steps.0 c.loop-field.invariant.gives
