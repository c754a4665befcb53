use Rattle.std.proofs.Common.{◌≡◌}
use Rattle.spk_protobuf.specs.View.{items_left}
use Rattle.spk_payload.specs.Reading.{each_item, metric_entry, metric_at}
use Rattle.spk_payload.specs.View.{metric_view}
use Rattle.spk_payload.proofs.metric.metric_at.Given as goal

-- what is there so far, with the items that are left, gives what the text gives
abbrev pub invariant-loop-field : goal.invariant-loop-field
invariant-loop-field l = record {
  can : (goal.iterator-loop-field).can_next l.field-iterator;
  finite : (goal.iterator-loop-field).is_finite l.field-iterator;
  gives : each_item (metric_entry l.values) (metric_view l.metric) (items_left l.field-iterator) ≡ metric_at l.values l.bytes;
}
