use Rattle.std.proofs.Common.{◌≡◌}
use Rattle.std.specs.Prelude.{IsTrue}
use Rattle.spk_protobuf.specs.Reading.{items_of}
use Rattle.spk_protobuf.specs.View.{items_left}
use Rattle.spk_payload.specs.Reading.{each_item, payload_entry, payload_at, has_metric}
use Rattle.spk_payload.specs.View.{payload_view}
use Rattle.spk_payload.proofs.payload.payload_at.Given as goal

-- what is there so far, with the items that are left, gives what the text gives
abbrev pub invariant-loop-field : goal.invariant-loop-field
invariant-loop-field l = record {
  can : (goal.iterator-loop-field).can_next l.field-iterator;
  finite : (goal.iterator-loop-field).is_finite l.field-iterator;
  gives : each_item (payload_entry l.values) (payload_view l.payload) (items_left l.field-iterator) ≡ payload_at l.values l.bytes;
  memory : IsTrue (has_metric (items_left l.field-iterator)) → IsTrue (has_metric (items_of l.bytes));
}
