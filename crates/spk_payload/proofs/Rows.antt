-- What bytes mean, worked out by hand.
use Rattle.std.proofs.Common.{◌≡◌, [], ◌∷◌, Some, None, Result, Ok, Err, refl}
use Rattle.spk_protobuf.specs.declared.fault.WireFault.TheVariants.{Truncated}
use Rattle.spk_protobuf.specs.Reading.{items_of, items_within, field_at, value_at, varint_at, groups_at, some_at}
use Rattle.spk_payload.specs.declared.fault.PayloadFault.{PayloadFault}
use Rattle.spk_payload.specs.declared.fault.PayloadFault.TheVariants.{Wire}
use Rattle.spk_payload.specs.declared.values.Values.TheVariants as choice
use Rattle.spk_payload.specs.Meaning.{Content, PayloadData, Int, Float, Double, Other}
use Rattle.spk_payload.specs.Reading.{payload_at, metric_at, each_item, text_at}

abbrev means : PayloadData → Result PayloadData PayloadFault
means p = Ok p

-- timestamp 5, and one metric with the alias 7 and the int_value 1
pub one_metric : payload_at choice.All (8 ∷ 5 ∷ 18 ∷ 4 ∷ 16 ∷ 7 ∷ 80 ∷ 1 ∷ []) ≡ means (record {
  timestamp = Some 5;
  metrics = (record { name = None; alias = Some 7; timestamp = None; datatype = None; historical = None; transient = None; null = None; value = Some (Int 1) }) ∷ [];
  seq = None;
})
unfolding payload_at metric_at each_item text_at items_of items_within field_at value_at varint_at groups_at some_at
one_metric = refl

-- a metric that says 255 bytes and has none
pub cut_short : payload_at choice.All (18 ∷ 255 ∷ 1 ∷ []) ≡ Err (Wire Truncated)
unfolding payload_at metric_at each_item text_at items_of items_within field_at value_at varint_at groups_at some_at
cut_short = refl

abbrev holds : Content → Result PayloadData PayloadFault
holds c = Ok (record {
  timestamp = None;
  metrics = (record { name = None; alias = None; timestamp = None; datatype = None; historical = None; transient = None; null = None; value = Some c }) ∷ [];
  seq = None;
})

-- the float 1 is 3f800000 (IEEE 754 binary32), in field 12; the double -2 is c000000000000000 (binary64), in field 13
pub one_float : payload_at choice.All (18 ∷ 5 ∷ 101 ∷ 0 ∷ 0 ∷ 128 ∷ 63 ∷ []) ≡ holds (Float 1065353216)
unfolding payload_at metric_at each_item text_at items_of items_within field_at value_at varint_at groups_at some_at
one_float = refl

pub one_double : payload_at choice.All (18 ∷ 9 ∷ 105 ∷ 0 ∷ 0 ∷ 0 ∷ 0 ∷ 0 ∷ 0 ∷ 0 ∷ 192 ∷ []) ≡ holds (Double 13835058055282163712)
unfolding payload_at metric_at each_item text_at items_of items_within field_at value_at varint_at groups_at some_at
one_double = refl

-- by whole values alone, it is there
pub float_unread : payload_at choice.Whole (18 ∷ 5 ∷ 101 ∷ 0 ∷ 0 ∷ 128 ∷ 63 ∷ []) ≡ holds Other
unfolding payload_at metric_at each_item text_at items_of items_within field_at value_at varint_at groups_at some_at
float_unread = refl
