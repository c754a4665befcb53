-- What a record keeps of a payload: its canonical spelling (`spk_payload`), in which a value that isn't read, of a data set, a template or an extension,
-- isn't there. So by what is read of a record the metric has no value.
use Rattle.std.specs.Prelude.{map, Option, Some, None}
use Rattle.spk_payload.specs.Meaning.{Content, Int, Long, Flag, Words, Octets, Float, Double, Other, MetricData, PayloadData}

abbrev pub kept_value : Option Content → Option Content
kept_value None = None
kept_value (Some Other) = None
kept_value (Some (Int n)) = Some (Int n)
kept_value (Some (Long n)) = Some (Long n)
kept_value (Some (Flag b)) = Some (Flag b)
kept_value (Some (Words bytes)) = Some (Words bytes)
kept_value (Some (Octets bytes)) = Some (Octets bytes)
kept_value (Some (Float n)) = Some (Float n)
kept_value (Some (Double n)) = Some (Double n)

abbrev pub kept_metric : MetricData → MetricData
kept_metric m = record m { value = kept_value m.value }

abbrev pub kept_payload : PayloadData → PayloadData
kept_payload p = record p { metrics = map kept_metric p.metrics }
