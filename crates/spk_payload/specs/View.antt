-- What contracts see of the crate's types.
use Rattle.std.specs.Prelude.{◌≡◌, map, Option, Some, None, Result, Ok, Err}
use Rattle.std.specs.Option.{option_map}
use Rattle.std.specs.String.{string_bytes}
use Rattle.spk_payload.specs.declared.fault.PayloadFault.{PayloadFault}
use Rattle.spk_payload.specs.declared.fault.PayloadFault.TheVariants.{NoMemory, Wire, NotText, HasOther, Mistyped}
use Rattle.spk_payload.specs.declared.metric.Raw.{Raw}
use Rattle.spk_payload.specs.declared.metric.Raw.TheVariants as raw
use Rattle.spk_payload.specs.declared.metric.Metric.{Metric}
use Rattle.spk_payload.specs.declared.payload.Payload.{Payload}
use Rattle.spk_payload.specs.Meaning.{Content, Int, Long, Flag, Words, Octets, Float, Double, Other, MetricData, PayloadData}

abbrev pub content_of : Raw → Content
content_of (raw.Int n) = Int n
content_of (raw.Long n) = Long n
content_of (raw.Flag b) = Flag b
content_of (raw.Words s) = Words (string_bytes s)
content_of (raw.Octets v) = Octets v.items
content_of (raw.Float n) = Float n
content_of (raw.Double n) = Double n
content_of raw.Other = Other

abbrev pub metric_view : Metric → MetricData
metric_view m = record {
  name = option_map string_bytes m.name;
  alias = m.alias;
  timestamp = m.timestamp;
  datatype = m.datatype;
  historical = m.historical;
  transient = m.transient;
  null = m.null;
  value = option_map content_of m.value;
}

abbrev pub payload_view : Payload → PayloadData
payload_view p = record { timestamp = p.timestamp; metrics = map metric_view p.metrics.items; seq = p.seq }

-- A fault is the one that is due, unless memory was refused.
abbrev pub Fails : {Y : Type 0} → PayloadFault → Result Y PayloadFault → Type 0
Fails NoMemory due = Unit {0}
Fails (Wire w) due = due ≡ Err (Wire w)
Fails NotText due = due ≡ Err NotText
Fails HasOther due = due ≡ Err HasOther
Fails Mistyped due = due ≡ Err Mistyped

-- What was answered, seen by view, is the answer that is due, unless memory was refused.
abbrev pub Gives : {X Y : Type 0} → (X → Y) → Result X PayloadFault → Result Y PayloadFault → Type 0
Gives view (Ok x) due = due ≡ Ok (view x)
Gives view (Err f) due = Fails f due

-- The same of a step that changes a value: nothing is said of the value after a fault.
abbrev pub Turns : {X Y : Type 0} → (X → Y) → Result (Unit {0}) PayloadFault → X → Result Y PayloadFault → Type 0
Turns view (Ok x) new due = due ≡ Ok (view new)
Turns view (Err f) new due = Fails f due

-- What was written is what is due, or nothing is due, unless memory was refused.
abbrev pub Writes : Result Raw PayloadFault → Option Content → Type 0
Writes (Ok r) due = due ≡ Some (content_of r)
Writes (Err NoMemory) due = (c : Content) × (due ≡ Some c)
Writes (Err Mistyped) due = due ≡ None
Writes _ due = ⊥
