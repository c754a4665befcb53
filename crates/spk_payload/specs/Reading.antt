-- What bytes mean, or their first fault, as a function: item by item, from the front. `laws::reading` says that it gives
-- exactly what Meaning and Faults ask: `payload_at values bytes` is Ok of the meaning, or Err of the first fault.
use Rattle.std.specs.Prelude.{ℕ, ◌%◌, ◌^◌, Bool, false, ◌||◌, is_some, not, List, [], ◌∷◌, ◌++◌, Some, None, Result, Ok, Err, ◌==◌, if◌then◌else◌}
use Rattle.std.specs.Str.{is_utf8}
use Rattle.spk_protobuf.specs.declared.fault.WireFault.{WireFault}
use Rattle.spk_protobuf.specs.Grammar.{Shape, Varint, Eight, Bytes, Four, Entry}
use Rattle.spk_protobuf.specs.Reading.{items_of}
use Rattle.spk_payload.specs.declared.fault.PayloadFault.{PayloadFault}
use Rattle.spk_payload.specs.declared.fault.PayloadFault.TheVariants.{Wire, NotText}
use Rattle.spk_payload.specs.declared.values.Values.{Values}
use Rattle.spk_payload.specs.Meaning.{Int, Long, Flag, Words, Octets, Other, MetricData, PayloadData, bytes_in, float_of, double_of, whole_payload}

infixl 10 ◌>>=◌
abbrev pub ◌>>=◌ : {A B : Type 0} → Result A PayloadFault → (A → Result B PayloadFault) → Result B PayloadFault
(Ok x) >>= f = f x
(Err e) >>= f = Err e

-- A step for each field, in order, up to the first fault.
unfoldable pub each_item : {S : Type 0} → (S → Entry → Result S PayloadFault) → S → List (Result Entry WireFault) → Result S PayloadFault
each_item step s [] = Ok s
each_item step s (Err w ∷ items) = Err (Wire w)
each_item step s (Ok e ∷ items) = step s e >>= λ t. each_item step t items

unfoldable pub text_at : List ℕ → Result (List ℕ) PayloadFault
text_at bytes = if is_utf8 bytes then Ok bytes else Err NotText

-- ---- metrics

abbrev pub no_metric : MetricData
no_metric = record { name = None; alias = None; timestamp = None; datatype = None; historical = None; transient = None; null = None; value = None }

abbrev pub metric_number : MetricData → ℕ → ℕ → MetricData
metric_number m number n =
    if number == 2 then record m { alias = Some n } else (
    if number == 3 then record m { timestamp = Some n } else (
    if number == 4 then record m { datatype = Some (n % 2 ^ 32) } else (
    if number == 5 then record m { historical = Some (not (n == 0)) } else (
    if number == 6 then record m { transient = Some (not (n == 0)) } else (
    if number == 7 then record m { null = Some (not (n == 0)) } else (
    if number == 10 then record m { value = Some (Int (n % 2 ^ 32)) } else (
    if number == 11 then record m { value = Some (Long n) } else (
    if number == 14 then record m { value = Some (Flag (not (n == 0))) } else m))))))))

abbrev pub metric_bytes : MetricData → ℕ → List ℕ → Result MetricData PayloadFault
metric_bytes m number bytes =
    if number == 1 then (text_at bytes >>= λ text. Ok (record m { name = Some text })) else (
    if number == 15 then (text_at bytes >>= λ text. Ok (record m { value = Some (Words text) })) else (
    if number == 16 then Ok (record m { value = Some (Octets bytes) }) else (
    if number == 17 then Ok (record m { value = Some Other }) else (
    if number == 18 then Ok (record m { value = Some Other }) else (
    if number == 19 then Ok (record m { value = Some Other }) else Ok m)))))

abbrev pub metric_entry : Values → MetricData → Entry → Result MetricData PayloadFault
metric_entry values m e = by_shape e.shape
  where
    by_shape : Shape → Result MetricData PayloadFault
    by_shape (Varint n) = Ok (metric_number m e.number n)
    by_shape (Eight bytes) = Ok (if e.number == 13 then record m { value = Some (double_of values bytes) } else m)
    by_shape (Bytes bytes) = metric_bytes m e.number bytes
    by_shape (Four bytes) = Ok (if e.number == 12 then record m { value = Some (float_of values bytes) } else m)

unfoldable pub metric_at : Values → List ℕ → Result MetricData PayloadFault
metric_at values bytes = each_item (metric_entry values) no_metric (items_of bytes)

-- ---- payloads

abbrev pub no_payload : PayloadData
no_payload = record { timestamp = None; metrics = []; seq = None }

abbrev pub payload_entry : Values → PayloadData → Entry → Result PayloadData PayloadFault
payload_entry values p e = by_shape e.shape
  where
    by_shape : Shape → Result PayloadData PayloadFault
    by_shape (Varint n) = Ok (if e.number == 1 then record p { timestamp = Some n } else (if e.number == 3 then record p { seq = Some n } else p))
    by_shape (Eight bytes) = Ok p
    by_shape (Bytes bytes) = if e.number == 2 then (metric_at values bytes >>= λ m. Ok (record p { metrics = p.metrics ++ m ∷ [] })) else Ok p
    by_shape (Four bytes) = Ok p

-- the payload that the bytes mean, or the first fault
unfoldable pub payload_at : Values → List ℕ → Result PayloadData PayloadFault
payload_at values bytes = each_item (payload_entry values) no_payload (items_of bytes)

-- whether a metric stands before the first fault: to read a payload without one takes no memory
unfoldable pub has_metric : List (Result Entry WireFault) → Bool
has_metric [] = false
has_metric (Err w ∷ items) = false
has_metric (Ok e ∷ items) = is_some (bytes_in 2 e) || has_metric items

-- what is read where whole values alone are
abbrev pub whole_result : Result PayloadData PayloadFault → Result PayloadData PayloadFault
whole_result (Ok p) = Ok (whole_payload p)
whole_result (Err f) = Err f
