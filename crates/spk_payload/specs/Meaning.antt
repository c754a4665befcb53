-- What the bytes of a payload mean (Sparkplug 3.0.0, chapter 6, "Google Protocol Buffer Schema"), by queries on
-- field lists. Of a repeated single field the last entry counts (protobuf encoding, "Last One Wins"), and an
-- entry whose number or wire type isn't the schema's is passed over.
use Rattle.std.specs.Prelude.{◌≡◌, ℕ, ◌%◌, ◌^◌, Bool, true, false, ◌||◌, is_some, not, List, [], ◌∷◌, map, All, Option, Some, None, IfSome, ◌==◌, if◌then◌else◌}
use Rattle.std.specs.Option.{option_map, option_or}
use Rattle.std.specs.Int.{w32, w64, from_le_bytes}
use Rattle.std.specs.List.{filter_map}
use Rattle.std.specs.Str.{IsUtf8}
use Rattle.spk_protobuf.specs.Grammar.{Shape, Varint, Eight, Bytes, Four, Entry, FieldList}
use Rattle.spk_payload.specs.declared.values.Values.{Values}
use Rattle.spk_payload.specs.declared.values.Values.TheVariants as choice

-- The value of a metric as it is spelled: a float and a double by their bits. Of data sets, templates and extensions only that
-- they are there.
pub data Content : Type 0 where
  Int : ℕ → Content
  Long : ℕ → Content
  Flag : Bool → Content
  Words : List ℕ → Content
  Octets : List ℕ → Content
  Float : ℕ → Content
  Double : ℕ → Content
  Other : Content

-- whether a value is a text or bytes: to copy any other takes no memory
abbrev pub is_text_or_bytes : Content → Bool
is_text_or_bytes (Words bytes) = true
is_text_or_bytes (Octets bytes) = true
is_text_or_bytes _ = false

-- whether there is one, and it is a text or bytes
abbrev pub has_text_or_bytes : Option Content → Bool
has_text_or_bytes None = false
has_text_or_bytes (Some content) = is_text_or_bytes content

-- A metric, without where it lies in memory.
pub record MetricData : Type 0 where
  pub name : Option (List ℕ)
  pub alias : Option ℕ
  pub timestamp : Option ℕ
  pub datatype : Option ℕ
  pub historical : Option Bool
  pub transient : Option Bool
  pub null : Option Bool
  pub value : Option Content

-- whether a metric has a name, or a text or bytes as its value: to copy any other takes no memory
abbrev pub is_texted : MetricData → Bool
is_texted m = is_some m.name || has_text_or_bytes m.value

-- A payload, without where it lies in memory.
pub record PayloadData : Type 0 where
  pub timestamp : Option ℕ
  pub metrics : List MetricData
  pub seq : Option ℕ

-- ---- what an entry says of a field of the schema

abbrev pub varint_of : Shape → Option ℕ
varint_of (Varint n) = Some n
varint_of _ = None

abbrev pub eight_of : Shape → Option (List ℕ)
eight_of (Eight bytes) = Some bytes
eight_of _ = None

abbrev pub bytes_of : Shape → Option (List ℕ)
bytes_of (Bytes bytes) = Some bytes
bytes_of _ = None

abbrev pub four_of : Shape → Option (List ℕ)
four_of (Four bytes) = Some bytes
four_of _ = None

-- The number in an entry of field n, and the bytes in one: nothing of another number or wire type.
abbrev pub number_in : ℕ → Entry → Option ℕ
number_in n e = if e.number == n then varint_of e.shape else None

abbrev pub bytes_in : ℕ → Entry → Option (List ℕ)
bytes_in n e = if e.number == n then bytes_of e.shape else None

-- A float and a double stand with the least significant byte first (protobuf encoding, "Non-varint Numbers"). Where whole values
-- alone are read, only that one is there.
abbrev pub float_of : Values → List ℕ → Content
float_of choice.Whole bytes = Other
float_of choice.All bytes = Float (from_le_bytes w32 bytes)

abbrev pub double_of : Values → List ℕ → Content
double_of choice.Whole bytes = Other
double_of choice.All bytes = Double (from_le_bytes w64 bytes)

-- The value in an entry: field 10 int_value, 11 long_value, 12 float_value, 13 double_value, 14 boolean_value,
-- 15 string_value, 16 bytes_value, 17 dataset_value, 18 template_value, 19 extension_value.
abbrev pub content_in : Values → Entry → Option Content
content_in values e =
    if e.number == 10 then option_map (λ n. Int (n % 2 ^ 32)) (varint_of e.shape) else (
    if e.number == 11 then option_map Long (varint_of e.shape) else (
    if e.number == 12 then option_map (float_of values) (four_of e.shape) else (
    if e.number == 13 then option_map (double_of values) (eight_of e.shape) else (
    if e.number == 14 then option_map (λ n. Flag (not (n == 0))) (varint_of e.shape) else (
    if e.number == 15 then option_map Words (bytes_of e.shape) else (
    if e.number == 16 then option_map Octets (bytes_of e.shape) else (
    if e.number == 17 then option_map (λ _. Other) (bytes_of e.shape) else (
    if e.number == 18 then option_map (λ _. Other) (bytes_of e.shape) else (
    if e.number == 19 then option_map (λ _. Other) (bytes_of e.shape) else None)))))))))

-- ---- queries on a field list

-- What the last entry gives of those that give something.
abbrev pub last : {X : Type 0} → (Entry → Option X) → List Entry → Option X
last pick [] = None
last pick (e ∷ es) = option_or (last pick es) (pick e)

-- Fields 1 name, 2 alias, 3 timestamp, 4 datatype, 5 is_historical, 6 is_transient, 7 is_null, 10 to 19 value.
-- A datatype has 32 bits. A Boolean is true where its number isn't zero.
abbrev pub metric_of : Values → List Entry → MetricData
metric_of values es = record {
  name = last (bytes_in 1) es;
  alias = last (number_in 2) es;
  timestamp = last (number_in 3) es;
  datatype = option_map (λ n. n % 2 ^ 32) (last (number_in 4) es);
  historical = option_map (λ n. not (n == 0)) (last (number_in 5) es);
  transient = option_map (λ n. not (n == 0)) (last (number_in 6) es);
  null = option_map (λ n. not (n == 0)) (last (number_in 7) es);
  value = last (content_in values) es;
}

-- A name or a string value is UTF-8.
abbrev pub HasText : Entry → Type 0
HasText e = IfSome (bytes_in 1 e) IsUtf8 × IfSome (bytes_in 15 e) IsUtf8

-- ---- the meaning

-- The text of a metric means it: also names and strings that a later entry replaces are UTF-8.
pub record MeansMetric (values : Values) (text : List ℕ) (m : MetricData) : Type 0 where
  pub fields : List Entry
  pub are : FieldList text fields
  pub texts : All HasText fields
  pub is : m ≡ metric_of values fields

-- Each text means the metric at its place.
abbrev pub MeanEach : Values → List (List ℕ) → List MetricData → Type 0
MeanEach values [] [] = Unit {0}
MeanEach values [] (m ∷ ms) = ⊥
MeanEach values (t ∷ ts) [] = ⊥
MeanEach values (t ∷ ts) (m ∷ ms) = MeansMetric values t m × MeanEach values ts ms

-- The bytes mean the payload: fields 1 timestamp, 3 seq, and all entries 2, in order, each a metric of its own.
pub record MeansPayload (values : Values) (text : List ℕ) (p : PayloadData) : Type 0 where
  pub fields : List Entry
  pub are : FieldList text fields
  pub timestamp : p.timestamp ≡ last (number_in 1) fields
  pub seq : p.seq ≡ last (number_in 3) fields
  pub metrics : MeanEach values (filter_map (bytes_in 2) fields) p.metrics

-- ---- the choice

-- What is read where whole values alone are: a float or a double isn't.
abbrev pub whole_content : Content → Content
whole_content (Int n) = Int n
whole_content (Long n) = Long n
whole_content (Flag b) = Flag b
whole_content (Words bytes) = Words bytes
whole_content (Octets bytes) = Octets bytes
whole_content _ = Other

abbrev pub whole_metric : MetricData → MetricData
whole_metric m = record m { value = option_map whole_content m.value }

abbrev pub whole_payload : PayloadData → PayloadData
whole_payload p = record p { metrics = map whole_metric p.metrics }
