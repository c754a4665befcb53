-- The canonical spelling of a payload: fields in ascending number, each that is there, zero and false too, shortest
-- varints, metrics in order (the choice of a spelling is the project's own; any other writer's is read too).
use Rattle.std.specs.Prelude.{◌≡◌, Any, ℕ, ◌+◌, ◌*◌, ◌^◌, ◌<◌, Bool, true, false, List, [], ◌++◌, length, All, Option, Some, None, IfSome}
use Rattle.std.specs.Int.{w32, w64, to_le_bytes}
use Rattle.std.specs.List.{flat_map}
use Rattle.std.specs.Str.{IsUtf8}
use Rattle.spk_protobuf.specs.Spelling.{varint, bytes_field}
use Rattle.spk_payload.specs.Meaning.{Content, Int, Long, Flag, Words, Octets, Float, Double, Other, MetricData, PayloadData}

-- A field of wire type 0, whose tag is its number times 8.
abbrev pub number_field : ℕ → ℕ → List ℕ
number_field tag n = varint tag ++ varint n

abbrev pub bit : Bool → ℕ
bit true = 1
bit false = 0

-- The spelling of what is there.
abbrev pub if_there : {X : Type 0} → (X → List ℕ) → Option X → List ℕ
if_there spelling None = []
if_there spelling (Some x) = spelling x

abbrev pub content_spelling : Content → List ℕ
content_spelling (Int n) = number_field (10 * 8) n
content_spelling (Long n) = number_field (11 * 8) n
content_spelling (Flag b) = number_field (14 * 8) (bit b)
content_spelling (Words bytes) = bytes_field 15 bytes
content_spelling (Octets bytes) = bytes_field 16 bytes
content_spelling (Float n) = varint (12 * 8 + 5) ++ to_le_bytes w32 n
content_spelling (Double n) = varint (13 * 8 + 1) ++ to_le_bytes w64 n
content_spelling Other = []

unfoldable pub metric_spelling : MetricData → List ℕ
metric_spelling m =
    if_there (bytes_field 1) m.name
    ++ if_there (number_field (2 * 8)) m.alias
    ++ if_there (number_field (3 * 8)) m.timestamp
    ++ if_there (number_field (4 * 8)) m.datatype
    ++ if_there (λ b. number_field (5 * 8) (bit b)) m.historical
    ++ if_there (λ b. number_field (6 * 8) (bit b)) m.transient
    ++ if_there (λ b. number_field (7 * 8) (bit b)) m.null
    ++ if_there content_spelling m.value

unfoldable pub spelling : PayloadData → List ℕ
spelling p =
    if_there (number_field (1 * 8)) p.timestamp
    ++ flat_map (λ m. bytes_field 2 (metric_spelling m)) p.metrics
    ++ if_there (number_field (3 * 8)) p.seq

-- ---- what has a spelling: numbers of the schema's widths, texts of UTF-8, and no value that isn't read

abbrev pub ContentFits : Content → Type 0
ContentFits (Int n) = n < 2 ^ 32
ContentFits (Long n) = n < 2 ^ 64
ContentFits (Flag b) = Unit {0}
ContentFits (Words bytes) = IsUtf8 bytes × (length bytes < 2 ^ 64)
ContentFits (Octets bytes) = length bytes < 2 ^ 64
ContentFits (Float n) = n < 2 ^ 32
ContentFits (Double n) = n < 2 ^ 64
ContentFits Other = ⊥

pub record MetricFits (m : MetricData) : Type 0 where
  pub name : IfSome m.name (λ bytes. IsUtf8 bytes × (length bytes < 2 ^ 64))
  pub alias : IfSome m.alias (λ n. n < 2 ^ 64)
  pub timestamp : IfSome m.timestamp (λ n. n < 2 ^ 64)
  pub datatype : IfSome m.datatype (λ n. n < 2 ^ 32)
  pub value : IfSome m.value ContentFits
  pub short : length (metric_spelling m) < 2 ^ 64

pub record PayloadFits (p : PayloadData) : Type 0 where
  pub timestamp : IfSome p.timestamp (λ n. n < 2 ^ 64)
  pub metrics : All MetricFits p.metrics
  pub seq : IfSome p.seq (λ n. n < 2 ^ 64)

-- Some metric has a value that isn't read, so that it can't be written.
abbrev pub HoldsOther : List MetricData → Type 0
HoldsOther ms = Any (λ m. m.value ≡ Some Other) ms
