-- The canonical spelling of a payload means that payload, and nothing else.
use Rattle.std.proofs.Common.{◌≡◌, ℕ, ◌+◌, ◌*◌, ◌%◌, ◌^◌, ◌<◌, Bool, true, false, not, eqb, List, [], ◌∷◌, ◌++◌, length, map, All, Option, Some, None, refl, sym, ap, subst, ◌∙◌, append_assoc, add-zero, arith}
use Rattle.std.specs.Prelude.{IfSome}
use Rattle.std.specs.Option.{option_map, option_or}
use Rattle.std.specs.List.{filter_map, cons_option, flat_map}
use Rattle.std.specs.Str.{IsUtf8}
use Rattle.std.specs.Int.{w32, w64, to_le_bytes}
use Rattle.std.proofs.lemmas.Nat.{from_le_bytes-to_le_bytes_4, from_le_bytes-to_le_bytes_8}
use Rattle.std.proofs.lemmas.List.{append-nil}
use Rattle.std.proofs.lemmas.List.Elements.{All-nil, All-cons, All-head, All-tail, All-append, filter_map-append}
use Rattle.std.proofs.lemmas.List.Concat.{flat_map-cons}
use Rattle.spk_protobuf.specs.Grammar.{Varint, Eight, Bytes, Four, Entry, IsVarint, IsField, FieldList}
use Rattle.spk_protobuf.specs.Spelling.{varint, bytes_field}
use Rattle.spk_protobuf.proofs.Shortest.{varint_is, bytes_field-is}
use Rattle.spk_payload.specs.declared.values.Values.TheVariants as choice
use Rattle.spk_payload.specs.Meaning.{Content, Int, Long, Flag, Words, Octets, Float, Double, Other, MetricData, PayloadData, number_in, bytes_in, content_in, last, metric_of, HasText, MeansMetric, MeanEach, MeansPayload}
use Rattle.spk_payload.specs.Spelling.{number_field, bit, if_there, content_spelling, metric_spelling, spelling, ContentFits, MetricFits, PayloadFits}
use Rattle.spk_payload.proofs.Metrics.{ok_is, or_none, same_metric}
use Rattle.spk_payload.proofs.Payloads.{payload_again}

-- ---- field lists

FieldList-append : (a b : List ℕ) (xs ys : List Entry) → FieldList a xs → FieldList b ys → FieldList (a ++ b) (xs ++ ys)
FieldList-append a b [] ys h k = subst (λ (t : List ℕ). FieldList (t ++ b) ys) (sym h) k
FieldList-append a b (x ∷ xs) ys h k = (h.0, h.1 ++ b, h.2, FieldList-append h.1 b xs ys h.3 k, ap (λ (t : List ℕ). t ++ b) h.4 ∙ append_assoc h.0 h.1 b)

FieldList-one : (text : List ℕ) (f : Entry) → IsField text f → FieldList text (f ∷ [])
FieldList-one text f h = (text, [], h, refl, sym (append-nil text))

-- the entry of what is there
abbrev entry_if : {X : Type 0} → (X → Entry) → Option X → List Entry
entry_if entry None = []
entry_if entry (Some x) = entry x ∷ []

FieldList-if : {X : Type 0} (spelled : X → List ℕ) (entry : X → Entry) (Fits : X → Type 0) (o : Option X) → ((x : X) → Fits x → IsField (spelled x) (entry x)) → IfSome o Fits → FieldList (if_there spelled o) (entry_if entry o)
FieldList-if spelled entry Fits None is h = refl
FieldList-if spelled entry Fits (Some x) is h = FieldList-one (spelled x) (entry x) (is x h)

abbrev number_entry : ℕ → ℕ → Entry
number_entry k n = record { number = k; shape = Varint n }

abbrev flag_entry : ℕ → Bool → Entry
flag_entry k b = number_entry k (bit b)

abbrev bytes_entry : ℕ → List ℕ → Entry
bytes_entry k bytes = record { number = k; shape = Bytes bytes }

abbrev name_entry : List ℕ → Entry
name_entry bytes = bytes_entry 1 bytes

-- no entry stands for a value that isn't read: it doesn't fit
abbrev content_entry : Content → Entry
content_entry (Int n) = number_entry 10 n
content_entry (Long n) = number_entry 11 n
content_entry (Flag b) = flag_entry 14 b
content_entry (Words bytes) = bytes_entry 15 bytes
content_entry (Octets bytes) = bytes_entry 16 bytes
content_entry (Float n) = record { number = 12; shape = Four (to_le_bytes w32 n) }
content_entry (Double n) = record { number = 13; shape = Eight (to_le_bytes w64 n) }
content_entry Other = bytes_entry 20 []

number_field-is : (k n : ℕ) → 0 < k → k < 100 → n < 2 ^ 64 → IsField (number_field (k * 8) n) (number_entry k n)
number_field-is k n positive below lt =
    let tag : IsVarint (varint (k * 8)) (k * 8 + 0) = subst (λ (t : ℕ). IsVarint (varint (k * 8)) t) (sym (add-zero (k * 8))) (varint_is (k * 8) (omega arith)) in
    (positive, varint (k * 8), varint n, tag, varint_is n lt, refl)

bit-below : (b : Bool) → bit b < 2 ^ 64
bit-below true = omega arith
bit-below false = omega arith

content-is : (c : Content) → ContentFits c → IsField (content_spelling c) (content_entry c)
content-is (Int n) h = number_field-is 10 n (omega arith) (omega arith) (omega (arith, h))
content-is (Long n) h = number_field-is 11 n (omega arith) (omega arith) h
content-is (Flag b) h = number_field-is 14 (bit b) (omega arith) (omega arith) (bit-below b)
content-is (Words bytes) h = bytes_field-is 15 bytes (omega arith) (omega arith) h.1
content-is (Octets bytes) h = bytes_field-is 16 bytes (omega arith) (omega arith) h
content-is (Float n) h = (omega arith, varint (12 * 8 + 5), to_le_bytes w32 n, varint_is (12 * 8 + 5) (omega arith), (refl, refl), refl)
content-is (Double n) h = (omega arith, varint (13 * 8 + 1), to_le_bytes w64 n, varint_is (13 * 8 + 1) (omega arith), (refl, refl), refl)
content-is Other h = absurd h

-- ---- a metric

abbrev Text : List ℕ → Type 0
Text bytes = IsUtf8 bytes × (length bytes < 2 ^ 64)

abbrev Anything : Bool → Type 0
Anything b = Unit {0}

anything : (o : Option Bool) → IfSome o Anything
anything None = tt
anything (Some b) = tt

abbrev entries_of : MetricData → List Entry
entries_of m = entry_if name_entry m.name ++ entry_if (number_entry 2) m.alias ++ entry_if (number_entry 3) m.timestamp ++ entry_if (number_entry 4) m.datatype ++ entry_if (flag_entry 5) m.historical ++ entry_if (flag_entry 6) m.transient ++ entry_if (flag_entry 7) m.null ++ entry_if content_entry m.value

metric_fields : (m : MetricData) → MetricFits m → FieldList (metric_spelling m) (entries_of m)
unfolding metric_spelling
metric_fields m h =
    let f0 = FieldList-if (bytes_field 1) name_entry Text m.name (λ b h. bytes_field-is 1 b (omega arith) (omega arith) h.1) h.name in
    let f1 = FieldList-if (number_field (2 * 8)) (number_entry 2) (λ n. n < 2 ^ 64) m.alias (λ n h. number_field-is 2 n (omega arith) (omega arith) h) h.alias in
    let f2 = FieldList-if (number_field (3 * 8)) (number_entry 3) (λ n. n < 2 ^ 64) m.timestamp (λ n h. number_field-is 3 n (omega arith) (omega arith) h) h.timestamp in
    let f3 = FieldList-if (number_field (4 * 8)) (number_entry 4) (λ n. n < 2 ^ 32) m.datatype (λ n h. number_field-is 4 n (omega arith) (omega arith) (omega (arith, h))) h.datatype in
    let f4 = FieldList-if (λ b. number_field (5 * 8) (bit b)) (flag_entry 5) Anything m.historical (λ b h. number_field-is 5 (bit b) (omega arith) (omega arith) (bit-below b)) (anything m.historical) in
    let f5 = FieldList-if (λ b. number_field (6 * 8) (bit b)) (flag_entry 6) Anything m.transient (λ b h. number_field-is 6 (bit b) (omega arith) (omega arith) (bit-below b)) (anything m.transient) in
    let f6 = FieldList-if (λ b. number_field (7 * 8) (bit b)) (flag_entry 7) Anything m.null (λ b h. number_field-is 7 (bit b) (omega arith) (omega arith) (bit-below b)) (anything m.null) in
    let f7 = FieldList-if content_spelling content_entry ContentFits m.value content-is h.value in
    let g1 = FieldList-append (if_there (bytes_field 1) m.name) (if_there (number_field (2 * 8)) m.alias) (entry_if name_entry m.name) (entry_if (number_entry 2) m.alias) f0 f1 in
    let g2 = FieldList-append (if_there (bytes_field 1) m.name ++ if_there (number_field (2 * 8)) m.alias) (if_there (number_field (3 * 8)) m.timestamp) (entry_if name_entry m.name ++ entry_if (number_entry 2) m.alias) (entry_if (number_entry 3) m.timestamp) g1 f2 in
    let g3 = FieldList-append (if_there (bytes_field 1) m.name ++ if_there (number_field (2 * 8)) m.alias ++ if_there (number_field (3 * 8)) m.timestamp) (if_there (number_field (4 * 8)) m.datatype) (entry_if name_entry m.name ++ entry_if (number_entry 2) m.alias ++ entry_if (number_entry 3) m.timestamp) (entry_if (number_entry 4) m.datatype) g2 f3 in
    let g4 = FieldList-append (if_there (bytes_field 1) m.name ++ if_there (number_field (2 * 8)) m.alias ++ if_there (number_field (3 * 8)) m.timestamp ++ if_there (number_field (4 * 8)) m.datatype) (if_there (λ b. number_field (5 * 8) (bit b)) m.historical) (entry_if name_entry m.name ++ entry_if (number_entry 2) m.alias ++ entry_if (number_entry 3) m.timestamp ++ entry_if (number_entry 4) m.datatype) (entry_if (flag_entry 5) m.historical) g3 f4 in
    let g5 = FieldList-append (if_there (bytes_field 1) m.name ++ if_there (number_field (2 * 8)) m.alias ++ if_there (number_field (3 * 8)) m.timestamp ++ if_there (number_field (4 * 8)) m.datatype ++ if_there (λ b. number_field (5 * 8) (bit b)) m.historical) (if_there (λ b. number_field (6 * 8) (bit b)) m.transient) (entry_if name_entry m.name ++ entry_if (number_entry 2) m.alias ++ entry_if (number_entry 3) m.timestamp ++ entry_if (number_entry 4) m.datatype ++ entry_if (flag_entry 5) m.historical) (entry_if (flag_entry 6) m.transient) g4 f5 in
    let g6 = FieldList-append (if_there (bytes_field 1) m.name ++ if_there (number_field (2 * 8)) m.alias ++ if_there (number_field (3 * 8)) m.timestamp ++ if_there (number_field (4 * 8)) m.datatype ++ if_there (λ b. number_field (5 * 8) (bit b)) m.historical ++ if_there (λ b. number_field (6 * 8) (bit b)) m.transient) (if_there (λ b. number_field (7 * 8) (bit b)) m.null) (entry_if name_entry m.name ++ entry_if (number_entry 2) m.alias ++ entry_if (number_entry 3) m.timestamp ++ entry_if (number_entry 4) m.datatype ++ entry_if (flag_entry 5) m.historical ++ entry_if (flag_entry 6) m.transient) (entry_if (flag_entry 7) m.null) g5 f6 in
    let g7 = FieldList-append (if_there (bytes_field 1) m.name ++ if_there (number_field (2 * 8)) m.alias ++ if_there (number_field (3 * 8)) m.timestamp ++ if_there (number_field (4 * 8)) m.datatype ++ if_there (λ b. number_field (5 * 8) (bit b)) m.historical ++ if_there (λ b. number_field (6 * 8) (bit b)) m.transient ++ if_there (λ b. number_field (7 * 8) (bit b)) m.null) (if_there content_spelling m.value) (entry_if name_entry m.name ++ entry_if (number_entry 2) m.alias ++ entry_if (number_entry 3) m.timestamp ++ entry_if (number_entry 4) m.datatype ++ entry_if (flag_entry 5) m.historical ++ entry_if (flag_entry 6) m.transient ++ entry_if (flag_entry 7) m.null) (entry_if content_entry m.value) g6 f7 in
    g7

or_nothing : {X : Type 0} (o : Option X) → o ≡ option_or o None
or_nothing None = refl
or_nothing (Some x) = refl

grouped : {X : Type 0} (a b c : Option X) → option_or (option_or a b) c ≡ option_or a (option_or b c)
grouped None b c = refl
grouped (Some x) b c = refl

-- the last entry of a list's end counts before those of its front
last-append : {X : Type 0} (pick : Entry → Option X) (xs ys : List Entry) → last pick (xs ++ ys) ≡ option_or (last pick ys) (last pick xs)
last-append pick [] ys = or_nothing (last pick ys)
last-append {X} pick (x ∷ xs) ys = ap (λ (o : Option X). option_or o (pick x)) (last-append pick xs ys) ∙ grouped (last pick ys) (last pick xs) (pick x)

-- an entry of another field says nothing of this one
last-other : {X Y : Type 0} (pick : Entry → Option X) (entry : Y → Entry) (o : Option Y) → ((y : Y) → pick (entry y) ≡ None) → last pick (entry_if entry o) ≡ None
last-other pick entry None none = refl
last-other pick entry (Some y) none = none y

last-own : {X Y : Type 0} (pick : Entry → Option X) (entry : Y → Entry) (f : Y → X) (o : Option Y) → ((y : Y) → pick (entry y) ≡ Some (f y)) → last pick (entry_if entry o) ≡ option_map f o
last-own pick entry f None own = refl
last-own pick entry f (Some y) own = own y

content_no_name : (c : Content) → bytes_in 1 (content_entry c) ≡ None
content_no_name (Int n) = refl
content_no_name (Long n) = refl
content_no_name (Flag b) = refl
content_no_name (Words bytes) = refl
content_no_name (Octets bytes) = refl
content_no_name (Float n) = refl
content_no_name (Double n) = refl
content_no_name Other = refl

content_no_alias : (c : Content) → number_in 2 (content_entry c) ≡ None
content_no_alias (Int n) = refl
content_no_alias (Long n) = refl
content_no_alias (Flag b) = refl
content_no_alias (Words bytes) = refl
content_no_alias (Octets bytes) = refl
content_no_alias (Float n) = refl
content_no_alias (Double n) = refl
content_no_alias Other = refl

content_no_timestamp : (c : Content) → number_in 3 (content_entry c) ≡ None
content_no_timestamp (Int n) = refl
content_no_timestamp (Long n) = refl
content_no_timestamp (Flag b) = refl
content_no_timestamp (Words bytes) = refl
content_no_timestamp (Octets bytes) = refl
content_no_timestamp (Float n) = refl
content_no_timestamp (Double n) = refl
content_no_timestamp Other = refl

content_no_datatype : (c : Content) → number_in 4 (content_entry c) ≡ None
content_no_datatype (Int n) = refl
content_no_datatype (Long n) = refl
content_no_datatype (Flag b) = refl
content_no_datatype (Words bytes) = refl
content_no_datatype (Octets bytes) = refl
content_no_datatype (Float n) = refl
content_no_datatype (Double n) = refl
content_no_datatype Other = refl

content_no_historical : (c : Content) → number_in 5 (content_entry c) ≡ None
content_no_historical (Int n) = refl
content_no_historical (Long n) = refl
content_no_historical (Flag b) = refl
content_no_historical (Words bytes) = refl
content_no_historical (Octets bytes) = refl
content_no_historical (Float n) = refl
content_no_historical (Double n) = refl
content_no_historical Other = refl

content_no_transient : (c : Content) → number_in 6 (content_entry c) ≡ None
content_no_transient (Int n) = refl
content_no_transient (Long n) = refl
content_no_transient (Flag b) = refl
content_no_transient (Words bytes) = refl
content_no_transient (Octets bytes) = refl
content_no_transient (Float n) = refl
content_no_transient (Double n) = refl
content_no_transient Other = refl

content_no_null : (c : Content) → number_in 7 (content_entry c) ≡ None
content_no_null (Int n) = refl
content_no_null (Long n) = refl
content_no_null (Flag b) = refl
content_no_null (Words bytes) = refl
content_no_null (Octets bytes) = refl
content_no_null (Float n) = refl
content_no_null (Double n) = refl
content_no_null Other = refl

content_own : (c : Content) → ContentFits c → content_in choice.All (content_entry c) ≡ Some c
content_own (Int n) h = let e : n % 2 ^ 32 ≡ n = omega (arith, h) in ap (λ (k : ℕ). Some (Int k)) e
content_own (Long n) h = refl
content_own (Flag true) h = refl
content_own (Flag false) h = refl
content_own (Words bytes) h = refl
content_own (Octets bytes) h = refl
content_own (Float n) h = ap (λ (k : ℕ). Some (Float k)) (from_le_bytes-to_le_bytes_4 n h)
content_own (Double n) h = ap (λ (k : ℕ). Some (Double k)) (from_le_bytes-to_le_bytes_8 n h)
content_own Other h = absurd h

value_own : (o : Option Content) → IfSome o ContentFits → last (content_in choice.All) (entry_if content_entry o) ≡ o
value_own None h = refl
value_own (Some c) h = content_own c h

same_option : {X : Type 0} (o : Option X) → option_map (λ x. x) o ≡ o
same_option None = refl
same_option (Some x) = refl

low_same : (o : Option ℕ) → IfSome o (λ n. n < 2 ^ 32) → option_map (λ n. n % 2 ^ 32) o ≡ o
low_same None h = refl
low_same (Some n) h = let e : n % 2 ^ 32 ≡ n = omega (arith, h) in ap (λ (k : ℕ). Some k) e

flag_same : (o : Option Bool) → option_map (λ n. not (eqb n 0)) (option_map bit o) ≡ o
flag_same None = refl
flag_same (Some true) = refl
flag_same (Some false) = refl

both : {X : Type 0} {a b c d : Option X} → a ≡ b → c ≡ d → option_or a c ≡ option_or b d
both e f = cc

last_name : (m : MetricData) → last (bytes_in 1) (entries_of m) ≡ m.name
last_name m =
    let p0 : last (bytes_in 1) (entry_if name_entry m.name) ≡ m.name = last-own (bytes_in 1) name_entry (λ x. x) m.name (λ x. refl) ∙ same_option m.name in
    let p1 : last (bytes_in 1) (entry_if (number_entry 2) m.alias) ≡ None = last-other (bytes_in 1) (number_entry 2) m.alias (λ x. refl) in
    let p2 : last (bytes_in 1) (entry_if (number_entry 3) m.timestamp) ≡ None = last-other (bytes_in 1) (number_entry 3) m.timestamp (λ x. refl) in
    let p3 : last (bytes_in 1) (entry_if (number_entry 4) m.datatype) ≡ None = last-other (bytes_in 1) (number_entry 4) m.datatype (λ x. refl) in
    let p4 : last (bytes_in 1) (entry_if (flag_entry 5) m.historical) ≡ None = last-other (bytes_in 1) (flag_entry 5) m.historical (λ x. refl) in
    let p5 : last (bytes_in 1) (entry_if (flag_entry 6) m.transient) ≡ None = last-other (bytes_in 1) (flag_entry 6) m.transient (λ x. refl) in
    let p6 : last (bytes_in 1) (entry_if (flag_entry 7) m.null) ≡ None = last-other (bytes_in 1) (flag_entry 7) m.null (λ x. refl) in
    let p7 : last (bytes_in 1) (entry_if content_entry m.value) ≡ None = last-other (bytes_in 1) content_entry m.value content_no_name in
    let q1 : last (bytes_in 1) (entry_if name_entry m.name ++ entry_if (number_entry 2) m.alias) ≡ m.name = last-append (bytes_in 1) (entry_if name_entry m.name) (entry_if (number_entry 2) m.alias) ∙ both p1 p0 in
    let q2 : last (bytes_in 1) (entry_if name_entry m.name ++ entry_if (number_entry 2) m.alias ++ entry_if (number_entry 3) m.timestamp) ≡ m.name = last-append (bytes_in 1) (entry_if name_entry m.name ++ entry_if (number_entry 2) m.alias) (entry_if (number_entry 3) m.timestamp) ∙ both p2 q1 in
    let q3 : last (bytes_in 1) (entry_if name_entry m.name ++ entry_if (number_entry 2) m.alias ++ entry_if (number_entry 3) m.timestamp ++ entry_if (number_entry 4) m.datatype) ≡ m.name = last-append (bytes_in 1) (entry_if name_entry m.name ++ entry_if (number_entry 2) m.alias ++ entry_if (number_entry 3) m.timestamp) (entry_if (number_entry 4) m.datatype) ∙ both p3 q2 in
    let q4 : last (bytes_in 1) (entry_if name_entry m.name ++ entry_if (number_entry 2) m.alias ++ entry_if (number_entry 3) m.timestamp ++ entry_if (number_entry 4) m.datatype ++ entry_if (flag_entry 5) m.historical) ≡ m.name = last-append (bytes_in 1) (entry_if name_entry m.name ++ entry_if (number_entry 2) m.alias ++ entry_if (number_entry 3) m.timestamp ++ entry_if (number_entry 4) m.datatype) (entry_if (flag_entry 5) m.historical) ∙ both p4 q3 in
    let q5 : last (bytes_in 1) (entry_if name_entry m.name ++ entry_if (number_entry 2) m.alias ++ entry_if (number_entry 3) m.timestamp ++ entry_if (number_entry 4) m.datatype ++ entry_if (flag_entry 5) m.historical ++ entry_if (flag_entry 6) m.transient) ≡ m.name = last-append (bytes_in 1) (entry_if name_entry m.name ++ entry_if (number_entry 2) m.alias ++ entry_if (number_entry 3) m.timestamp ++ entry_if (number_entry 4) m.datatype ++ entry_if (flag_entry 5) m.historical) (entry_if (flag_entry 6) m.transient) ∙ both p5 q4 in
    let q6 : last (bytes_in 1) (entry_if name_entry m.name ++ entry_if (number_entry 2) m.alias ++ entry_if (number_entry 3) m.timestamp ++ entry_if (number_entry 4) m.datatype ++ entry_if (flag_entry 5) m.historical ++ entry_if (flag_entry 6) m.transient ++ entry_if (flag_entry 7) m.null) ≡ m.name = last-append (bytes_in 1) (entry_if name_entry m.name ++ entry_if (number_entry 2) m.alias ++ entry_if (number_entry 3) m.timestamp ++ entry_if (number_entry 4) m.datatype ++ entry_if (flag_entry 5) m.historical ++ entry_if (flag_entry 6) m.transient) (entry_if (flag_entry 7) m.null) ∙ both p6 q5 in
    let q7 : last (bytes_in 1) (entry_if name_entry m.name ++ entry_if (number_entry 2) m.alias ++ entry_if (number_entry 3) m.timestamp ++ entry_if (number_entry 4) m.datatype ++ entry_if (flag_entry 5) m.historical ++ entry_if (flag_entry 6) m.transient ++ entry_if (flag_entry 7) m.null ++ entry_if content_entry m.value) ≡ m.name = last-append (bytes_in 1) (entry_if name_entry m.name ++ entry_if (number_entry 2) m.alias ++ entry_if (number_entry 3) m.timestamp ++ entry_if (number_entry 4) m.datatype ++ entry_if (flag_entry 5) m.historical ++ entry_if (flag_entry 6) m.transient ++ entry_if (flag_entry 7) m.null) (entry_if content_entry m.value) ∙ both p7 q6 in
    q7

last_alias : (m : MetricData) → last (number_in 2) (entries_of m) ≡ m.alias
last_alias m =
    let p0 : last (number_in 2) (entry_if name_entry m.name) ≡ None = last-other (number_in 2) name_entry m.name (λ x. refl) in
    let p1 : last (number_in 2) (entry_if (number_entry 2) m.alias) ≡ m.alias = last-own (number_in 2) (number_entry 2) (λ x. x) m.alias (λ x. refl) ∙ same_option m.alias in
    let p2 : last (number_in 2) (entry_if (number_entry 3) m.timestamp) ≡ None = last-other (number_in 2) (number_entry 3) m.timestamp (λ x. refl) in
    let p3 : last (number_in 2) (entry_if (number_entry 4) m.datatype) ≡ None = last-other (number_in 2) (number_entry 4) m.datatype (λ x. refl) in
    let p4 : last (number_in 2) (entry_if (flag_entry 5) m.historical) ≡ None = last-other (number_in 2) (flag_entry 5) m.historical (λ x. refl) in
    let p5 : last (number_in 2) (entry_if (flag_entry 6) m.transient) ≡ None = last-other (number_in 2) (flag_entry 6) m.transient (λ x. refl) in
    let p6 : last (number_in 2) (entry_if (flag_entry 7) m.null) ≡ None = last-other (number_in 2) (flag_entry 7) m.null (λ x. refl) in
    let p7 : last (number_in 2) (entry_if content_entry m.value) ≡ None = last-other (number_in 2) content_entry m.value content_no_alias in
    let q1 : last (number_in 2) (entry_if name_entry m.name ++ entry_if (number_entry 2) m.alias) ≡ m.alias = last-append (number_in 2) (entry_if name_entry m.name) (entry_if (number_entry 2) m.alias) ∙ both p1 p0 ∙ or_none (m.alias) in
    let q2 : last (number_in 2) (entry_if name_entry m.name ++ entry_if (number_entry 2) m.alias ++ entry_if (number_entry 3) m.timestamp) ≡ m.alias = last-append (number_in 2) (entry_if name_entry m.name ++ entry_if (number_entry 2) m.alias) (entry_if (number_entry 3) m.timestamp) ∙ both p2 q1 in
    let q3 : last (number_in 2) (entry_if name_entry m.name ++ entry_if (number_entry 2) m.alias ++ entry_if (number_entry 3) m.timestamp ++ entry_if (number_entry 4) m.datatype) ≡ m.alias = last-append (number_in 2) (entry_if name_entry m.name ++ entry_if (number_entry 2) m.alias ++ entry_if (number_entry 3) m.timestamp) (entry_if (number_entry 4) m.datatype) ∙ both p3 q2 in
    let q4 : last (number_in 2) (entry_if name_entry m.name ++ entry_if (number_entry 2) m.alias ++ entry_if (number_entry 3) m.timestamp ++ entry_if (number_entry 4) m.datatype ++ entry_if (flag_entry 5) m.historical) ≡ m.alias = last-append (number_in 2) (entry_if name_entry m.name ++ entry_if (number_entry 2) m.alias ++ entry_if (number_entry 3) m.timestamp ++ entry_if (number_entry 4) m.datatype) (entry_if (flag_entry 5) m.historical) ∙ both p4 q3 in
    let q5 : last (number_in 2) (entry_if name_entry m.name ++ entry_if (number_entry 2) m.alias ++ entry_if (number_entry 3) m.timestamp ++ entry_if (number_entry 4) m.datatype ++ entry_if (flag_entry 5) m.historical ++ entry_if (flag_entry 6) m.transient) ≡ m.alias = last-append (number_in 2) (entry_if name_entry m.name ++ entry_if (number_entry 2) m.alias ++ entry_if (number_entry 3) m.timestamp ++ entry_if (number_entry 4) m.datatype ++ entry_if (flag_entry 5) m.historical) (entry_if (flag_entry 6) m.transient) ∙ both p5 q4 in
    let q6 : last (number_in 2) (entry_if name_entry m.name ++ entry_if (number_entry 2) m.alias ++ entry_if (number_entry 3) m.timestamp ++ entry_if (number_entry 4) m.datatype ++ entry_if (flag_entry 5) m.historical ++ entry_if (flag_entry 6) m.transient ++ entry_if (flag_entry 7) m.null) ≡ m.alias = last-append (number_in 2) (entry_if name_entry m.name ++ entry_if (number_entry 2) m.alias ++ entry_if (number_entry 3) m.timestamp ++ entry_if (number_entry 4) m.datatype ++ entry_if (flag_entry 5) m.historical ++ entry_if (flag_entry 6) m.transient) (entry_if (flag_entry 7) m.null) ∙ both p6 q5 in
    let q7 : last (number_in 2) (entry_if name_entry m.name ++ entry_if (number_entry 2) m.alias ++ entry_if (number_entry 3) m.timestamp ++ entry_if (number_entry 4) m.datatype ++ entry_if (flag_entry 5) m.historical ++ entry_if (flag_entry 6) m.transient ++ entry_if (flag_entry 7) m.null ++ entry_if content_entry m.value) ≡ m.alias = last-append (number_in 2) (entry_if name_entry m.name ++ entry_if (number_entry 2) m.alias ++ entry_if (number_entry 3) m.timestamp ++ entry_if (number_entry 4) m.datatype ++ entry_if (flag_entry 5) m.historical ++ entry_if (flag_entry 6) m.transient ++ entry_if (flag_entry 7) m.null) (entry_if content_entry m.value) ∙ both p7 q6 in
    q7

last_timestamp : (m : MetricData) → last (number_in 3) (entries_of m) ≡ m.timestamp
last_timestamp m =
    let p0 : last (number_in 3) (entry_if name_entry m.name) ≡ None = last-other (number_in 3) name_entry m.name (λ x. refl) in
    let p1 : last (number_in 3) (entry_if (number_entry 2) m.alias) ≡ None = last-other (number_in 3) (number_entry 2) m.alias (λ x. refl) in
    let p2 : last (number_in 3) (entry_if (number_entry 3) m.timestamp) ≡ m.timestamp = last-own (number_in 3) (number_entry 3) (λ x. x) m.timestamp (λ x. refl) ∙ same_option m.timestamp in
    let p3 : last (number_in 3) (entry_if (number_entry 4) m.datatype) ≡ None = last-other (number_in 3) (number_entry 4) m.datatype (λ x. refl) in
    let p4 : last (number_in 3) (entry_if (flag_entry 5) m.historical) ≡ None = last-other (number_in 3) (flag_entry 5) m.historical (λ x. refl) in
    let p5 : last (number_in 3) (entry_if (flag_entry 6) m.transient) ≡ None = last-other (number_in 3) (flag_entry 6) m.transient (λ x. refl) in
    let p6 : last (number_in 3) (entry_if (flag_entry 7) m.null) ≡ None = last-other (number_in 3) (flag_entry 7) m.null (λ x. refl) in
    let p7 : last (number_in 3) (entry_if content_entry m.value) ≡ None = last-other (number_in 3) content_entry m.value content_no_timestamp in
    let q1 : last (number_in 3) (entry_if name_entry m.name ++ entry_if (number_entry 2) m.alias) ≡ None = last-append (number_in 3) (entry_if name_entry m.name) (entry_if (number_entry 2) m.alias) ∙ both p1 p0 in
    let q2 : last (number_in 3) (entry_if name_entry m.name ++ entry_if (number_entry 2) m.alias ++ entry_if (number_entry 3) m.timestamp) ≡ m.timestamp = last-append (number_in 3) (entry_if name_entry m.name ++ entry_if (number_entry 2) m.alias) (entry_if (number_entry 3) m.timestamp) ∙ both p2 q1 ∙ or_none (m.timestamp) in
    let q3 : last (number_in 3) (entry_if name_entry m.name ++ entry_if (number_entry 2) m.alias ++ entry_if (number_entry 3) m.timestamp ++ entry_if (number_entry 4) m.datatype) ≡ m.timestamp = last-append (number_in 3) (entry_if name_entry m.name ++ entry_if (number_entry 2) m.alias ++ entry_if (number_entry 3) m.timestamp) (entry_if (number_entry 4) m.datatype) ∙ both p3 q2 in
    let q4 : last (number_in 3) (entry_if name_entry m.name ++ entry_if (number_entry 2) m.alias ++ entry_if (number_entry 3) m.timestamp ++ entry_if (number_entry 4) m.datatype ++ entry_if (flag_entry 5) m.historical) ≡ m.timestamp = last-append (number_in 3) (entry_if name_entry m.name ++ entry_if (number_entry 2) m.alias ++ entry_if (number_entry 3) m.timestamp ++ entry_if (number_entry 4) m.datatype) (entry_if (flag_entry 5) m.historical) ∙ both p4 q3 in
    let q5 : last (number_in 3) (entry_if name_entry m.name ++ entry_if (number_entry 2) m.alias ++ entry_if (number_entry 3) m.timestamp ++ entry_if (number_entry 4) m.datatype ++ entry_if (flag_entry 5) m.historical ++ entry_if (flag_entry 6) m.transient) ≡ m.timestamp = last-append (number_in 3) (entry_if name_entry m.name ++ entry_if (number_entry 2) m.alias ++ entry_if (number_entry 3) m.timestamp ++ entry_if (number_entry 4) m.datatype ++ entry_if (flag_entry 5) m.historical) (entry_if (flag_entry 6) m.transient) ∙ both p5 q4 in
    let q6 : last (number_in 3) (entry_if name_entry m.name ++ entry_if (number_entry 2) m.alias ++ entry_if (number_entry 3) m.timestamp ++ entry_if (number_entry 4) m.datatype ++ entry_if (flag_entry 5) m.historical ++ entry_if (flag_entry 6) m.transient ++ entry_if (flag_entry 7) m.null) ≡ m.timestamp = last-append (number_in 3) (entry_if name_entry m.name ++ entry_if (number_entry 2) m.alias ++ entry_if (number_entry 3) m.timestamp ++ entry_if (number_entry 4) m.datatype ++ entry_if (flag_entry 5) m.historical ++ entry_if (flag_entry 6) m.transient) (entry_if (flag_entry 7) m.null) ∙ both p6 q5 in
    let q7 : last (number_in 3) (entry_if name_entry m.name ++ entry_if (number_entry 2) m.alias ++ entry_if (number_entry 3) m.timestamp ++ entry_if (number_entry 4) m.datatype ++ entry_if (flag_entry 5) m.historical ++ entry_if (flag_entry 6) m.transient ++ entry_if (flag_entry 7) m.null ++ entry_if content_entry m.value) ≡ m.timestamp = last-append (number_in 3) (entry_if name_entry m.name ++ entry_if (number_entry 2) m.alias ++ entry_if (number_entry 3) m.timestamp ++ entry_if (number_entry 4) m.datatype ++ entry_if (flag_entry 5) m.historical ++ entry_if (flag_entry 6) m.transient ++ entry_if (flag_entry 7) m.null) (entry_if content_entry m.value) ∙ both p7 q6 in
    q7

last_datatype : (m : MetricData) → last (number_in 4) (entries_of m) ≡ m.datatype
last_datatype m =
    let p0 : last (number_in 4) (entry_if name_entry m.name) ≡ None = last-other (number_in 4) name_entry m.name (λ x. refl) in
    let p1 : last (number_in 4) (entry_if (number_entry 2) m.alias) ≡ None = last-other (number_in 4) (number_entry 2) m.alias (λ x. refl) in
    let p2 : last (number_in 4) (entry_if (number_entry 3) m.timestamp) ≡ None = last-other (number_in 4) (number_entry 3) m.timestamp (λ x. refl) in
    let p3 : last (number_in 4) (entry_if (number_entry 4) m.datatype) ≡ m.datatype = last-own (number_in 4) (number_entry 4) (λ x. x) m.datatype (λ x. refl) ∙ same_option m.datatype in
    let p4 : last (number_in 4) (entry_if (flag_entry 5) m.historical) ≡ None = last-other (number_in 4) (flag_entry 5) m.historical (λ x. refl) in
    let p5 : last (number_in 4) (entry_if (flag_entry 6) m.transient) ≡ None = last-other (number_in 4) (flag_entry 6) m.transient (λ x. refl) in
    let p6 : last (number_in 4) (entry_if (flag_entry 7) m.null) ≡ None = last-other (number_in 4) (flag_entry 7) m.null (λ x. refl) in
    let p7 : last (number_in 4) (entry_if content_entry m.value) ≡ None = last-other (number_in 4) content_entry m.value content_no_datatype in
    let q1 : last (number_in 4) (entry_if name_entry m.name ++ entry_if (number_entry 2) m.alias) ≡ None = last-append (number_in 4) (entry_if name_entry m.name) (entry_if (number_entry 2) m.alias) ∙ both p1 p0 in
    let q2 : last (number_in 4) (entry_if name_entry m.name ++ entry_if (number_entry 2) m.alias ++ entry_if (number_entry 3) m.timestamp) ≡ None = last-append (number_in 4) (entry_if name_entry m.name ++ entry_if (number_entry 2) m.alias) (entry_if (number_entry 3) m.timestamp) ∙ both p2 q1 in
    let q3 : last (number_in 4) (entry_if name_entry m.name ++ entry_if (number_entry 2) m.alias ++ entry_if (number_entry 3) m.timestamp ++ entry_if (number_entry 4) m.datatype) ≡ m.datatype = last-append (number_in 4) (entry_if name_entry m.name ++ entry_if (number_entry 2) m.alias ++ entry_if (number_entry 3) m.timestamp) (entry_if (number_entry 4) m.datatype) ∙ both p3 q2 ∙ or_none (m.datatype) in
    let q4 : last (number_in 4) (entry_if name_entry m.name ++ entry_if (number_entry 2) m.alias ++ entry_if (number_entry 3) m.timestamp ++ entry_if (number_entry 4) m.datatype ++ entry_if (flag_entry 5) m.historical) ≡ m.datatype = last-append (number_in 4) (entry_if name_entry m.name ++ entry_if (number_entry 2) m.alias ++ entry_if (number_entry 3) m.timestamp ++ entry_if (number_entry 4) m.datatype) (entry_if (flag_entry 5) m.historical) ∙ both p4 q3 in
    let q5 : last (number_in 4) (entry_if name_entry m.name ++ entry_if (number_entry 2) m.alias ++ entry_if (number_entry 3) m.timestamp ++ entry_if (number_entry 4) m.datatype ++ entry_if (flag_entry 5) m.historical ++ entry_if (flag_entry 6) m.transient) ≡ m.datatype = last-append (number_in 4) (entry_if name_entry m.name ++ entry_if (number_entry 2) m.alias ++ entry_if (number_entry 3) m.timestamp ++ entry_if (number_entry 4) m.datatype ++ entry_if (flag_entry 5) m.historical) (entry_if (flag_entry 6) m.transient) ∙ both p5 q4 in
    let q6 : last (number_in 4) (entry_if name_entry m.name ++ entry_if (number_entry 2) m.alias ++ entry_if (number_entry 3) m.timestamp ++ entry_if (number_entry 4) m.datatype ++ entry_if (flag_entry 5) m.historical ++ entry_if (flag_entry 6) m.transient ++ entry_if (flag_entry 7) m.null) ≡ m.datatype = last-append (number_in 4) (entry_if name_entry m.name ++ entry_if (number_entry 2) m.alias ++ entry_if (number_entry 3) m.timestamp ++ entry_if (number_entry 4) m.datatype ++ entry_if (flag_entry 5) m.historical ++ entry_if (flag_entry 6) m.transient) (entry_if (flag_entry 7) m.null) ∙ both p6 q5 in
    let q7 : last (number_in 4) (entry_if name_entry m.name ++ entry_if (number_entry 2) m.alias ++ entry_if (number_entry 3) m.timestamp ++ entry_if (number_entry 4) m.datatype ++ entry_if (flag_entry 5) m.historical ++ entry_if (flag_entry 6) m.transient ++ entry_if (flag_entry 7) m.null ++ entry_if content_entry m.value) ≡ m.datatype = last-append (number_in 4) (entry_if name_entry m.name ++ entry_if (number_entry 2) m.alias ++ entry_if (number_entry 3) m.timestamp ++ entry_if (number_entry 4) m.datatype ++ entry_if (flag_entry 5) m.historical ++ entry_if (flag_entry 6) m.transient ++ entry_if (flag_entry 7) m.null) (entry_if content_entry m.value) ∙ both p7 q6 in
    q7

last_historical : (m : MetricData) → last (number_in 5) (entries_of m) ≡ option_map bit m.historical
last_historical m =
    let p0 : last (number_in 5) (entry_if name_entry m.name) ≡ None = last-other (number_in 5) name_entry m.name (λ x. refl) in
    let p1 : last (number_in 5) (entry_if (number_entry 2) m.alias) ≡ None = last-other (number_in 5) (number_entry 2) m.alias (λ x. refl) in
    let p2 : last (number_in 5) (entry_if (number_entry 3) m.timestamp) ≡ None = last-other (number_in 5) (number_entry 3) m.timestamp (λ x. refl) in
    let p3 : last (number_in 5) (entry_if (number_entry 4) m.datatype) ≡ None = last-other (number_in 5) (number_entry 4) m.datatype (λ x. refl) in
    let p4 : last (number_in 5) (entry_if (flag_entry 5) m.historical) ≡ option_map bit m.historical = last-own (number_in 5) (flag_entry 5) bit m.historical (λ b. refl) in
    let p5 : last (number_in 5) (entry_if (flag_entry 6) m.transient) ≡ None = last-other (number_in 5) (flag_entry 6) m.transient (λ x. refl) in
    let p6 : last (number_in 5) (entry_if (flag_entry 7) m.null) ≡ None = last-other (number_in 5) (flag_entry 7) m.null (λ x. refl) in
    let p7 : last (number_in 5) (entry_if content_entry m.value) ≡ None = last-other (number_in 5) content_entry m.value content_no_historical in
    let q1 : last (number_in 5) (entry_if name_entry m.name ++ entry_if (number_entry 2) m.alias) ≡ None = last-append (number_in 5) (entry_if name_entry m.name) (entry_if (number_entry 2) m.alias) ∙ both p1 p0 in
    let q2 : last (number_in 5) (entry_if name_entry m.name ++ entry_if (number_entry 2) m.alias ++ entry_if (number_entry 3) m.timestamp) ≡ None = last-append (number_in 5) (entry_if name_entry m.name ++ entry_if (number_entry 2) m.alias) (entry_if (number_entry 3) m.timestamp) ∙ both p2 q1 in
    let q3 : last (number_in 5) (entry_if name_entry m.name ++ entry_if (number_entry 2) m.alias ++ entry_if (number_entry 3) m.timestamp ++ entry_if (number_entry 4) m.datatype) ≡ None = last-append (number_in 5) (entry_if name_entry m.name ++ entry_if (number_entry 2) m.alias ++ entry_if (number_entry 3) m.timestamp) (entry_if (number_entry 4) m.datatype) ∙ both p3 q2 in
    let q4 : last (number_in 5) (entry_if name_entry m.name ++ entry_if (number_entry 2) m.alias ++ entry_if (number_entry 3) m.timestamp ++ entry_if (number_entry 4) m.datatype ++ entry_if (flag_entry 5) m.historical) ≡ option_map bit m.historical = last-append (number_in 5) (entry_if name_entry m.name ++ entry_if (number_entry 2) m.alias ++ entry_if (number_entry 3) m.timestamp ++ entry_if (number_entry 4) m.datatype) (entry_if (flag_entry 5) m.historical) ∙ both p4 q3 ∙ or_none (option_map bit m.historical) in
    let q5 : last (number_in 5) (entry_if name_entry m.name ++ entry_if (number_entry 2) m.alias ++ entry_if (number_entry 3) m.timestamp ++ entry_if (number_entry 4) m.datatype ++ entry_if (flag_entry 5) m.historical ++ entry_if (flag_entry 6) m.transient) ≡ option_map bit m.historical = last-append (number_in 5) (entry_if name_entry m.name ++ entry_if (number_entry 2) m.alias ++ entry_if (number_entry 3) m.timestamp ++ entry_if (number_entry 4) m.datatype ++ entry_if (flag_entry 5) m.historical) (entry_if (flag_entry 6) m.transient) ∙ both p5 q4 in
    let q6 : last (number_in 5) (entry_if name_entry m.name ++ entry_if (number_entry 2) m.alias ++ entry_if (number_entry 3) m.timestamp ++ entry_if (number_entry 4) m.datatype ++ entry_if (flag_entry 5) m.historical ++ entry_if (flag_entry 6) m.transient ++ entry_if (flag_entry 7) m.null) ≡ option_map bit m.historical = last-append (number_in 5) (entry_if name_entry m.name ++ entry_if (number_entry 2) m.alias ++ entry_if (number_entry 3) m.timestamp ++ entry_if (number_entry 4) m.datatype ++ entry_if (flag_entry 5) m.historical ++ entry_if (flag_entry 6) m.transient) (entry_if (flag_entry 7) m.null) ∙ both p6 q5 in
    let q7 : last (number_in 5) (entry_if name_entry m.name ++ entry_if (number_entry 2) m.alias ++ entry_if (number_entry 3) m.timestamp ++ entry_if (number_entry 4) m.datatype ++ entry_if (flag_entry 5) m.historical ++ entry_if (flag_entry 6) m.transient ++ entry_if (flag_entry 7) m.null ++ entry_if content_entry m.value) ≡ option_map bit m.historical = last-append (number_in 5) (entry_if name_entry m.name ++ entry_if (number_entry 2) m.alias ++ entry_if (number_entry 3) m.timestamp ++ entry_if (number_entry 4) m.datatype ++ entry_if (flag_entry 5) m.historical ++ entry_if (flag_entry 6) m.transient ++ entry_if (flag_entry 7) m.null) (entry_if content_entry m.value) ∙ both p7 q6 in
    q7

last_transient : (m : MetricData) → last (number_in 6) (entries_of m) ≡ option_map bit m.transient
last_transient m =
    let p0 : last (number_in 6) (entry_if name_entry m.name) ≡ None = last-other (number_in 6) name_entry m.name (λ x. refl) in
    let p1 : last (number_in 6) (entry_if (number_entry 2) m.alias) ≡ None = last-other (number_in 6) (number_entry 2) m.alias (λ x. refl) in
    let p2 : last (number_in 6) (entry_if (number_entry 3) m.timestamp) ≡ None = last-other (number_in 6) (number_entry 3) m.timestamp (λ x. refl) in
    let p3 : last (number_in 6) (entry_if (number_entry 4) m.datatype) ≡ None = last-other (number_in 6) (number_entry 4) m.datatype (λ x. refl) in
    let p4 : last (number_in 6) (entry_if (flag_entry 5) m.historical) ≡ None = last-other (number_in 6) (flag_entry 5) m.historical (λ x. refl) in
    let p5 : last (number_in 6) (entry_if (flag_entry 6) m.transient) ≡ option_map bit m.transient = last-own (number_in 6) (flag_entry 6) bit m.transient (λ b. refl) in
    let p6 : last (number_in 6) (entry_if (flag_entry 7) m.null) ≡ None = last-other (number_in 6) (flag_entry 7) m.null (λ x. refl) in
    let p7 : last (number_in 6) (entry_if content_entry m.value) ≡ None = last-other (number_in 6) content_entry m.value content_no_transient in
    let q1 : last (number_in 6) (entry_if name_entry m.name ++ entry_if (number_entry 2) m.alias) ≡ None = last-append (number_in 6) (entry_if name_entry m.name) (entry_if (number_entry 2) m.alias) ∙ both p1 p0 in
    let q2 : last (number_in 6) (entry_if name_entry m.name ++ entry_if (number_entry 2) m.alias ++ entry_if (number_entry 3) m.timestamp) ≡ None = last-append (number_in 6) (entry_if name_entry m.name ++ entry_if (number_entry 2) m.alias) (entry_if (number_entry 3) m.timestamp) ∙ both p2 q1 in
    let q3 : last (number_in 6) (entry_if name_entry m.name ++ entry_if (number_entry 2) m.alias ++ entry_if (number_entry 3) m.timestamp ++ entry_if (number_entry 4) m.datatype) ≡ None = last-append (number_in 6) (entry_if name_entry m.name ++ entry_if (number_entry 2) m.alias ++ entry_if (number_entry 3) m.timestamp) (entry_if (number_entry 4) m.datatype) ∙ both p3 q2 in
    let q4 : last (number_in 6) (entry_if name_entry m.name ++ entry_if (number_entry 2) m.alias ++ entry_if (number_entry 3) m.timestamp ++ entry_if (number_entry 4) m.datatype ++ entry_if (flag_entry 5) m.historical) ≡ None = last-append (number_in 6) (entry_if name_entry m.name ++ entry_if (number_entry 2) m.alias ++ entry_if (number_entry 3) m.timestamp ++ entry_if (number_entry 4) m.datatype) (entry_if (flag_entry 5) m.historical) ∙ both p4 q3 in
    let q5 : last (number_in 6) (entry_if name_entry m.name ++ entry_if (number_entry 2) m.alias ++ entry_if (number_entry 3) m.timestamp ++ entry_if (number_entry 4) m.datatype ++ entry_if (flag_entry 5) m.historical ++ entry_if (flag_entry 6) m.transient) ≡ option_map bit m.transient = last-append (number_in 6) (entry_if name_entry m.name ++ entry_if (number_entry 2) m.alias ++ entry_if (number_entry 3) m.timestamp ++ entry_if (number_entry 4) m.datatype ++ entry_if (flag_entry 5) m.historical) (entry_if (flag_entry 6) m.transient) ∙ both p5 q4 ∙ or_none (option_map bit m.transient) in
    let q6 : last (number_in 6) (entry_if name_entry m.name ++ entry_if (number_entry 2) m.alias ++ entry_if (number_entry 3) m.timestamp ++ entry_if (number_entry 4) m.datatype ++ entry_if (flag_entry 5) m.historical ++ entry_if (flag_entry 6) m.transient ++ entry_if (flag_entry 7) m.null) ≡ option_map bit m.transient = last-append (number_in 6) (entry_if name_entry m.name ++ entry_if (number_entry 2) m.alias ++ entry_if (number_entry 3) m.timestamp ++ entry_if (number_entry 4) m.datatype ++ entry_if (flag_entry 5) m.historical ++ entry_if (flag_entry 6) m.transient) (entry_if (flag_entry 7) m.null) ∙ both p6 q5 in
    let q7 : last (number_in 6) (entry_if name_entry m.name ++ entry_if (number_entry 2) m.alias ++ entry_if (number_entry 3) m.timestamp ++ entry_if (number_entry 4) m.datatype ++ entry_if (flag_entry 5) m.historical ++ entry_if (flag_entry 6) m.transient ++ entry_if (flag_entry 7) m.null ++ entry_if content_entry m.value) ≡ option_map bit m.transient = last-append (number_in 6) (entry_if name_entry m.name ++ entry_if (number_entry 2) m.alias ++ entry_if (number_entry 3) m.timestamp ++ entry_if (number_entry 4) m.datatype ++ entry_if (flag_entry 5) m.historical ++ entry_if (flag_entry 6) m.transient ++ entry_if (flag_entry 7) m.null) (entry_if content_entry m.value) ∙ both p7 q6 in
    q7

last_null : (m : MetricData) → last (number_in 7) (entries_of m) ≡ option_map bit m.null
last_null m =
    let p0 : last (number_in 7) (entry_if name_entry m.name) ≡ None = last-other (number_in 7) name_entry m.name (λ x. refl) in
    let p1 : last (number_in 7) (entry_if (number_entry 2) m.alias) ≡ None = last-other (number_in 7) (number_entry 2) m.alias (λ x. refl) in
    let p2 : last (number_in 7) (entry_if (number_entry 3) m.timestamp) ≡ None = last-other (number_in 7) (number_entry 3) m.timestamp (λ x. refl) in
    let p3 : last (number_in 7) (entry_if (number_entry 4) m.datatype) ≡ None = last-other (number_in 7) (number_entry 4) m.datatype (λ x. refl) in
    let p4 : last (number_in 7) (entry_if (flag_entry 5) m.historical) ≡ None = last-other (number_in 7) (flag_entry 5) m.historical (λ x. refl) in
    let p5 : last (number_in 7) (entry_if (flag_entry 6) m.transient) ≡ None = last-other (number_in 7) (flag_entry 6) m.transient (λ x. refl) in
    let p6 : last (number_in 7) (entry_if (flag_entry 7) m.null) ≡ option_map bit m.null = last-own (number_in 7) (flag_entry 7) bit m.null (λ b. refl) in
    let p7 : last (number_in 7) (entry_if content_entry m.value) ≡ None = last-other (number_in 7) content_entry m.value content_no_null in
    let q1 : last (number_in 7) (entry_if name_entry m.name ++ entry_if (number_entry 2) m.alias) ≡ None = last-append (number_in 7) (entry_if name_entry m.name) (entry_if (number_entry 2) m.alias) ∙ both p1 p0 in
    let q2 : last (number_in 7) (entry_if name_entry m.name ++ entry_if (number_entry 2) m.alias ++ entry_if (number_entry 3) m.timestamp) ≡ None = last-append (number_in 7) (entry_if name_entry m.name ++ entry_if (number_entry 2) m.alias) (entry_if (number_entry 3) m.timestamp) ∙ both p2 q1 in
    let q3 : last (number_in 7) (entry_if name_entry m.name ++ entry_if (number_entry 2) m.alias ++ entry_if (number_entry 3) m.timestamp ++ entry_if (number_entry 4) m.datatype) ≡ None = last-append (number_in 7) (entry_if name_entry m.name ++ entry_if (number_entry 2) m.alias ++ entry_if (number_entry 3) m.timestamp) (entry_if (number_entry 4) m.datatype) ∙ both p3 q2 in
    let q4 : last (number_in 7) (entry_if name_entry m.name ++ entry_if (number_entry 2) m.alias ++ entry_if (number_entry 3) m.timestamp ++ entry_if (number_entry 4) m.datatype ++ entry_if (flag_entry 5) m.historical) ≡ None = last-append (number_in 7) (entry_if name_entry m.name ++ entry_if (number_entry 2) m.alias ++ entry_if (number_entry 3) m.timestamp ++ entry_if (number_entry 4) m.datatype) (entry_if (flag_entry 5) m.historical) ∙ both p4 q3 in
    let q5 : last (number_in 7) (entry_if name_entry m.name ++ entry_if (number_entry 2) m.alias ++ entry_if (number_entry 3) m.timestamp ++ entry_if (number_entry 4) m.datatype ++ entry_if (flag_entry 5) m.historical ++ entry_if (flag_entry 6) m.transient) ≡ None = last-append (number_in 7) (entry_if name_entry m.name ++ entry_if (number_entry 2) m.alias ++ entry_if (number_entry 3) m.timestamp ++ entry_if (number_entry 4) m.datatype ++ entry_if (flag_entry 5) m.historical) (entry_if (flag_entry 6) m.transient) ∙ both p5 q4 in
    let q6 : last (number_in 7) (entry_if name_entry m.name ++ entry_if (number_entry 2) m.alias ++ entry_if (number_entry 3) m.timestamp ++ entry_if (number_entry 4) m.datatype ++ entry_if (flag_entry 5) m.historical ++ entry_if (flag_entry 6) m.transient ++ entry_if (flag_entry 7) m.null) ≡ option_map bit m.null = last-append (number_in 7) (entry_if name_entry m.name ++ entry_if (number_entry 2) m.alias ++ entry_if (number_entry 3) m.timestamp ++ entry_if (number_entry 4) m.datatype ++ entry_if (flag_entry 5) m.historical ++ entry_if (flag_entry 6) m.transient) (entry_if (flag_entry 7) m.null) ∙ both p6 q5 ∙ or_none (option_map bit m.null) in
    let q7 : last (number_in 7) (entry_if name_entry m.name ++ entry_if (number_entry 2) m.alias ++ entry_if (number_entry 3) m.timestamp ++ entry_if (number_entry 4) m.datatype ++ entry_if (flag_entry 5) m.historical ++ entry_if (flag_entry 6) m.transient ++ entry_if (flag_entry 7) m.null ++ entry_if content_entry m.value) ≡ option_map bit m.null = last-append (number_in 7) (entry_if name_entry m.name ++ entry_if (number_entry 2) m.alias ++ entry_if (number_entry 3) m.timestamp ++ entry_if (number_entry 4) m.datatype ++ entry_if (flag_entry 5) m.historical ++ entry_if (flag_entry 6) m.transient ++ entry_if (flag_entry 7) m.null) (entry_if content_entry m.value) ∙ both p7 q6 in
    q7

last_value : (m : MetricData) → MetricFits m → last (content_in choice.All) (entries_of m) ≡ m.value
last_value m h =
    let p0 : last (content_in choice.All) (entry_if name_entry m.name) ≡ None = last-other (content_in choice.All) name_entry m.name (λ x. refl) in
    let p1 : last (content_in choice.All) (entry_if (number_entry 2) m.alias) ≡ None = last-other (content_in choice.All) (number_entry 2) m.alias (λ x. refl) in
    let p2 : last (content_in choice.All) (entry_if (number_entry 3) m.timestamp) ≡ None = last-other (content_in choice.All) (number_entry 3) m.timestamp (λ x. refl) in
    let p3 : last (content_in choice.All) (entry_if (number_entry 4) m.datatype) ≡ None = last-other (content_in choice.All) (number_entry 4) m.datatype (λ x. refl) in
    let p4 : last (content_in choice.All) (entry_if (flag_entry 5) m.historical) ≡ None = last-other (content_in choice.All) (flag_entry 5) m.historical (λ x. refl) in
    let p5 : last (content_in choice.All) (entry_if (flag_entry 6) m.transient) ≡ None = last-other (content_in choice.All) (flag_entry 6) m.transient (λ x. refl) in
    let p6 : last (content_in choice.All) (entry_if (flag_entry 7) m.null) ≡ None = last-other (content_in choice.All) (flag_entry 7) m.null (λ x. refl) in
    let p7 : last (content_in choice.All) (entry_if content_entry m.value) ≡ m.value = value_own m.value h.value in
    let q1 : last (content_in choice.All) (entry_if name_entry m.name ++ entry_if (number_entry 2) m.alias) ≡ None = last-append (content_in choice.All) (entry_if name_entry m.name) (entry_if (number_entry 2) m.alias) ∙ both p1 p0 in
    let q2 : last (content_in choice.All) (entry_if name_entry m.name ++ entry_if (number_entry 2) m.alias ++ entry_if (number_entry 3) m.timestamp) ≡ None = last-append (content_in choice.All) (entry_if name_entry m.name ++ entry_if (number_entry 2) m.alias) (entry_if (number_entry 3) m.timestamp) ∙ both p2 q1 in
    let q3 : last (content_in choice.All) (entry_if name_entry m.name ++ entry_if (number_entry 2) m.alias ++ entry_if (number_entry 3) m.timestamp ++ entry_if (number_entry 4) m.datatype) ≡ None = last-append (content_in choice.All) (entry_if name_entry m.name ++ entry_if (number_entry 2) m.alias ++ entry_if (number_entry 3) m.timestamp) (entry_if (number_entry 4) m.datatype) ∙ both p3 q2 in
    let q4 : last (content_in choice.All) (entry_if name_entry m.name ++ entry_if (number_entry 2) m.alias ++ entry_if (number_entry 3) m.timestamp ++ entry_if (number_entry 4) m.datatype ++ entry_if (flag_entry 5) m.historical) ≡ None = last-append (content_in choice.All) (entry_if name_entry m.name ++ entry_if (number_entry 2) m.alias ++ entry_if (number_entry 3) m.timestamp ++ entry_if (number_entry 4) m.datatype) (entry_if (flag_entry 5) m.historical) ∙ both p4 q3 in
    let q5 : last (content_in choice.All) (entry_if name_entry m.name ++ entry_if (number_entry 2) m.alias ++ entry_if (number_entry 3) m.timestamp ++ entry_if (number_entry 4) m.datatype ++ entry_if (flag_entry 5) m.historical ++ entry_if (flag_entry 6) m.transient) ≡ None = last-append (content_in choice.All) (entry_if name_entry m.name ++ entry_if (number_entry 2) m.alias ++ entry_if (number_entry 3) m.timestamp ++ entry_if (number_entry 4) m.datatype ++ entry_if (flag_entry 5) m.historical) (entry_if (flag_entry 6) m.transient) ∙ both p5 q4 in
    let q6 : last (content_in choice.All) (entry_if name_entry m.name ++ entry_if (number_entry 2) m.alias ++ entry_if (number_entry 3) m.timestamp ++ entry_if (number_entry 4) m.datatype ++ entry_if (flag_entry 5) m.historical ++ entry_if (flag_entry 6) m.transient ++ entry_if (flag_entry 7) m.null) ≡ None = last-append (content_in choice.All) (entry_if name_entry m.name ++ entry_if (number_entry 2) m.alias ++ entry_if (number_entry 3) m.timestamp ++ entry_if (number_entry 4) m.datatype ++ entry_if (flag_entry 5) m.historical ++ entry_if (flag_entry 6) m.transient) (entry_if (flag_entry 7) m.null) ∙ both p6 q5 in
    let q7 : last (content_in choice.All) (entry_if name_entry m.name ++ entry_if (number_entry 2) m.alias ++ entry_if (number_entry 3) m.timestamp ++ entry_if (number_entry 4) m.datatype ++ entry_if (flag_entry 5) m.historical ++ entry_if (flag_entry 6) m.transient ++ entry_if (flag_entry 7) m.null ++ entry_if content_entry m.value) ≡ m.value = last-append (content_in choice.All) (entry_if name_entry m.name ++ entry_if (number_entry 2) m.alias ++ entry_if (number_entry 3) m.timestamp ++ entry_if (number_entry 4) m.datatype ++ entry_if (flag_entry 5) m.historical ++ entry_if (flag_entry 6) m.transient ++ entry_if (flag_entry 7) m.null) (entry_if content_entry m.value) ∙ both p7 q6 ∙ or_none (m.value) in
    q7

entries_mean : (m : MetricData) → MetricFits m → metric_of choice.All (entries_of m) ≡ m
entries_mean m h =
    same_metric
    (last_name m)
    (last_alias m)
    (last_timestamp m)
    (ap (λ (o : Option ℕ). option_map (λ n. n % 2 ^ 32) o) (last_datatype m) ∙ low_same m.datatype h.datatype)
    (ap (λ (o : Option ℕ). option_map (λ n. not (eqb n 0)) o) (last_historical m) ∙ flag_same m.historical)
    (ap (λ (o : Option ℕ). option_map (λ n. not (eqb n 0)) o) (last_transient m) ∙ flag_same m.transient)
    (ap (λ (o : Option ℕ). option_map (λ n. not (eqb n 0)) o) (last_null m) ∙ flag_same m.null)
    (last_value m h)

-- ---- texts

All-if : {X : Type 0} (P : Entry → Type 0) (entry : X → Entry) (Fits : X → Type 0) (o : Option X) → ((x : X) → Fits x → P (entry x)) → IfSome o Fits → All P (entry_if entry o)
All-if P entry Fits None is h = All-nil P
All-if P entry Fits (Some x) is h = All-cons P (entry x) [] (is x h) (All-nil P)

content_texts : (c : Content) → ContentFits c → HasText (content_entry c)
content_texts (Int n) h = (tt, tt)
content_texts (Long n) h = (tt, tt)
content_texts (Flag b) h = (tt, tt)
content_texts (Words bytes) h = (tt, h.0)
content_texts (Octets bytes) h = (tt, tt)
content_texts (Float n) h = (tt, tt)
content_texts (Double n) h = (tt, tt)
content_texts Other h = absurd h

metric_texts : (m : MetricData) → MetricFits m → All HasText (entries_of m)
metric_texts m h =
    let t0 = All-if HasText name_entry Text m.name (λ b k. (k.0, tt)) h.name in
    let t1 = All-if HasText (number_entry 2) (λ n. n < 2 ^ 64) m.alias (λ n k. (tt, tt)) h.alias in
    let t2 = All-if HasText (number_entry 3) (λ n. n < 2 ^ 64) m.timestamp (λ n k. (tt, tt)) h.timestamp in
    let t3 = All-if HasText (number_entry 4) (λ n. n < 2 ^ 32) m.datatype (λ n k. (tt, tt)) h.datatype in
    let t4 = All-if HasText (flag_entry 5) Anything m.historical (λ b k. (tt, tt)) (anything m.historical) in
    let t5 = All-if HasText (flag_entry 6) Anything m.transient (λ b k. (tt, tt)) (anything m.transient) in
    let t6 = All-if HasText (flag_entry 7) Anything m.null (λ b k. (tt, tt)) (anything m.null) in
    let t7 = All-if HasText content_entry ContentFits m.value content_texts h.value in
    let u1 = All-append HasText (entry_if name_entry m.name) (entry_if (number_entry 2) m.alias) t0 t1 in
    let u2 = All-append HasText (entry_if name_entry m.name ++ entry_if (number_entry 2) m.alias) (entry_if (number_entry 3) m.timestamp) u1 t2 in
    let u3 = All-append HasText (entry_if name_entry m.name ++ entry_if (number_entry 2) m.alias ++ entry_if (number_entry 3) m.timestamp) (entry_if (number_entry 4) m.datatype) u2 t3 in
    let u4 = All-append HasText (entry_if name_entry m.name ++ entry_if (number_entry 2) m.alias ++ entry_if (number_entry 3) m.timestamp ++ entry_if (number_entry 4) m.datatype) (entry_if (flag_entry 5) m.historical) u3 t4 in
    let u5 = All-append HasText (entry_if name_entry m.name ++ entry_if (number_entry 2) m.alias ++ entry_if (number_entry 3) m.timestamp ++ entry_if (number_entry 4) m.datatype ++ entry_if (flag_entry 5) m.historical) (entry_if (flag_entry 6) m.transient) u4 t5 in
    let u6 = All-append HasText (entry_if name_entry m.name ++ entry_if (number_entry 2) m.alias ++ entry_if (number_entry 3) m.timestamp ++ entry_if (number_entry 4) m.datatype ++ entry_if (flag_entry 5) m.historical ++ entry_if (flag_entry 6) m.transient) (entry_if (flag_entry 7) m.null) u5 t6 in
    let u7 = All-append HasText (entry_if name_entry m.name ++ entry_if (number_entry 2) m.alias ++ entry_if (number_entry 3) m.timestamp ++ entry_if (number_entry 4) m.datatype ++ entry_if (flag_entry 5) m.historical ++ entry_if (flag_entry 6) m.transient ++ entry_if (flag_entry 7) m.null) (entry_if content_entry m.value) u6 t7 in
    u7

pub metric_means : (m : MetricData) → MetricFits m → MeansMetric choice.All (metric_spelling m) m
metric_means m h = record { fields = entries_of m; are = metric_fields m h; texts = metric_texts m h; is = sym (entries_mean m h) }

-- ---- a payload

abbrev metric_entry : MetricData → Entry
metric_entry m = bytes_entry 2 (metric_spelling m)

abbrev spelled_metric : MetricData → List ℕ
spelled_metric m = bytes_field 2 (metric_spelling m)

metrics_fields : (ms : List MetricData) → All MetricFits ms → FieldList (flat_map spelled_metric ms) (map metric_entry ms)
metrics_fields [] h = refl
metrics_fields (m ∷ ms) h =
    let one = All-head MetricFits m ms h in
    let first = FieldList-one (spelled_metric m) (metric_entry m) (bytes_field-is 2 (metric_spelling m) (omega arith) (omega arith) one.short) in
    rw flat_map-cons (FieldList-append (spelled_metric m) (flat_map spelled_metric ms) (metric_entry m ∷ []) (map metric_entry ms) first (metrics_fields ms (All-tail MetricFits m ms h)))

metrics_mean : (ms : List MetricData) → All MetricFits ms → MeanEach choice.All (filter_map (bytes_in 2) (map metric_entry ms)) ms
metrics_mean [] h = tt
metrics_mean (m ∷ ms) h = (metric_means m (All-head MetricFits m ms h), metrics_mean ms (All-tail MetricFits m ms h))

last-metrics : (k : ℕ) (ms : List MetricData) → ((m : MetricData) → number_in k (metric_entry m) ≡ None) → last (number_in k) (map metric_entry ms) ≡ None
last-metrics k [] none = refl
last-metrics k (m ∷ ms) none = both (last-metrics k ms none) (none m)

abbrev payload_entries : PayloadData → List Entry
payload_entries p = entry_if (number_entry 1) p.timestamp ++ map metric_entry p.metrics ++ entry_if (number_entry 3) p.seq

no_metric_in : (k : ℕ) (o : Option ℕ) → ((n : ℕ) → bytes_in 2 (number_entry k n) ≡ None) → filter_map (bytes_in 2) (entry_if (number_entry k) o) ≡ []
no_metric_in k None none = refl
no_metric_in k (Some n) none = ap (λ (o : Option (List ℕ)). cons_option o []) (none n)

pub canonical_means : (p : PayloadData) → PayloadFits p → MeansPayload choice.All (spelling p) p
unfolding spelling
canonical_means p h =
    let time = entry_if (number_entry 1) p.timestamp in
    let seq = entry_if (number_entry 3) p.seq in
    let ms = map metric_entry p.metrics in
    let f0 = FieldList-if (number_field (1 * 8)) (number_entry 1) (λ n. n < 2 ^ 64) p.timestamp (λ n k. number_field-is 1 n (omega arith) (omega arith) k) h.timestamp in
    let f1 = metrics_fields p.metrics h.metrics in
    let f2 = FieldList-if (number_field (3 * 8)) (number_entry 3) (λ n. n < 2 ^ 64) p.seq (λ n k. number_field-is 3 n (omega arith) (omega arith) k) h.seq in
    let g1 = FieldList-append (if_there (number_field (1 * 8)) p.timestamp) (flat_map spelled_metric p.metrics) time ms f0 f1 in
    let g2 = FieldList-append (if_there (number_field (1 * 8)) p.timestamp ++ flat_map spelled_metric p.metrics) (if_there (number_field (3 * 8)) p.seq) (time ++ ms) seq g1 f2 in
    let t0 : last (number_in 1) time ≡ p.timestamp = last-own (number_in 1) (number_entry 1) (λ x. x) p.timestamp (λ x. refl) ∙ same_option p.timestamp in
    let t1 : last (number_in 1) ms ≡ None = last-metrics 1 p.metrics (λ m. refl) in
    let t2 : last (number_in 1) seq ≡ None = last-other (number_in 1) (number_entry 3) p.seq (λ x. refl) in
    let time_is : last (number_in 1) (payload_entries p) ≡ p.timestamp = last-append (number_in 1) (time ++ ms) seq ∙ both t2 (last-append (number_in 1) time ms ∙ both t1 t0) in
    let s0 : last (number_in 3) time ≡ None = last-other (number_in 3) (number_entry 1) p.timestamp (λ x. refl) in
    let s1 : last (number_in 3) ms ≡ None = last-metrics 3 p.metrics (λ m. refl) in
    let s2 : last (number_in 3) seq ≡ p.seq = last-own (number_in 3) (number_entry 3) (λ x. x) p.seq (λ x. refl) ∙ same_option p.seq in
    let seq_is : last (number_in 3) (payload_entries p) ≡ p.seq = last-append (number_in 3) (time ++ ms) seq ∙ both s2 (last-append (number_in 3) time ms ∙ both s1 s0) ∙ or_none p.seq in
    let parts : filter_map (bytes_in 2) (payload_entries p) ≡ filter_map (bytes_in 2) ms = filter_map-append (bytes_in 2) (time ++ ms) seq ∙ ap (λ (x : List (List ℕ)). filter_map (bytes_in 2) (time ++ ms) ++ x) (no_metric_in 3 p.seq (λ n. refl)) ∙ append-nil (filter_map (bytes_in 2) (time ++ ms)) ∙ filter_map-append (bytes_in 2) time ms ∙ ap (λ (x : List (List ℕ)). x ++ filter_map (bytes_in 2) ms) (no_metric_in 1 p.timestamp (λ n. refl)) in
    record {
      fields = payload_entries p;
      are = g2;
      timestamp = sym time_is;
      seq = sym seq_is;
      metrics = subst (λ (texts : List (List ℕ)). MeanEach choice.All texts p.metrics) (sym parts) (metrics_mean p.metrics h.metrics);
    }

pub canonical_only : (p q : PayloadData) → PayloadFits p → MeansPayload choice.All (spelling p) q → q ≡ p
canonical_only p q h k = ok_is q p (sym (payload_again choice.All (spelling p) q k) ∙ payload_again choice.All (spelling p) p (canonical_means p h))
