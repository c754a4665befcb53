-- Metrics that are written from where their parts stand, one after the other.
use Rattle.std.proofs.Common.{◌≡◌, ◌⊎◌, inl, inr, ◌∙◌, ap, sym, refl, subst, ℕ, zero, suc, ◌+◌, ◌*◌, ◌-◌, ◌<◌, ◌≤◌, ◌^◌, min, List, [], ◌∷◌, ◌++◌, length, take, Option, Some, None, Result, Ok, Err, arith, append_assoc, option_copied}
use Rattle.std.specs.Prelude.{All, IfSome, OnOk, slice_get}
use Rattle.std.specs.List.{flat_map}
use Rattle.std.specs.Option.{option_map}
use Rattle.std.specs.Str.{IsUtf8}
use Rattle.std.proofs.lemmas.Bool.{cases_lt}
use Rattle.std.proofs.lemmas.List.{length-append, flat_map_more, append-nil}
use Rattle.std.proofs.lemmas.List.Elements.{All-push}
use Rattle.spk_protobuf.specs.Spelling.{bytes_field, groups_of, varint}
use Rattle.spk_payload.specs.Meaning.{MetricData}
use Rattle.spk_payload.specs.Spelling.{ContentFits, MetricFits, bit, content_spelling, if_there, metric_spelling, number_field}
use Rattle.spk_payload.specs.View.{content_of}
use Rattle.spk_edge.specs.History.{IsFill, IsPast, IsPut}
use Rattle.spk_edge.specs.Rows.{row_said, spelled}
use Rattle.spk_edge.specs.Saying.{null_said}
use Rattle.spk_edge.specs.declared.row.Row.{Row}

-- ---- one metric

pub fields : {E : Type 0} (r : Result (Unit {0}) E) (s : Row) (old a b c d e f new : List ℕ) → a ≡ old ++ if_there (bytes_field 1) (option_copied s.name)
    → b ≡ a ++ if_there (number_field (2 * 8)) s.alias → c ≡ b ++ number_field (3 * 8) s.time → d ≡ c ++ if_there (number_field (4 * 8)) s.datatype
    → e ≡ d ++ if_there (λ b. number_field (5 * 8) (bit b)) (null_said s.historical) → f ≡ e ++ if_there (λ b. number_field (7 * 8) (bit b)) (null_said s.null)
    → OnOk r (new ≡ f ++ if_there content_spelling (option_map content_of s.value.now)) → OnOk r (new ≡ old ++ metric_spelling (row_said s))
unfolding metric_spelling
fields (Err x) s old a b c d e f new ha hb hc hd he hf h = tt
fields (Ok x) s old a b c d e f new ha hb hc hd he hf h =
    let n = if_there (bytes_field 1) (option_copied s.name) in
    let i = if_there (number_field (2 * 8)) s.alias in
    let t = number_field (3 * 8) s.time in
    let k = if_there (number_field (4 * 8)) s.datatype in
    let o = if_there (λ b. number_field (5 * 8) (bit b)) (null_said s.historical) in
    let z = if_there (λ b. number_field (7 * 8) (bit b)) (null_said s.null) in
    let v = if_there content_spelling (option_map content_of s.value.now) in
    let regrouped : ((((((old ++ n) ++ i) ++ t) ++ k) ++ o) ++ z) ++ v ≡ old ++ (((((((n ++ i) ++ t) ++ k) ++ o) ++ []) ++ z) ++ v) = simp append_assoc in
    h ∙ ap (λ (l : List ℕ). l ++ v) (hf ∙ ap (λ (l : List ℕ). l ++ z) (he ∙ ap (λ (l : List ℕ). l ++ o) (hd ∙ ap (λ (l : List ℕ). l ++ k) (hc ∙ ap (λ (l : List ℕ). l ++ t) (hb ∙ ap (λ (l : List ℕ). l ++ i) ha))))) ∙ regrouped

pub row-fits : {E : Type 0} (r : Result (Unit {0}) E) (s : Row) (old new : List ℕ) → IfSome (option_copied s.name) (λ bytes. IsUtf8 bytes × (length bytes < 2 ^ 64)) → IfSome s.alias (λ n. n < 2 ^ 64)
    → s.time < 2 ^ 64 → IfSome s.datatype (λ n. n < 2 ^ 32) → length new < 2 ^ 64 → OnOk r (IfSome (option_map content_of s.value.now) ContentFits)
    → OnOk r (new ≡ old ++ metric_spelling (row_said s)) → OnOk r (MetricFits (row_said s))
row-fits (Err x) s old new name alias time datatype short value is = tt
row-fits (Ok x) s old new name alias time datatype short value is = record {
  name = name;
  alias = alias;
  timestamp = time;
  datatype = datatype;
  value = value;
  short =
      let whole : length new ≡ length (old ++ metric_spelling (row_said s)) = ap (λ (l : List ℕ). length l) is in
      omega (arith, short, whole, length-append old (metric_spelling (row_said s)));
}

pub as-field : {E : Type 0} (r : Result (Unit {0}) E) (old mid first new : List ℕ) (m : MetricData) (size : ℕ) → OnOk r (new ≡ first ++ metric_spelling m) → OnOk r (MetricFits m) → first ≡ mid ++ varint size
    → mid ≡ old ++ varint 18 → size ≡ min (length (metric_spelling m)) (2 ^ 64 - 1) → OnOk r (new ≡ old ++ spelled m)
unfolding bytes_field
as-field (Err x) old mid first new m size h fits s t e = tt
as-field (Ok x) old mid first new m size h fits s t e =
    let short = fits.short in
    let whole : size ≡ length (metric_spelling m) = omega (arith, e, short) in
    let regrouped : ((old ++ varint 18) ++ varint (length (metric_spelling m))) ++ metric_spelling m ≡ old ++ (varint 18 ++ varint (length (metric_spelling m)) ++ metric_spelling m) = simp append_assoc in
    h ∙ ap (λ (l : List ℕ). l ++ metric_spelling m) (s ∙ ap (λ (l : List ℕ). l ++ varint size) t ∙ ap (λ n. (old ++ varint 18) ++ varint n) whole) ∙ regrouped

-- ---- one after the other

taken : {X : Type 0} (i : ℕ) (xs : List X) → slice_get xs i ≡ None → take (i + 1) xs ≡ take i xs
taken zero [] e = refl
taken (suc i) [] e = let w : suc i + 1 ≡ suc (i + 1) = omega arith in ap (λ k. take k []) w
taken zero (x ∷ xs) e = absurd (let z : ⊥ = cc in z)
taken (suc i) (x ∷ xs) e = let w : suc i + 1 ≡ suc (i + 1) = omega arith in ap (λ k. take k (x ∷ xs)) w ∙ ap (λ l. x ∷ l) (taken i xs e)

pub taken-more : {X : Type 0} (i : ℕ) (xs : List X) (y : X) → slice_get xs i ≡ Some y → take (i + 1) xs ≡ take i xs ++ y ∷ []
taken-more zero [] y e = absurd (let z : ⊥ = cc in z)
taken-more (suc i) [] y e = absurd (let z : ⊥ = cc in z)
taken-more zero (x ∷ xs) y e = let same : x ≡ y = cc in ap (λ z. z ∷ []) same
taken-more (suc i) (x ∷ xs) y e = let w : suc i + 1 ≡ suc (i + 1) = omega arith in ap (λ k. take k (x ∷ xs)) w ∙ ap (λ l. x ∷ l) (taken-more i xs y e)

-- one place more
pub row-more : (old out new : List ℕ) (ms : List MetricData) (i : ℕ) → out ≡ old ++ flat_map spelled (take i ms) → new ≡ out ++ if_there spelled (slice_get ms i)
    → new ≡ old ++ flat_map spelled (take (i + 1) ms)
row-more old out new ms i so_far one = by (slice_get ms i) refl
  where
    by : (o : Option MetricData) → slice_get ms i ≡ o → new ≡ old ++ flat_map spelled (take (i + 1) ms)
    by None e =
        one ∙ ap (λ o. out ++ if_there spelled o) e ∙ append-nil out ∙ so_far ∙ ap (λ (l : List MetricData). old ++ flat_map spelled l) (sym (taken i ms e))
    by (Some m) e =
        one ∙ ap (λ o. out ++ if_there spelled o) e ∙ ap (λ (l : List ℕ). l ++ spelled m) so_far ∙ flat_map_more spelled old (take i ms) m
        ∙ ap (λ (l : List MetricData). old ++ flat_map spelled l) (sym (taken-more i ms m e))

pub fits-more : (ms : List MetricData) (i : ℕ) → All MetricFits (take i ms) → IfSome (slice_get ms i) MetricFits → All MetricFits (take (i + 1) ms)
fits-more ms i so_far one = by (slice_get ms i) refl one
  where
    by : (o : Option MetricData) → slice_get ms i ≡ o → IfSome o MetricFits → All MetricFits (take (i + 1) ms)
    by None e fits = subst (All MetricFits) (sym (taken i ms e)) so_far
    by (Some m) e fits = subst (All MetricFits) (sym (taken-more i ms m e)) (All-push MetricFits (take i ms) m so_far fits)

-- ---- how long a metric is as a field

eighteen : length (varint 18) ≡ 1
unfolding varint groups_of
eighteen = refl

field-length : (m : MetricData) → length (spelled m) ≡ 1 + length (varint (length (metric_spelling m))) + length (metric_spelling m)
unfolding bytes_field
field-length m =
    let fields = metric_spelling m in
    let size = varint (length fields) in
    let one = eighteen in
    let same : spelled m ≡ (varint 18 ++ size) ++ fields = refl in
    ap (λ (l : List ℕ). length l) same ∙ omega (arith, one, length-append (varint 18 ++ size) fields, length-append (varint 18) size)

-- from how long its fields are
pub field-size : (m : MetricData) (size whole : ℕ) → size ≡ min (length (metric_spelling m)) (2 ^ 64 - 1) → whole ≡ min (size + length (varint size) + 1) (2 ^ 64 - 1)
    → whole ≡ min (length (spelled m)) (2 ^ 64 - 1)
field-size m size whole fields is = elim (cases_lt (length (metric_spelling m)) (2 ^ 64 - 1)) [
  | inl less ↦
      let same : size ≡ length (metric_spelling m) = omega (arith, fields, less) in
      let long = field-length m in
      let same_head : length (varint size) ≡ length (varint (length (metric_spelling m))) = ap (λ n. length (varint n)) same in
      omega (arith, is, same, same_head, long)
  | inr more ↦
      let long = field-length m in
      omega (arith, is, fields, more, long)
]

-- ---- what stays within a limit

pub put-within : (limit size whole len total : ℕ) (before after : List ℕ) (m : MetricData) → limit ≤ 1048576 → size ≡ min (length (metric_spelling m)) (2 ^ 64 - 1)
    → whole ≡ min (size + length (varint size) + 1) (2 ^ 64 - 1) → len ≡ length before → total ≡ min (len + whole) (2 ^ 64 - 1) → total ≤ limit
    → after ≡ before ++ spelled m → MetricFits m → IsPut limit before after m
put-within limit size whole len total before after m small fields is long_is sum fit put fits =
    let field = field-size m size whole fields is in
    let long : length after ≡ length (before ++ spelled m) = ap (λ (l : List ℕ). length l) put in
    record { items = put; within = omega (arith, small, long_is, sum, fit, field, long, length-append before (spelled m)); fits = fits }

pub past-limit : (limit size whole len total : ℕ) (before : List ℕ) (m : MetricData) → size ≡ min (length (metric_spelling m)) (2 ^ 64 - 1)
    → whole ≡ min (size + length (varint size) + 1) (2 ^ 64 - 1) → len ≡ length before → total ≡ min (len + whole) (2 ^ 64 - 1) → limit < total → IsPast limit before before m
past-limit limit size whole len total before m fields is long_is sum over =
    let field = field-size m size whole fields is in
    record { items = refl; past = omega (arith, long_is, sum, over, field) }

-- ---- how many stay within it

-- one more
pub sum-more : (ms : List MetricData) (i : ℕ) (m : MetricData) → slice_get ms i ≡ Some m
    → length (flat_map spelled (take (i + 1) ms)) ≡ length (flat_map spelled (take i ms)) + length (spelled m)
sum-more ms i m e =
    ap (λ (l : List MetricData). length (flat_map spelled l)) (taken-more i ms m e)
    ∙ ap (λ (l : List ℕ). length l) (sym (flat_map_more spelled [] (take i ms) m)) ∙ length-append (flat_map spelled (take i ms)) (spelled m)

-- the place of the one that would pass it
pub fill-here : (base limit most i : ℕ) (ms : List MetricData) (m : MetricData) → i < most → slice_get ms i ≡ Some m → (i ≡ 0) ⊎ (base + length (flat_map spelled (take i ms)) ≤ limit)
    → limit < base + length (flat_map spelled (take i ms)) + length (spelled m) → IsFill base limit most ms i
fill-here base limit most i ms m below there within past =
    let more = sum-more ms i m there in
    record { few = omega (arith, below); within = within; full = inr (omega (arith, past, more)) }

pub fill-all : (base limit most i : ℕ) (ms : List MetricData) → i ≡ most → (i ≡ 0) ⊎ (base + length (flat_map spelled (take i ms)) ≤ limit) → IsFill base limit most ms i
fill-all base limit most i ms all within = record { few = omega (arith, all); within = within; full = inl all }
