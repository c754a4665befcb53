-- What was appended, piece by piece, is the spelling of the whole.
use Rattle.std.proofs.Common.{◌≡◌, ℕ, zero, suc, ◌+◌, ◌%◌, ◌^◌, ◌<◌, ◌⊎◌, inl, inr, List, [], ◌∷◌, ◌++◌, length, map, take, get_or, All, Some, Result, Ok, Err, sym, ap, subst, ◌∙◌, append_assoc, arith}
use Rattle.std.specs.Prelude.{OnOk}
use Rattle.std.specs.List.{flat_map}
use Rattle.std.proofs.lemmas.List.{take_more, map_push, flat_map_more}
use Rattle.std.proofs.lemmas.List.Elements.{All-push}
use Rattle.spk_protobuf.specs.Spelling.{varint, bytes_field}
use Rattle.spk_payload.specs.declared.fault.PayloadFault.{PayloadFault}
use Rattle.spk_payload.specs.declared.fault.PayloadFault.TheVariants.{NoMemory, HasOther}
use Rattle.spk_payload.specs.declared.metric.Metric.{Metric}
use Rattle.spk_payload.specs.Meaning.{MetricData, Other}
use Rattle.spk_payload.specs.Spelling.{metric_spelling, MetricFits, HoldsOther}
use Rattle.spk_payload.specs.View.{metric_view}

pub metric_parts : {E : Type 0} (r : Result (Unit {0}) E) (old mid first new : List ℕ) (m : MetricData) (size : ℕ) → OnOk r (new ≡ first ++ metric_spelling m) → OnOk r (MetricFits m) → first ≡ mid ++ varint size → mid ≡ old ++ varint 18 → size ≡ length (metric_spelling m) % 2 ^ 64
    → OnOk r (new ≡ old ++ bytes_field 2 (metric_spelling m))
unfolding bytes_field
metric_parts (Err f) old mid first new m size h fits s t e = tt
metric_parts (Ok x) old mid first new m size h fits s t e =
    let short = fits.short in
    let whole : size ≡ length (metric_spelling m) = omega (arith, e, short) in
    let regrouped : ((old ++ varint 18) ++ varint (length (metric_spelling m))) ++ metric_spelling m ≡ old ++ (varint 18 ++ varint (length (metric_spelling m)) ++ metric_spelling m) = simp append_assoc in
    h ∙ ap (λ (a : List ℕ). a ++ metric_spelling m) (s ∙ ap (λ (a : List ℕ). a ++ varint size) t ∙ ap (λ (n : ℕ). (old ++ varint 18) ++ varint n) whole) ∙ regrouped

abbrev pub spelled : MetricData → List ℕ
spelled m = bytes_field 2 (metric_spelling m)

abbrev pub views : List Metric → List MetricData
views ms = map metric_view ms

-- one more metric
pub views_more : (ms : List Metric) (i : ℕ) (m : Metric) → i < length ms → m ≡ get_or ms i m → views (take (i + 1) ms) ≡ views (take i ms) ++ metric_view m ∷ []
views_more ms i m lt is = ap views (take_more ms i m lt) ∙ map_push metric_view (take i ms) (get_or ms i m) ∙ ap (λ (x : Metric). views (take i ms) ++ metric_view x ∷ []) (sym is)

pub spelled_more : (old out new : List ℕ) (ms : List Metric) (i : ℕ) (m : Metric) → i < length ms → m ≡ get_or ms i m → out ≡ old ++ flat_map spelled (views (take i ms)) → new ≡ out ++ spelled (metric_view m)
    → new ≡ old ++ flat_map spelled (views (take (i + 1) ms))
spelled_more old out new ms i m lt is so_far one =
    one ∙ ap (λ (a : List ℕ). a ++ spelled (metric_view m)) so_far ∙ flat_map_more spelled old (views (take i ms)) (metric_view m) ∙ ap (λ (xs : List MetricData). old ++ flat_map spelled xs) (sym (views_more ms i m lt is))

pub fits_more : (ms : List Metric) (i : ℕ) (m : Metric) → i < length ms → m ≡ get_or ms i m → All MetricFits (views (take i ms)) → MetricFits (metric_view m) → All MetricFits (views (take (i + 1) ms))
fits_more ms i m lt is so_far one = subst (λ (xs : List MetricData). All MetricFits xs) (sym (views_more ms i m lt is)) (All-push MetricFits (views (take i ms)) (metric_view m) so_far one)

-- the metric at a place holds what isn't read
pub other_at : (ms : List Metric) (i : ℕ) (m : Metric) → i < length ms → m ≡ get_or ms i m → (metric_view m).value ≡ Some Other → HoldsOther (views ms)
other_at [] i m lt is e = absurd (omega (arith, lt))
other_at (x ∷ xs) zero m lt is e = (0, metric_view m, omega arith, ap metric_view (sym is), e)
other_at (x ∷ xs) (suc i) m lt is e =
    let r = other_at xs i m (omega (arith, lt)) is e in
    (suc r.0, r.1, omega (arith, r.2), r.3, r.4)

pub fault_at : (ms : List Metric) (i : ℕ) (m : Metric) (f : PayloadFault) → i < length ms → m ≡ get_or ms i m → (f ≡ NoMemory) ⊎ ((f ≡ HasOther) × ((metric_view m).value ≡ Some Other)) → (f ≡ NoMemory) ⊎ ((f ≡ HasOther) × HoldsOther (views ms))
fault_at ms i m f lt is (inl h) = inl h
fault_at ms i m f lt is (inr h) = inr (h.0, other_at ms i m lt is h.1)
