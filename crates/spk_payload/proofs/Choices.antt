-- To read whole values alone is to read all, without floats and doubles.
use Rattle.std.proofs.Common.{◌≡◌, ℕ, false, eqb, List, [], ◌∷◌, map, Option, Result, Ok, Err, refl, ap, ◌∙◌}
use Rattle.std.specs.Option.{option_map, option_or}
use Rattle.std.specs.List.{filter_map}
use Rattle.spk_protobuf.specs.Grammar.{Shape, Varint, Eight, Bytes, Four, Entry}
use Rattle.spk_payload.specs.declared.fault.PayloadFault.{PayloadFault}
use Rattle.spk_payload.specs.declared.values.Values.TheVariants as choice
use Rattle.spk_payload.specs.Meaning.{Content, MetricData, PayloadData, bytes_in, content_in, last, metric_of, whole_content, whole_metric, whole_payload, MeansMetric, MeanEach, MeansPayload}
use Rattle.spk_payload.specs.Reading.{payload_at, whole_result}
use Rattle.spk_payload.proofs.Metrics.{at_or_not, map_or}
use Rattle.spk_payload.proofs.Payloads.{payload_again, payload_fault, payload_fault_again, payload_takes}

abbrev at : ℕ → Shape → Entry
at n shape = record { number = n; shape = shape }

abbrev IsWhole : Entry → Type 0
IsWhole e = option_map whole_content (content_in choice.All e) ≡ content_in choice.Whole e

-- a fact of each number of a value, and of all others
by_number : (P : ℕ → Type 0) (n : ℕ) → P 10 → P 11 → P 12 → P 13 → P 14 → P 15 → P 16 → P 17 → P 18 → P 19
    → (eqb n 10 ≡ false → eqb n 11 ≡ false → eqb n 12 ≡ false → eqb n 13 ≡ false → eqb n 14 ≡ false → eqb n 15 ≡ false → eqb n 16 ≡ false → eqb n 17 ≡ false → eqb n 18 ≡ false → eqb n 19 ≡ false → P n) → P n
by_number P n p10 p11 p12 p13 p14 p15 p16 p17 p18 p19 other =
    at_or_not P 10 n p10 (λ f10. at_or_not P 11 n p11 (λ f11. at_or_not P 12 n p12 (λ f12. at_or_not P 13 n p13 (λ f13. at_or_not P 14 n p14 (λ f14. at_or_not P 15 n p15 (λ f15. at_or_not P 16 n p16 (λ f16. at_or_not P 17 n p17 (λ f17. at_or_not P 18 n p18 (λ f18. at_or_not P 19 n p19 (λ f19. other f10 f11 f12 f13 f14 f15 f16 f17 f18 f19))))))))))

whole_entry : (e : Entry) → IsWhole e
whole_entry e = by_shape e.number e.shape
  where
    by_shape : (n : ℕ) (shape : Shape) → IsWhole (at n shape)
    by_shape n (Varint v) = by_number (λ k. IsWhole (at k (Varint v))) n refl refl refl refl refl refl refl refl refl refl (λ f10 f11 f12 f13 f14 f15 f16 f17 f18 f19. rw (f10, f11, f12, f13, f14, f15, f16, f17, f18, f19) refl)
    by_shape n (Eight b) = by_number (λ k. IsWhole (at k (Eight b))) n refl refl refl refl refl refl refl refl refl refl (λ f10 f11 f12 f13 f14 f15 f16 f17 f18 f19. rw (f10, f11, f12, f13, f14, f15, f16, f17, f18, f19) refl)
    by_shape n (Bytes b) = by_number (λ k. IsWhole (at k (Bytes b))) n refl refl refl refl refl refl refl refl refl refl (λ f10 f11 f12 f13 f14 f15 f16 f17 f18 f19. rw (f10, f11, f12, f13, f14, f15, f16, f17, f18, f19) refl)
    by_shape n (Four b) = by_number (λ k. IsWhole (at k (Four b))) n refl refl refl refl refl refl refl refl refl refl (λ f10 f11 f12 f13 f14 f15 f16 f17 f18 f19. rw (f10, f11, f12, f13, f14, f15, f16, f17, f18, f19) refl)

both : {X : Type 0} {a b c d : Option X} → a ≡ b → c ≡ d → option_or a c ≡ option_or b d
both e f = cc

whole_last : (es : List Entry) → option_map whole_content (last (content_in choice.All) es) ≡ last (content_in choice.Whole) es
whole_last [] = refl
whole_last (e ∷ es) = map_or whole_content (last (content_in choice.All) es) (content_in choice.All e) ∙ both (whole_last es) (whole_entry e)

whole_of : (es : List Entry) → whole_metric (metric_of choice.All es) ≡ metric_of choice.Whole es
whole_of es = ap (λ (value : Option Content). record (metric_of choice.Whole es) { value = value }) (whole_last es)

whole_means : (text : List ℕ) (m : MetricData) → MeansMetric choice.All text m → MeansMetric choice.Whole text (whole_metric m)
whole_means text m h = record { fields = h.fields; are = h.are; texts = h.texts; is = ap whole_metric h.is ∙ whole_of h.fields }

whole_each : (texts : List (List ℕ)) (ms : List MetricData) → MeanEach choice.All texts ms → MeanEach choice.Whole texts (map whole_metric ms)
whole_each [] [] h = tt
whole_each [] (m ∷ ms) h = absurd h
whole_each (t ∷ ts) [] h = absurd h
whole_each (t ∷ ts) (m ∷ ms) h = (whole_means t m h.0, whole_each ts ms h.1)

pub whole_meaning : (text : List ℕ) (p : PayloadData) → MeansPayload choice.All text p → MeansPayload choice.Whole text (whole_payload p)
whole_meaning text p h = record { fields = h.fields; are = h.are; timestamp = h.timestamp; seq = h.seq; metrics = whole_each (filter_map (bytes_in 2) h.fields) p.metrics h.metrics }

pub whole_reading : (text : List ℕ) → payload_at choice.Whole text ≡ whole_result (payload_at choice.All text)
whole_reading text = by_result (payload_at choice.All text) refl
  where
    by_result : (r : Result PayloadData PayloadFault) → payload_at choice.All text ≡ r → payload_at choice.Whole text ≡ whole_result r
    by_result (Ok p) e = payload_again choice.Whole text (whole_payload p) (whole_meaning text p (payload_takes choice.All text p e))
    by_result (Err f) e = payload_fault_again choice.Whole text f (payload_fault choice.All text f e)
