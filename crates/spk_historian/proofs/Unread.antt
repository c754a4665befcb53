-- A payload without its values that aren't read is spelled as it was.
use Rattle.std.proofs.Common.{◌≡◌, ℕ, ◌*◌, List, [], ◌∷◌, ◌++◌, map, Option, Some, None, All, IfSome, refl, sym, subst, ap, ◌∙◌}
use Rattle.std.specs.List.{flat_map}
use Rattle.std.proofs.lemmas.List.Elements.{All-head, All-tail}
use Rattle.spk_protobuf.specs.Spelling.{bytes_field}
use Rattle.spk_payload.specs.Meaning.{Content, Int, Long, Flag, Words, Octets, Float, Double, Other, MetricData, PayloadData}
use Rattle.spk_payload.specs.Spelling.{ContentFits, MetricFits, PayloadFits, bit, content_spelling, if_there, metric_spelling, number_field, spelling}
use Rattle.spk_historian.specs.Kept.{kept_metric, kept_payload, kept_value}

value_same : (v : Option Content) → if_there content_spelling (kept_value v) ≡ if_there content_spelling v
value_same None = refl
value_same (Some Other) = refl
value_same (Some (Int n)) = refl
value_same (Some (Long n)) = refl
value_same (Some (Flag b)) = refl
value_same (Some (Words bytes)) = refl
value_same (Some (Octets bytes)) = refl
value_same (Some (Float n)) = refl
value_same (Some (Double n)) = refl

metric_same : (m : MetricData) → metric_spelling (kept_metric m) ≡ metric_spelling m
unfolding metric_spelling
metric_same m =
    ap (λ t. if_there (bytes_field 1) m.name
    ++ if_there (number_field (2 * 8)) m.alias
    ++ if_there (number_field (3 * 8)) m.timestamp
    ++ if_there (number_field (4 * 8)) m.datatype
    ++ if_there (λ b. number_field (5 * 8) (bit b)) m.historical
    ++ if_there (λ b. number_field (6 * 8) (bit b)) m.transient
    ++ if_there (λ b. number_field (7 * 8) (bit b)) m.null
    ++ t) (value_same m.value)

metrics_same : (ms : List MetricData) → flat_map (λ m. bytes_field 2 (metric_spelling m)) (map kept_metric ms) ≡ flat_map (λ m. bytes_field 2 (metric_spelling m)) ms
metrics_same [] = refl
metrics_same (m ∷ ms) =
    ap (λ t. bytes_field 2 t ++ flat_map (λ m. bytes_field 2 (metric_spelling m)) (map kept_metric ms)) (metric_same m)
    ∙ ap (λ t. bytes_field 2 (metric_spelling m) ++ t) (metrics_same ms)

pub spelled_same : (p : PayloadData) → spelling (kept_payload p) ≡ spelling p
unfolding spelling
spelled_same p = ap (λ t. if_there (number_field (1 * 8)) p.timestamp ++ t ++ if_there (number_field (3 * 8)) p.seq) (metrics_same p.metrics)

-- ---- a payload that can be spelled has no such value

all_kept : (v : Option Content) → IfSome v ContentFits → kept_value v ≡ v
all_kept None fits = refl
all_kept (Some Other) fits = absurd fits
all_kept (Some (Int n)) fits = refl
all_kept (Some (Long n)) fits = refl
all_kept (Some (Flag b)) fits = refl
all_kept (Some (Words bytes)) fits = refl
all_kept (Some (Octets bytes)) fits = refl
all_kept (Some (Float n)) fits = refl
all_kept (Some (Double n)) fits = refl

metrics_kept : (ms : List MetricData) → All MetricFits ms → map kept_metric ms ≡ ms
metrics_kept [] fits = refl
metrics_kept (m ∷ ms) fits =
    ap (λ v. (record m { value = v }) ∷ map kept_metric ms) (all_kept m.value (All-head MetricFits m ms fits).value) ∙ ap (λ t. m ∷ t) (metrics_kept ms (All-tail MetricFits m ms fits))

pub payload_kept : (p : PayloadData) → PayloadFits p → PayloadFits (kept_payload p)
payload_kept p fits = subst (λ ms. PayloadFits (record p { metrics = ms })) (sym (metrics_kept p.metrics fits.metrics)) fits
