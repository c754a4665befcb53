-- The session's number of a list of metrics with one more.
use Rattle.std.proofs.Common.{◌≡◌, ◌∙◌, ◌∷◌, ◌++◌, ◌<◌, ◌+◌, [], ℕ, Bool, true, false, List, Option, Some, refl, ap, sym, reverse, map, take, get_or, length, if◌then◌else◌, add-one}
use Rattle.std.proofs.Math.Seq.{take-suc}
use Rattle.std.proofs.lemmas.List.{reverse-append, map-append}
use Rattle.std.specs.List.{find}
use Rattle.std.specs.Option.{option_and_then}
use Rattle.spk_payload.specs.Meaning.{MetricData}
use Rattle.spk_payload.specs.View.{metric_view}
use Rattle.spk_payload.specs.declared.metric.Metric.{Metric}
use Rattle.spk_reading.specs.Meaning.{is_session, session_in, session_of}

picked : (b : Bool) (m : MetricData) (o : Option MetricData) →
    option_and_then session_in (if b then Some m else o) ≡ (if b then session_in m else option_and_then session_in o)
picked true m o = refl
picked false m o = refl

session_of_more : (ms : List MetricData) (m : MetricData) →
    session_of (ms ++ m ∷ []) ≡ (if is_session m then session_in m else session_of ms)
session_of_more ms m = rw (reverse-append ms (m ∷ [])) (picked (is_session m) m (find is_session (reverse ms)))

taken_more : (xs : List Metric) (i : ℕ) (x : Metric) → i < length xs → x ≡ get_or xs i x →
    map metric_view (take (i + 1) xs) ≡ map metric_view (take i xs) ++ metric_view x ∷ []
taken_more xs i x h e =
    ap (λ k. map metric_view (take k xs)) (add-one i)
    ∙ ap (map metric_view) (take-suc xs i x h)
    ∙ map-append metric_view (take i xs) (get_or xs i x ∷ [])
    ∙ ap (λ y. map metric_view (take i xs) ++ metric_view y ∷ []) (sym e)

pub session_step : (xs : List Metric) (i : ℕ) (x : Metric) → i < length xs → x ≡ get_or xs i x →
    session_of (map metric_view (take (i + 1) xs))
    ≡ (if is_session (metric_view x) then session_in (metric_view x) else session_of (map metric_view (take i xs)))
session_step xs i x h e =
    ap session_of (taken_more xs i x h e) ∙ session_of_more (map metric_view (take i xs)) (metric_view x)

pub if_then : {A : Type 0} (b : Bool) (s t : A) → b ≡ true → (if b then s else t) ≡ s
if_then b s t e = ap (λ x. if x then s else t) e

pub if_else : {A : Type 0} (b : Bool) (s t : A) → b ≡ false → (if b then s else t) ≡ t
if_else b s t e = ap (λ x. if x then s else t) e
