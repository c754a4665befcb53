use Rattle.std.proofs.Common.{◌≡◌, ◌∙◌, sym, ap, arith, map, ◌∷◌, [], Some}
use Rattle.std.proofs.lemmas.List.{length-map, map-append}
use Rattle.spk_device.specs.declared.gauge.Gauge.{Gauge}
use Rattle.spk_device.specs.declared.owner.Owner.{Owner}
use Rattle.std.specs.Option.{option_map}
use Rattle.std.specs.Prelude.{ℕ, List, slice_get}
use Rattle.spk_payload.specs.View.{metric_view}
use Rattle.spk_device.specs.Book.{Book}
use Rattle.spk_device.specs.Lawful.{metric_names}
use Rattle.spk_device.specs.View.{gauge_view}
use Rattle.spk_device.proofs.IndexLemmas.{births-step, named-within, value-of}
use Rattle.spk_device.proofs.registry.Registry.births.Goals as goal

-- the place that the table has at a turn
place : (owner : Owner) (i p : ℕ) (table : List (List ℕ × ℕ)) (before : Book) (gs : List Gauge)
    → Some p ≡ option_map (λ (e : List ℕ × ℕ). e.1) (slice_get table i) → table ≡ metric_names owner before.gauges
    → before.gauges ≡ map gauge_view gs
    → Some p ≡ option_map (λ (e : List ℕ × ℕ). e.1) (slice_get (metric_names owner (map gauge_view gs)) i)
place owner i p table before gs h is same =
    h ∙ ap (λ (l : List (List ℕ × ℕ)). option_map (λ (e : List ℕ × ℕ). e.1) (slice_get l i)) (is ∙ ap (metric_names owner) same)

pub index-requires : goal.index-requires
index-requires c =
    let low = named-within c.args.owner c.self.inside.gauges.items c.loop-i.i c.at-place.result
    (place c.args.owner c.loop-i.i c.at-place.result c.in-Some.table.now c.args.self.now c.self.inside.gauges.items
    c.at-place.ensures c.in-Some.ensures.names (ap (λ (b : Book). b.gauges) (sym c.self.view_is))) in
    omega arith

pub birth-requires-clause-fits : goal.birth-requires-clause-fits
birth-requires-clause-fits c =
    let low = named-within c.args.owner c.self.inside.gauges.items c.loop-i.i c.at-place.result
    (place c.args.owner c.loop-i.i c.at-place.result c.in-Some.table.now c.args.self.now c.self.inside.gauges.items
    c.at-place.ensures c.in-Some.ensures.names (ap (λ (b : Book). b.gauges) (sym c.self.view_is))) in
    let few = c.self.invariant.lawful.few_gauges in
    let size = length-map c.self.inside.gauges.items gauge_view in
    omega arith

pub birth-requires-clause-value : goal.birth-requires-clause-value
birth-requires-clause-value c =
    value-of c.self.inside.gauges.items c.at-place.result c.index.result.now c.self.invariant.lawful.values
    (named-within c.args.owner c.self.inside.gauges.items c.loop-i.i c.at-place.result
    (place c.args.owner c.loop-i.i c.at-place.result c.in-Some.table.now c.args.self.now c.self.inside.gauges.items
    c.at-place.ensures c.in-Some.ensures.names (ap (λ (b : Book). b.gauges) (sym c.self.view_is))))
    c.index.ensures

pub loop-i-preserved : goal.loop-i-preserved
loop-i-preserved c =
    let step = births-step c.args.owner c.self.inside.gauges.items (map metric_view c.loop-i.metrics.items) c.loop-i.i c.at-place.result
    c.index.result.now (metric_view c.in_ok-birth.field-0)
    (place c.args.owner c.loop-i.i c.at-place.result c.in-Some.table.now c.args.self.now c.self.inside.gauges.items
    c.at-place.ensures c.in-Some.ensures.names (ap (λ (b : Book). b.gauges) (sym c.self.view_is)))
    c.index.ensures c.in_ok-birth.ensures c.loop-i.invariant in
    ap (map metric_view) c.in_ok-push.ensures.items
    ∙ map-append metric_view c.loop-i.metrics.items (c.in_ok-birth.field-0 ∷ [])
    ∙ step
