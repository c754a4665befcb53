use Rattle.std.proofs.Common.{◌≡◌, ◌+◌, ◌<◌, ◌∙◌, sym, ap, refl, arith, ℕ, suc, List, ◌∷◌, map, length, drop, get_or, set, Some}
use Rattle.std.proofs.lemmas.List.{at_drop_more, length-map, length-set}
use Rattle.std.proofs.lemmas.Option.{slice_get-map, slice_get_read}
use Rattle.std.specs.Option.{option_map}
use Rattle.std.specs.Prelude.{slice_get}
use Rattle.spk_payload.specs.Meaning.{MetricData}
use Rattle.spk_payload.specs.View.{metric_view}
use Rattle.spk_payload.specs.declared.metric.Metric.{Metric}
use Rattle.spk_host_rules.specs.Data.{Row, Shown}
use Rattle.spk_host_rules.specs.View.{shown_view}
use Rattle.spk_view.specs.Rebirth.{own_shown, renewed}
use Rattle.spk_view.proofs.Anew.{head-same, paired, paired-all, paired-more, tail-same}
use Rattle.spk_view.proofs.rebirth.bear_all.Goals as goal

pub index_mut-requires : goal.index_mut-requires
index_mut-requires c =
    omega (arith, ap length c.in-Some.ensures.steps.0, c.loop-shown.invariant.count, c.loop-shown.invariant.size, c.loop-shown.rows.ok.0)

pub loop-shown-preserved : goal.loop-shown-preserved
loop-shown-preserved c =
    let old : List Row = c.args.rows.now.items in
    let rows : List Row = c.loop-shown.rows.items in
    let ms : List Metric = c.args.metrics.now in
    let says : List MetricData = map metric_view ms in
    let i : ℕ = c.loop-shown.place in
    let m : Metric = c.index-metrics-place.result in
    let r : Row = c.index_mut.result.now in
    let rest = ap length c.in-Some.ensures.steps.0 in
    let low : i < length ms = omega (arith, rest, c.loop-shown.invariant.count) in
    let within : i < length rows = omega (arith, low, c.loop-shown.invariant.size) in
    let both : shown_view c.in-Some.shown ∷ map shown_view c.next.new.self.rest.items
    ≡ own_shown (metric_view (get_or ms i m)) ∷ map own_shown (map metric_view (drop (i + 1) ms)) =
    ap (map shown_view) (sym c.in-Some.ensures.steps.0) ∙ c.loop-shown.invariant.rest ∙ at_drop_more (λ l. map own_shown (map metric_view l)) ms i m low in
    let at : slice_get (paired i old says) i ≡ Some r =
    ap (λ l. slice_get l i) (sym c.loop-shown.invariant.rows) ∙ slice_get_read rows (length rows) i r refl within c.index_mut.ensures.value in
    let said : slice_get says i ≡ Some (metric_view m) =
    slice_get-map metric_view ms i ∙ ap (option_map metric_view) (slice_get_read ms (length ms) i m refl low c.index-metrics-place.is) in
    let same : suc i ≡ i + 1 = omega arith in
    record {
      count = omega (arith, rest, c.loop-shown.invariant.count);
      size = length-set rows i c.bear.new.self ∙ c.loop-shown.invariant.size;
      rest = tail-same both;
      rows = ap (set rows i) (c.bear.ensures
          ∙ ap (λ (n : Metric). record r { datatype = n.datatype; shown = shown_view c.in-Some.shown }) (sym c.index-metrics-place.is)
          ∙ ap (λ (s : Shown). record r { datatype = m.datatype; shown = s }) (head-same both ∙ ap (λ (n : Metric). own_shown (metric_view n)) (sym c.index-metrics-place.is)))
          ∙ ap (λ l. set l i (renewed (r, metric_view m))) c.loop-shown.invariant.rows
          ∙ paired-more old says i r (metric_view m) at said
          ∙ ap (λ k. paired k old says) same;
    }

pub returns : goal.returns
returns c =
    c.loop-shown.invariant.rows
    ∙ paired-all c.args.rows.now.items (map metric_view c.args.metrics.now) c.loop-shown.place c.requires.alike
    (omega (arith, length-map c.args.metrics.now metric_view, c.loop-shown.invariant.count, c.in-None.ensures.steps.0, c.loop-shown.shown-iterator.rest.ok.0))
