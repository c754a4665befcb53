use Rattle.std.proofs.Common.{◌≡◌, ◌+◌, ◌<◌, ◌∙◌, sym, ap, ℕ, Bool, List, map, drop, length, refl, arith}
use Rattle.std.specs.Prelude.{◌++◌, ◌||◌}
use Rattle.std.proofs.lemmas.List.{at_drop_more}
use Rattle.spk_payload.specs.Meaning.{MetricData}
use Rattle.std.specs.Option.{option_map}
use Rattle.spk_payload.specs.View.{content_of, metric_view}
use Rattle.spk_payload.specs.declared.metric.Metric.{Metric}
use Rattle.spk_host_rules.specs.Data.{Row}
use Rattle.spk_host_rules.specs.Step.{show, show_all}
use Rattle.spk_host_rules.specs.Table.{is_lacking, lacks}
use Rattle.spk_view.specs.Plain.{text_in, texts_in}
use Rattle.spk_view.proofs.Places.{any-more}
use Rattle.spk_view.proofs.Showing.{still-lacking, or-grouped}
use Rattle.spk_view.proofs.table.Table.show_each.Goals as goal

pub next_value-value-requires : goal.next_value-value-requires
next_value-value-requires c =
    let ms : List Metric = c.args.metrics.now in
    let i : ℕ = c.loop-metric.metric-index in
    let m : Metric = c.metric-item.result in
    let rest : List MetricData = map metric_view (drop (i + 1) ms) in
    let low : i < length ms = omega (arith, c.loop-metric-test.true) in (
      texts_in rest,
      c.loop-metric.invariant.left ∙ at_drop_more (λ (l : List Metric). texts_in (map metric_view l)) ms i m low
          ∙ ap (λ (n : Metric). text_in (metric_view n).value ++ texts_in rest) (sym c.metric-item.is),
    )

pub loop-metric-preserved : goal.loop-metric-preserved
loop-metric-preserved c =
    let ms : List Metric = c.args.metrics.now in
    let i : ℕ = c.loop-metric.metric-index in
    let m : Metric = c.metric-item.result in
    let rows : List Row = c.loop-metric.self in
    let rest : List MetricData = map metric_view (drop (i + 1) ms) in
    let any : Bool = c.loop-metric.is_any_lost in
    let low : i < length ms = omega (arith, c.loop-metric-test.true) in
    let left : map (option_map content_of) (drop c.loop-metric.place c.loop-metric.texts) ≡ text_in (metric_view m).value ++ texts_in rest =
    c.loop-metric.invariant.left ∙ at_drop_more (λ (l : List Metric). texts_in (map metric_view l)) ms i m low
    ∙ ap (λ (n : Metric). text_in (metric_view n).value ++ texts_in rest) (sym c.metric-item.is) in
    record {
      left = c.next_value-value.ensures.later (texts_in rest) left;
      shown = ap (show_all rest) c.show_one.ensures.rows
          ∙ ap (λ (y : Metric). show_all rest (show (metric_view y) rows)) c.metric-item.is
          ∙ sym (at_drop_more (λ (l : List Metric). show_all (map metric_view l) rows) ms i m low)
          ∙ c.loop-metric.invariant.shown;
      lacking = ap (λ b. b || is_lacking c.show_one.new.self rest) c.either-is_any_lost.ensures
          ∙ ap (λ (r : List Row). (any || c.show_one.result) || is_lacking r rest) c.show_one.ensures.rows
          ∙ ap (λ b. (any || c.show_one.result) || b) (still-lacking (metric_view m) rows rest)
          ∙ or-grouped any c.show_one.result (is_lacking rows rest)
          ∙ ap (λ b. any || (b || is_lacking rows rest)) c.show_one.ensures.lacks
          ∙ ap (λ b. any || b) (sym (any-more metric_view (λ (n : MetricData). lacks rows n.alias) ms i m (lacks rows m.alias) low c.metric-item.is refl))
          ∙ c.loop-metric.invariant.lacking;
    }
