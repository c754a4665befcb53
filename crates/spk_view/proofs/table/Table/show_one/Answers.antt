use Rattle.std.proofs.Common.{◌∙◌, sym, ap, subst, set, ℕ, Option, string_bytes}
use Rattle.std.specs.Option.{option_map}
use Rattle.spk_payload.specs.Meaning.{Content, MetricData}
use Rattle.spk_payload.specs.View.{metric_view}
use Rattle.spk_host_rules.specs.Data.{Row}
use Rattle.spk_host_rules.specs.Table.{changes, shown_with}
use Rattle.spk_view.specs.Indexed.{IsPlaceOf}
use Rattle.spk_view.proofs.Showing.{changes-place, lost-alias}
use Rattle.spk_view.proofs.Rows.{shown-by-place}
use Rattle.spk_view.proofs.table.Table.show_one.Goals as goal

pub returns-clause-lacks : goal.returns-clause-lacks
returns-clause-lacks c =
    c.is_lost.ensures
    ∙ sym (lost-alias c.args.self.now c.args.metric.now.alias (option_map string_bytes c.args.metric.now.name) c.place_of-place.result c.place_of-place.ensures.place)

pub returns-clause-rows : goal.returns-clause-rows
returns-clause-rows c =
    let rows = c.args.self.now in
    let m : MetricData = metric_view c.args.metric.now in
    shown-by-place rows c.show_at.new.self m c.unless_historical-changed.result c.place_of-place.ensures.apart
    (subst (λ (o : Option ℕ). IsPlaceOf (λ (r : Row). changes rows r.name m) rows o) (sym c.unless_historical-changed.ensures)
    (changes-place rows m c.place_of-place.result c.place_of-place.ensures.place))
    c.show_at.ensures.none
    (λ k r is at. c.show_at.ensures.there k r is at
    ∙ ap (λ (v : Option Content). set rows k (record r { shown = shown_with r.datatype m.null v })) c.requires)
