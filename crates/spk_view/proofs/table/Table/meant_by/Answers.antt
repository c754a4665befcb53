use Rattle.std.proofs.Common.{◌≡◌, ◌∙◌, sym, ap, List, Some}
use Rattle.std.specs.Prelude.{slice_get}
use Rattle.std.specs.Option.{option_copied}
use Rattle.spk_payload.specs.View.{metric_view}
use Rattle.spk_host_rules.specs.Data.{Row}
use Rattle.spk_host_rules.specs.Table.{is_name}
use Rattle.spk_view.specs.Prepared.{meaning}
use Rattle.spk_view.proofs.Places.{find-at, find-none, got}
use Rattle.spk_view.proofs.Rows.{same-name}
use Rattle.spk_view.proofs.table.Table.meant_by.Goals as goal

pub returns-in_err-place : goal.returns-in_err-place
returns-in_err-place c =
    ap option_copied c.from_residual.ensures
    ∙ sym (find-none (λ (r : Row). is_name (meaning c.args.self.now (metric_view c.args.metric.now)) r.name) c.args.self.now c.in_err-place.ensures.place)

pub returns : goal.returns
returns c =
    let row : Row = c.in_ok-place.ensures.place.0 in
    let at : slice_get c.args.self.now c.in_ok-place.place ≡ Some row = c.in_ok-place.ensures.place.1 in
    let same : c.deref.result.now ≡ c.args.self.now = c.deref.ensures.value ∙ c.self.view_is in
    got c.get.result c.deref.result.now c.in_ok-place.place row (ap (λ (l : List Row). slice_get l c.in_ok-place.place) same ∙ at) c.get.ensures.lookup.0 c.get.ensures.lookup.1
    ∙ sym (find-at (λ (r : Row). is_name (meaning c.args.self.now (metric_view c.args.metric.now)) r.name) c.args.self.now c.in_ok-place.place row at c.in_ok-place.ensures.place.2
    (λ j s there e. c.in_ok-place.ensures.apart j c.in_ok-place.place s row there at
    (same-name (meaning c.args.self.now (metric_view c.args.metric.now)) s.name row.name e c.in_ok-place.ensures.place.2)))
