use Rattle.spk_payload.specs.View.{metric_view}
use Rattle.spk_view.proofs.Rows.{shown-by-place}
use Rattle.spk_view.proofs.table.Table.show.Goals as goal

pub returns : goal.returns
returns c =
    shown-by-place c.args.self.now c.show_at.new.self (metric_view c.args.metric) c.place_changed-place.result
    c.place_changed-place.ensures.apart c.place_changed-place.ensures.place c.show_at.ensures.none c.show_at.ensures.there
