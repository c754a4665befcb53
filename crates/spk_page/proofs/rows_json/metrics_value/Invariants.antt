use Rattle.std.proofs.Common.{◌≡◌, map}
use Rattle.std.specs.Prelude.{take}
use Rattle.serde_json.specs.View.{view}
use Rattle.spk_page.specs.Rows.{metric_data}
use Rattle.spk_page.proofs.rows_json.metrics_value.Given as goal

-- the values of the metrics so far
abbrev pub invariant-loop-metric : goal.invariant-loop-metric
invariant-loop-metric l = map view l.items.items ≡ map metric_data (take l.metric-index l.metrics)
