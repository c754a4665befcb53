use Rattle.std.proofs.Common.{◌≡◌, map, drop}
use Rattle.spk_payload.specs.View.{metric_view}
use Rattle.spk_host_rules.specs.Table.{table_from, table_of}
use Rattle.spk_view.specs.Indexed.{IsIndexed}
use Rattle.spk_view.proofs.table.Table.born.Given as goal

-- the rest of the metrics makes the whole table of what is there
abbrev pub invariant-loop-metric : goal.invariant-loop-metric
invariant-loop-metric l = record {
  indexed : IsIndexed l.rows.items l.names.keys l.aliases;
  rows : table_from l.rows.items (map metric_view (drop l.metric-index l.metrics)) ≡ table_of (map metric_view l.metrics);
}
