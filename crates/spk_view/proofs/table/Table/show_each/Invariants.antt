use Rattle.std.proofs.Common.{◌≡◌, map, drop}
use Rattle.std.specs.Prelude.{◌||◌}
use Rattle.std.specs.Option.{option_map}
use Rattle.spk_payload.specs.View.{content_of, metric_view}
use Rattle.spk_host_rules.specs.Step.{show_all}
use Rattle.spk_host_rules.specs.Table.{is_lacking}
use Rattle.spk_view.specs.Plain.{texts_in}
use Rattle.spk_view.proofs.table.Table.show_each.Given as goal

-- the rest of the metrics has the rest of the texts, shows what all show, and lacks an alias where none before it does
abbrev pub invariant-loop-metric : goal.invariant-loop-metric
invariant-loop-metric l = record {
  left : map (option_map content_of) (drop l.place l.texts) ≡ texts_in (map metric_view (drop l.metric-index l.metrics));
  shown : show_all (map metric_view (drop l.metric-index l.metrics)) l.self ≡ show_all (map metric_view l.metrics) l.fn.self;
  lacking : (l.is_any_lost || is_lacking l.self (map metric_view (drop l.metric-index l.metrics))) ≡ is_lacking l.fn.self (map metric_view l.metrics);
}
