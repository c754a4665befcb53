use Rattle.std.proofs.Common.{◌≡◌, ◌++◌, All, take}
use Rattle.std.specs.List.{flat_map}
use Rattle.spk_payload.specs.Spelling.{MetricFits}
use Rattle.spk_payload.proofs.Appended.{spelled, views}
use Rattle.spk_payload.proofs.writing.put_metrics.Given as goal

-- the metrics so far stand behind what was there
abbrev pub invariant-loop-metric : goal.invariant-loop-metric
invariant-loop-metric l = record {
  appended : l.out.items ≡ l.fn.out.items ++ flat_map spelled (views (take l.metric-index l.metrics));
  fit : All MetricFits (views (take l.metric-index l.metrics));
}
