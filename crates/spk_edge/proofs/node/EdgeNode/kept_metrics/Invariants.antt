use Rattle.std.proofs.Common.{◌≡◌, ◌⊎◌, ◌+◌, ◌≤◌, length, map, take}
use Rattle.std.specs.List.{flat_map}
use Rattle.spk_payload.specs.View.{metric_view}
use Rattle.spk_edge.specs.History.{all_kept}
use Rattle.spk_edge.specs.Rows.{spelled}
use Rattle.spk_edge.proofs.node.EdgeNode.kept_metrics.Given as goal

-- the metrics of the changes so far, and how many bytes they have
abbrev pub invariant-loop-place : goal.invariant-loop-place
invariant-loop-place l = record {
  taken : map metric_view l.metrics.items ≡ take l.place (all_kept l.self.standing.asked);
  size : l.size ≡ l.base + length (flat_map spelled (take l.place (all_kept l.self.standing.asked)));
  few : l.place ≤ l.most;
  within : (l.place ≡ 0) ⊎ (l.size ≤ l.limit);
}
