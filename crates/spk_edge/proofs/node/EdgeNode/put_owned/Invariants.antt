use Rattle.std.proofs.Common.{◌≡◌, ◌++◌, take}
use Rattle.std.specs.Prelude.{All}
use Rattle.std.specs.List.{flat_map}
use Rattle.spk_payload.specs.Spelling.{MetricFits}
use Rattle.spk_edge_rules.specs.Births.{own_metrics}
use Rattle.spk_edge.specs.Rows.{spelled}
use Rattle.spk_edge.proofs.node.EdgeNode.put_owned.Given as goal

-- the metrics so far stand behind what was there
abbrev pub invariant-loop-place : goal.invariant-loop-place
invariant-loop-place l = record {
  appended : l.out.items ≡ l.fn.out.items ++ flat_map spelled (take l.place (own_metrics l.self.standing.asked.book l.stamp l.owner));
  fit : All MetricFits (take l.place (own_metrics l.self.standing.asked.book l.stamp l.owner));
}
