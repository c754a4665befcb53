use Rattle.std.proofs.Common.{◌≡◌, ◌++◌, take}
use Rattle.std.specs.Prelude.{All}
use Rattle.std.specs.List.{flat_map}
use Rattle.spk_payload.specs.Spelling.{MetricFits}
use Rattle.spk_edge.specs.Rows.{spelled}
use Rattle.spk_edge.specs.Several.{pairs, rows}
use Rattle.spk_edge.proofs.node.EdgeNode.put_changes.Given as goal

-- the metrics so far stand behind what was there
abbrev pub invariant-loop-change : goal.invariant-loop-change
invariant-loop-change l = record {
  appended : l.out.items ≡ l.fn.out.items ++ flat_map spelled (rows l.self.standing.asked.book l.stamp (pairs (take l.change-index l.changes)));
  fit : All MetricFits (rows l.self.standing.asked.book l.stamp (pairs (take l.change-index l.changes)));
}
