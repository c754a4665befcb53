use Rattle.std.proofs.Common.{◌≡◌, ◌⊎◌, ◌≤◌, ◌++◌, length, take}
use Rattle.std.specs.Prelude.{All}
use Rattle.std.specs.List.{flat_map}
use Rattle.spk_payload.specs.Spelling.{MetricFits}
use Rattle.spk_edge.specs.History.{all_kept}
use Rattle.spk_edge.specs.Rows.{spelled}
use Rattle.spk_edge.proofs.node.EdgeNode.put_first.Given as goal

-- the changes so far stand behind what was there, and stay within the limit
abbrev pub invariant-loop-place : goal.invariant-loop-place
invariant-loop-place l = record {
  appended : l.out.items ≡ l.fn.out.items ++ flat_map spelled (take l.place (all_kept l.self.standing.asked));
  fit : All MetricFits (take l.place (all_kept l.self.standing.asked));
  few : l.place ≤ l.most;
  within : (l.place ≡ 0) ⊎ (length l.out.items ≤ l.limit);
}
