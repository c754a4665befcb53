use Rattle.std.proofs.Common.{◌≡◌, map, take}
use Rattle.spk_edge.specs.Several.{all_at, pairs}
use Rattle.spk_edge.specs.View.{change_view}
use Rattle.spk_edge.proofs.node.EdgeNode.kept_changes.Given as goal

-- those so far
abbrev pub invariant-loop-change : goal.invariant-loop-change
invariant-loop-change l = map change_view l.kept.items ≡ all_at l.self.standing.asked.book l.now (pairs (take l.change-index l.changes))
