use Rattle.std.proofs.Common.{◌≡◌, take}
use Rattle.spk_edge_rules.specs.Rules.{others_in}
use Rattle.spk_edge.specs.Several.{pairs}
use Rattle.spk_edge.proofs.node.EdgeNode.others_in.Given as goal

-- those of the changes so far that set something
abbrev pub invariant-loop-change : goal.invariant-loop-change
invariant-loop-change l = pairs l.others.items ≡ others_in l.self.standing.asked.book (pairs (take l.change-index l.changes))
