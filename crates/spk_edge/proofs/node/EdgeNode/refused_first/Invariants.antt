use Rattle.std.proofs.Common.{◌≡◌, ◌+◌, drop}
use Rattle.spk_edge_rules.specs.Rules.{first_fault, refused_first}
use Rattle.spk_edge.specs.Several.{pairs}
use Rattle.spk_edge.proofs.node.EdgeNode.refused_first.Given as goal

-- none so far: the first one that is refused is the first one of the rest
abbrev pub invariant-loop-place : goal.invariant-loop-place
invariant-loop-place l =
    first_fault l.self.standing.asked.book l.owner (0 + l.place) (drop l.place (pairs l.changes)) ≡ refused_first l.self.standing.asked.book (pairs l.changes)
