use Rattle.std.proofs.Common.{◌≡◌, ◌++◌, map, drop}
use Rattle.spk_edge_rules.specs.Births.{births_at}
use Rattle.spk_edge.specs.Listed.{births_from}
use Rattle.spk_edge.specs.View.{message_view, unnumbered}
use Rattle.spk_edge.proofs.node.EdgeNode.births.Given as goal

-- with the births of the devices that are left they are all
abbrev pub invariant-loop-number : goal.invariant-loop-number
invariant-loop-number l =
    map message_view l.messages.items ++ births_from l.self.config l.self.standing.asked.book l.stamp l.number (drop l.number l.self.standing.asked.book.devices)
    ≡ map (unnumbered l.self.config) (births_at l.self.standing.asked.book l.self.standing.asked.will_bd l.stamp)
