use Rattle.std.proofs.Common.{map, drop}
use Rattle.spk_edge.specs.Listed.{births_from}
use Rattle.spk_edge.specs.Sealing.{bytes_of}
use Rattle.spk_edge.proofs.Bears.{IsSoFar}
use Rattle.spk_edge.proofs.node.EdgeNode.push_births.Given as goal

-- with the births of the devices that are left they are all
abbrev pub invariant-loop-number : goal.invariant-loop-number
invariant-loop-number l =
    IsSoFar l.self l.stamp (map bytes_of l.fn.packets.items) (map bytes_of l.packets.items) l.next
    (births_from l.self.config l.self.standing.asked.book l.stamp l.number (drop l.number l.self.standing.asked.book.devices))
