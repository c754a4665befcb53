use Rattle.spk_refusals.specs.Wrong.{IsTurnedPacket}
use Rattle.spk_refusals.proofs.Walks.{AreSoFar}
use Rattle.spk_refusals.proofs.turning.turn_packets.Given as goal

-- the first ones are turned, the others are as they were
abbrev pub invariant-loop-packet : goal.invariant-loop-packet
invariant-loop-packet l = AreSoFar (λ x y. IsTurnedPacket l.turn x.items y.items) l.packet-index l.initial.packets l.packets
