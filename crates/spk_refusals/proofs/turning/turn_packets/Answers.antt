use Rattle.std.proofs.Common.{◌≡◌, ℕ, suc, ◌+◌, ◌<◌, length, set, subst, arith, Vec}
use Rattle.std.specs.declared.alloc.Global.{Global}
use Rattle.spk_refusals.specs.Wrong.{IsTurnedPacket}
use Rattle.spk_refusals.proofs.Walks.{AreSoFar, each-step, each-all}
use Rattle.spk_refusals.proofs.turning.turn_packets.Goals as goal

pub loop-packet-preserved : goal.loop-packet-preserved
loop-packet-preserved c =
    let R : Vec ℕ Global → Vec ℕ Global → Type 0 = λ x y. IsTurnedPacket c.args.turn x.items y.items in
    let i = c.loop-packet.packet-index in
    let now = c.loop-packet.packets in
    let new = c.turn_packet.new.packet in
    let below : i < length now = omega arith in
    let next : suc i ≡ i + 1 = omega arith in
    subst (λ k. AreSoFar R k c.args.packets.now (set now i new)) next
    (each-step R i c.args.packets.now now c.packet-item.result new c.loop-packet.invariant below c.turn_packet.ensures)

pub returns : goal.returns
returns c =
    each-all (λ x y. IsTurnedPacket c.args.turn x.items y.items) c.loop-packet.packet-index c.args.packets.now c.loop-packet.packets c.loop-packet.invariant (omega arith)
