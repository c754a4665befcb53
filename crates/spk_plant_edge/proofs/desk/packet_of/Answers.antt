use Rattle.std.proofs.Common.{◌≡◌, Option, None}
use Rattle.std.proofs.lemmas.Result.{IfOk-weaker}
use Rattle.spk_packets.specs.declared.fault.PacketFault.TheVariants.{NoMemory}
use Rattle.spk_packets.specs.declared.packet.Packet.{Packet}
use Rattle.spk_plant_edge.specs.At.{IsReadAs}
use Rattle.spk_plant_edge.proofs.Hearing.{not-whole, unread-is}
use Rattle.spk_plant_edge.proofs.desk.packet_of.Goals as goal

pub returns-in-Err : goal.returns-in-Err
returns-in-Err c = record {
  read = IfOk-weaker c.unread.result (λ (p : Option Packet). (p ≡ None) × (c.in-Err.fault ≡ NoMemory → ⊥)) (λ (p : Option Packet). IsReadAs c.args.bytes.now p)
      (λ p h. unread-is c.args.bytes.now c.in-Err.fault p h.0 h.1 c.in-Err.ensures.only) c.unread.ensures.none;
}

pub returns-then-count-bytes : goal.returns-then-count-bytes
returns-then-count-bytes c = record { read = not-whole c.args.bytes.now c.in-Ok.front c.if-count-bytes.true c.in-Ok.ensures.only }
