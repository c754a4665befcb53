use Rattle.std.proofs.Common.{inl, inr, refl}
use Rattle.spk_packets.specs.View.{view}
use Rattle.spk_reading.proofs.Wholes.{no_other, no_packet}
use Rattle.spk_reading.proofs.reading.packet_in.Goals as goal

pub returns-else-size-bytes-clause-fault : goal.returns-else-size-bytes-clause-fault
returns-else-size-bytes-clause-fault c =
    inr (refl, no_other c.args.bytes.now (view c.in-Ok.packet, c.in-Ok.size) c.in-Ok.ensures.only c.if-size-bytes.false)

pub returns-in-Err : goal.returns-in-Err
returns-in-Err c = record {
  found = tt;
  fault = elim c.fault_of.ensures [
    | inl e ↦ inl e
    | inr h ↦ inr (h.0, no_packet c.args.bytes.now c.in-Err.fault c.in-Err.ensures.only h.1)
  ];
}
