use Rattle.std.proofs.Common.{arith, inl, inr, refl}
use Rattle.spk_packets.specs.View.{publish_view}
use Rattle.spk_reading.proofs.Wholes.{no_other, no_packet}
use Rattle.spk_reading.proofs.reading.publish_in.Goals as goal

pub returns-then-size-bytes-clause-fault : goal.returns-then-size-bytes-clause-fault
returns-then-size-bytes-clause-fault c =
    inr (refl, no_other c.args.bytes.now (publish_view c.in-Ok.packet, c.in-Ok.size) c.in-Ok.ensures.only (λ e. omega (arith, e, c.if-size-bytes.true)))

pub returns-in-Err : goal.returns-in-Err
returns-in-Err c = record {
  found = tt;
  fault = elim c.fault_of.ensures [
    | inl e ↦ inl e
    | inr h ↦ inr (h.0, no_packet c.args.bytes.now c.in-Err.fault c.in-Err.ensures.only h.1)
  ];
}
