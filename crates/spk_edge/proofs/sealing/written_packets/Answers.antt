use Rattle.std.proofs.Common.{◌∙◌, sym, ap, map}
use Rattle.std.proofs.lemmas.Result.{err_from_is_err_and}
use Rattle.std.specs.List.{list_all}
use Rattle.spk_packets.specs.Spelling as packet
use Rattle.spk_packets.specs.View.{view}
use Rattle.spk_edge_rules.specs.Writable.{is_writable}
use Rattle.spk_edge.proofs.Written.{bytes_more, unwritten_at, whole, writable_more}
use Rattle.spk_edge.proofs.sealing.written_packets.Goals as goal

pub loop-packet-preserved : goal.loop-packet-preserved
loop-packet-preserved c = record {
  bytes = bytes_more view c.loop-packet.out.items c.push.new.self.items c.in_ok-written.field-0 c.args.packets.now c.loop-packet.packet-index c.packet-item.result c.loop-packet-test.true c.packet-item.is c.loop-packet.invariant.bytes c.in_ok-push.ensures.items c.in_ok-written.ensures.bytes;
  writable = writable_more view c.args.packets.now c.loop-packet.packet-index c.packet-item.result c.loop-packet-test.true c.packet-item.is c.loop-packet.invariant.writable c.in_ok-written.ensures.writable;
}

pub returns-in_err-written-clause-fault : goal.returns-in_err-written-clause-fault
returns-in_err-written-clause-fault c =
    let p = err_from_is_err_and c.from_residual-in_err-written.result c.from_residual-in_err-written.ensures.1 in
    rw (p.1, p.2) (unwritten_at view c.args.packets.now c.loop-packet.packet-index c.packet-item.result c.in_err-written.field-0.0 c.loop-packet-test.true c.packet-item.is c.in_err-written.ensures.fault)

pub returns-clause-bytes : goal.returns-clause-bytes
returns-clause-bytes c =
    c.loop-packet.invariant.bytes ∙ ap (λ l. map packet.spelling (map view l)) (whole view c.args.packets.now c.loop-packet.packet-index c.loop-packet-test.false)

pub returns-clause-writable : goal.returns-clause-writable
returns-clause-writable c =
    ap (λ l. list_all is_writable (map view l)) (sym (whole view c.args.packets.now c.loop-packet.packet-index c.loop-packet-test.false)) ∙ c.loop-packet.invariant.writable
