use Rattle.std.proofs.Common.{◌∙◌, sym, ap, map, subst, List}
use Rattle.std.proofs.lemmas.Result.{err_from_is_err_and}
use Rattle.std.specs.List.{list_all}
use Rattle.spk_packets.specs.Spelling as packet
use Rattle.spk_edge_rules.specs.Writable.{is_writable}
use Rattle.spk_edge.specs.Sealing.{AreKnown, AreWhole, IsWhole, wire_of}
use Rattle.spk_edge.specs.View.{message_view}
use Rattle.spk_edge.specs.declared.message.Published.{Published}
use Rattle.spk_edge.proofs.Written.{bytes_more, known_at, unwritten_at, whole, wholes_more, writable_more}
use Rattle.spk_edge.proofs.sealing.written_messages.Goals as goal

pub loop-message-preserved : goal.loop-message-preserved
loop-message-preserved c = record {
  bytes = bytes_more (λ m. wire_of (message_view m)) c.loop-message.out.items c.push.new.self.items c.in_ok-written_message.field-0 c.args.messages.now c.loop-message.message-index c.message-item.result c.loop-message-test.true c.message-item.is c.loop-message.invariant.bytes c.in_ok-push.ensures.items c.in_ok-written_message.ensures.bytes;
  writable = writable_more (λ m. wire_of (message_view m)) c.args.messages.now c.loop-message.message-index c.message-item.result c.loop-message-test.true c.message-item.is c.loop-message.invariant.writable c.in_ok-written_message.ensures.writable;
  whole = wholes_more message_view IsWhole c.args.messages.now c.loop-message.message-index c.message-item.result c.loop-message-test.true c.message-item.is c.loop-message.invariant.whole c.in_ok-written_message.ensures.whole;
}

pub written_message-requires : goal.written_message-requires
written_message-requires c =
    known_at (λ (m : Published). AreKnown (message_view m).payload.metrics) c.args.messages.now c.loop-message.message-index c.message-item.result c.loop-message-test.true c.message-item.is c.requires

pub returns-in_err-written_message-clause-fault : goal.returns-in_err-written_message-clause-fault
returns-in_err-written_message-clause-fault c =
    let p = err_from_is_err_and c.from_residual-in_err-written_message.result c.from_residual-in_err-written_message.ensures.1 in
    rw (p.1, p.2) (unwritten_at (λ m. wire_of (message_view m)) c.args.messages.now c.loop-message.message-index c.message-item.result c.in_err-written_message.field-0.0 c.loop-message-test.true c.message-item.is c.in_err-written_message.ensures.fault)

pub returns-clause-bytes : goal.returns-clause-bytes
returns-clause-bytes c =
    c.loop-message.invariant.bytes ∙ ap (λ l. map packet.spelling (map (λ m. wire_of (message_view m)) l)) (whole (λ m. wire_of (message_view m)) c.args.messages.now c.loop-message.message-index c.loop-message-test.false)

pub returns-clause-writable : goal.returns-clause-writable
returns-clause-writable c =
    ap (λ l. list_all is_writable (map (λ m. wire_of (message_view m)) l)) (sym (whole (λ m. wire_of (message_view m)) c.args.messages.now c.loop-message.message-index c.loop-message-test.false)) ∙ c.loop-message.invariant.writable

pub returns-clause-whole : goal.returns-clause-whole
returns-clause-whole c =
    subst (λ (l : List Published). AreWhole (map message_view l)) (whole (λ m. wire_of (message_view m)) c.args.messages.now c.loop-message.message-index c.loop-message-test.false) c.loop-message.invariant.whole
