use Rattle.std.proofs.Common.{◌≡◌, ◌∙◌, ap, sym, refl, rules, true, false}
use Rattle.std.specs.Option.{is_some}
use Rattle.spk_packets.specs.View.{view}
use Rattle.spk_broker.proofs.Near.{joined-in}
use Rattle.spk_broker.proofs.Packeted.{joined-is, packet-leads}
use Rattle.spk_broker.proofs.state.State.judge_packet.Goals as goal

pub returns-then-not-is_writable-clause-done : goal.returns-then-not-is_writable-clause-done
returns-then-not-is_writable-clause-done c seen t join older welcome heavy s =
    let e : c.is_writable.result ≡ false = search rules in
    packet-leads c.args.self.now c.shut_at.new.self c.args.draft.now c.shut_at.new.draft c.in_ok-ending.ending seen t c.args.conn (view c.args.packet.now) false seen.joined
    (sym c.is_writable.ensures ∙ e) refl (c.in_ok-ending.ensures.done t s)

pub returns-in-Some-clause-done : goal.returns-in-Some-clause-done
returns-in-Some-clause-done c seen t join older welcome heavy s =
    let e : c.is_writable.result ≡ true = search rules in
    packet-leads c.args.self.now c.further_packet.new.self c.args.draft.now c.further_packet.new.draft c.in_ok-ending-2.ending seen t c.args.conn (view c.args.packet.now) true true
    (sym c.is_writable.ensures ∙ e)
    (join ∙ sym (joined-is c.args.self.now c.args.draft.now t c.args.conn s)
    ∙ sym (joined-in c.args.conn c.args.self.now.sessions.items c.args.place c.requires.place) ∙ ap is_some c.in-Some.is)
    (c.in_ok-ending-2.ensures.done seen t heavy s)

pub returns-clause-done : goal.returns-clause-done
returns-clause-done c seen t join older welcome heavy s =
    let e : c.is_writable.result ≡ true = search rules in
    packet-leads c.args.self.now c.first_packet.new.self c.args.draft.now c.first_packet.new.draft c.in_ok-ending-3.ending seen t c.args.conn (view c.args.packet.now) true false
    (sym c.is_writable.ensures ∙ e)
    (join ∙ sym (joined-is c.args.self.now c.args.draft.now t c.args.conn s)
    ∙ sym (joined-in c.args.conn c.args.self.now.sessions.items c.args.place c.requires.place) ∙ ap is_some c.in_default.is)
    (c.in_ok-ending-3.ensures.done seen t older welcome s)
