use Rattle.std.proofs.Common.{sym, ◌∙◌, refl}
use Rattle.spk_packets.specs.View.{view}
use Rattle.spk_plant_broker.proofs.Desks.{first_gives, nothing_gives, shut_gives}
use Rattle.spk_plant_broker.proofs.desk.Desk.first_packet.Goals as goal

pub returns-then-is_closed-clause-done : goal.returns-then-is_closed-clause-done
returns-then-is_closed-clause-done c limit r f none =
    shut_gives limit c.args.now r c.args.client (view c.args.packet.now) _ c.nothing.result
    (sym (c.is_closed.ensures limit r.closed r f) ∙ c.if-is_closed.true)
    (nothing_gives limit r _ c.nothing.result f none c.nothing.ensures)

pub returns-clause-done : goal.returns-clause-done
returns-clause-done c limit r f none =
    let opens = rw c.in-Some.is at c.in_ok-conn.ensures.some in
    let h = rw c.in-Some-2.is at c.in_ok-out.ensures.some in
    first_gives limit c.args.now r c.args.client c.in-Some.conn h.0 (view c.args.packet.now) c.open.new.self _ c.in-Some-2.out
    (opens limit r f) (sym (c.is_closed.ensures limit r.closed r f) ∙ c.if-is_closed.false) h.1 h.2 refl refl
