use Rattle.std.proofs.Common.{Some, None, refl}
use Rattle.std.proofs.lemmas.Result.{IfOk-weaker}
use Rattle.spk_packets.specs.View.{view}
use Rattle.spk_broker_rules.specs.Plan as event
use Rattle.spk_plant_broker.specs.Step.{packet_on}
use Rattle.spk_plant_broker.proofs.Desks.{answers_give, at_known, same_fits}
use Rattle.spk_plant_broker.proofs.desk.Desk.packet.Goals as goal

pub returns-in_default-clause-done : goal.returns-in_default-clause-done
returns-in_default-clause-done c =
    let h = rw c.in_default.is at c.in_ok-out.ensures.none in
    IfOk-weaker c.first_packet.result _ _
    (λ out g limit r f none.
    at_known limit r c.args.self.now.broker (packet_on limit c.args.now r c.args.client (view c.args.packet.now)) (r.last c.args.client) c.conn_of-conn.result None _ out
    f.broker (c.conn_of-conn.ensures limit r.closed r f) h.1
    (g limit r (same_fits limit r.closed r c.args.self.now _ f h.0 refl refl) none))
    c.first_packet.ensures.done

pub returns-clause-done : goal.returns-clause-done
returns-clause-done c limit r f none =
    let h = rw c.in-Some.is at c.in_ok-out.ensures.some in
    at_known limit r c.args.self.now.broker (packet_on limit c.args.now r c.args.client (view c.args.packet.now)) (r.last c.args.client) c.conn_of-conn.result (Some h.0) _ c.in-Some.out
    f.broker (c.conn_of-conn.ensures limit r.closed r f) h.1
    (answers_give limit r c.args.self.now _ (event.Packet h.0 (view c.args.packet.now) c.args.now) c.in-Some.out f h.2 refl refl)
