use Rattle.std.proofs.Common.{Some, None, refl}
use Rattle.spk_broker_rules.specs.Plan as event
use Rattle.spk_plant_broker.specs.Step.{called_on}
use Rattle.spk_plant_broker.proofs.Desks.{answers_give, at_known, nothing_gives, same_fits}
use Rattle.spk_plant_broker.proofs.desk.Desk.fault.Goals as goal

pub returns-in_default-clause-done : goal.returns-in_default-clause-done
returns-in_default-clause-done c limit r f none =
    let h = rw c.in_default.is at c.in_ok-out.ensures.none in
    at_known limit r c.args.self.now.broker (called_on limit r (λ conn. event.Fault conn c.args.fault c.args.now)) (r.last c.args.client) c.conn_of-conn.result None _ c.nothing.result
    f.broker (c.conn_of-conn.ensures limit r.closed r f) h.1
    (nothing_gives limit r _ c.nothing.result (same_fits limit r.closed r c.args.self.now _ f h.0 refl refl) none c.nothing.ensures)

pub returns-clause-done : goal.returns-clause-done
returns-clause-done c limit r f none =
    let h = rw c.in-Some.is at c.in_ok-out.ensures.some in
    at_known limit r c.args.self.now.broker (called_on limit r (λ conn. event.Fault conn c.args.fault c.args.now)) (r.last c.args.client) c.conn_of-conn.result (Some h.0) _ c.in-Some.out
    f.broker (c.conn_of-conn.ensures limit r.closed r f) h.1 (answers_give limit r c.args.self.now _ (event.Fault h.0 c.args.fault c.args.now) c.in-Some.out f h.2 refl refl)
