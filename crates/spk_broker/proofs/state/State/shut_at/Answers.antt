use Rattle.spk_broker_rules.specs.Plan.{Leave}
use Rattle.spk_broker_rules.specs.Step.{act}
use Rattle.std.proofs.Common.{true}
use Rattle.spk_broker.proofs.Leaving.{order-left}
use Rattle.spk_broker.proofs.Standing.{tell-stands}
use Rattle.spk_broker.proofs.state.State.shut_at.Goals as goal

pub returns-clause-done : goal.returns-clause-done
returns-clause-done c t s =
    c.in_ok-ending.ensures.done _ (tell-stands c.leave_at.new.self c.leave_at.new.draft c.tell.new.self (act (Leave c.args.conn true) t) c.args.conn c.in_ok-tell.ensures
    (c.in_ok-leave_at.ensures.done t s))

pub route_near-requires-clause-order : goal.route_near-requires-clause-order
route_near-requires-clause-order c = order-left c.args.tree.now c.args.self.now c.leave_at.new.self c.leave_at.ensures.same c.in_ok-leave_at.ensures.keyed c.requires.order
