use Rattle.spk_broker.proofs.Leaving.{order-left}
use Rattle.spk_broker.proofs.state.State.take_over.Goals as goal

pub route-requires-clause-order : goal.route-requires-clause-order
route-requires-clause-order c =
    order-left c.args.tree.now c.args.self.now c.leave.new.self c.leave.ensures.same (λ keyed. c.in_ok-leave.ensures.keyed keyed) c.requires.order
