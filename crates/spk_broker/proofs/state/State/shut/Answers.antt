use Rattle.spk_broker_rules.specs.Plan.{Leave}
use Rattle.spk_broker_rules.specs.Step.{act}
use Rattle.std.proofs.Common.{true}
use Rattle.spk_broker.proofs.Standing.{tell-stands}
use Rattle.spk_broker.proofs.state.State.shut.Goals as goal

pub returns-clause-done : goal.returns-clause-done
returns-clause-done c t s =
    c.in_ok-route.ensures.done _ (tell-stands c.leave.new.self c.leave.new.draft c.tell.new.self (act (Leave c.args.conn true) t) c.args.conn c.in_ok-tell.ensures
    (c.in_ok-leave.ensures.done t s))
