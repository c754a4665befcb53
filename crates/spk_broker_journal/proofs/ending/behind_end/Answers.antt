use Rattle.std.proofs.Common.{subst, ◌∙◌}
use Rattle.spk_broker.specs.Fault.{IsUnknown}
use Rattle.spk_broker_rules.specs.Step.{knows}
use Rattle.spk_broker_journal.proofs.Ends.{unknown-end}
use Rattle.spk_broker_journal.proofs.ending.behind_end.Goals as goal

pub returns-in-Err-NoSuchConn : goal.returns-in-Err-NoSuchConn
returns-in-Err-NoSuchConn c =
    c.in-Err-NoSuchConn.ensures.err
    ∙ unknown-end c.args.broker c.args.conn c.routing.ensures.done
    (subst (IsUnknown (knows c.args.broker c.args.conn)) c.in-Err-NoSuchConn.field-0-is c.in-Err-NoSuchConn.ensures.fault)
