use Rattle.std.proofs.Common.{◌++◌, map, sym, ◌∙◌}
use Rattle.spk_broker_journal.specs.Ending.{newcomer_conn}
use Rattle.spk_broker_journal.proofs.Ends.{next-newcomer, no-newcomers}
use Rattle.spk_broker_journal.proofs.ending.add_waiting.Goals as goal

pub returns-in_default : goal.returns-in_default
returns-in_default c =
    no-newcomers c.args.broker.now.newcomers c.loop-at.at c.loop-at.conns.items (c.args.conns.now.items ++ map newcomer_conn c.args.broker.now.newcomers) c.loop-at.invariant
    (sym c.in_default.is ∙ c.connection.ensures)

pub loop-at-preserved : goal.loop-at-preserved
loop-at-preserved c =
    next-newcomer c.args.broker.now.newcomers c.loop-at.at c.in-Some.conn c.loop-at.conns.items c.push.new.self.items (c.args.conns.now.items ++ map newcomer_conn c.args.broker.now.newcomers)
    c.loop-at.invariant (sym c.in-Some.is ∙ c.connection.ensures) c.in_ok-push.ensures.items
