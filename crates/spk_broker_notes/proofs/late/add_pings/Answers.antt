use Rattle.std.proofs.Common.{sym, ◌∙◌}
use Rattle.spk_broker_notes.proofs.Pings.{going-on, going-over}
use Rattle.spk_broker_notes.proofs.late.add_pings.Goals as goal

pub returns-in_default-clause-added : goal.returns-in_default-clause-added
returns-in_default-clause-added c =
    going-over c.args.clock c.args.moment c.args.broker.now.sessions c.loop-at.at c.args.bytes.now.items c.loop-at.bytes.items c.loop-at.invariant (sym c.in_default.is ∙ c.session.ensures)

pub loop-at-preserved : goal.loop-at-preserved
loop-at-preserved c =
    going-on c.args.clock c.args.moment c.args.broker.now.sessions c.loop-at.at c.in-Some.session c.heard-conn.result c.args.bytes.now.items c.loop-at.bytes.items c.add_ping.new.bytes.items
    c.loop-at.invariant (sym c.in-Some.is ∙ c.session.ensures) c.heard-conn.ensures c.in_ok-add_ping.ensures.added
