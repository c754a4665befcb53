use Rattle.std.proofs.Common.{sym, ◌∙◌}
use Rattle.spk_broker_snapshot.specs.Lines.{session_lines}
use Rattle.spk_broker_journal.proofs.Records.{begins-both, lines-fail, next-lines, no-lines}
use Rattle.spk_broker_journal.proofs.putting.add_sessions.Goals as goal

pub returns-in_default-clause-added : goal.returns-in_default-clause-added
returns-in_default-clause-added c =
    no-lines session_lines c.args.broker.now.sessions c.loop-at.at c.args.out.now.items c.loop-at.out.items c.loop-at.invariant (sym c.in_default.is ∙ c.session.ensures)

pub returns-in-Err-clause-refused : goal.returns-in-Err-clause-refused
returns-in-Err-clause-refused c =
    lines-fail c.in-Err.fault session_lines c.args.broker.now.sessions c.loop-at.at c.in-Some.session c.args.out.now.items c.loop-at.out.items c.loop-at.invariant
    (sym c.in-Some.is ∙ c.session.ensures) c.in-Err.ensures.refused

pub returns-in-Err-clause-err : goal.returns-in-Err-clause-err
returns-in-Err-clause-err c = begins-both c.args.out.now.items c.loop-at.out.items c.add_session.new.out.items c.loop-at.invariant.begins c.in-Err.ensures.err

pub loop-at-preserved : goal.loop-at-preserved
loop-at-preserved c =
    next-lines session_lines c.args.broker.now.sessions c.loop-at.at c.in-Some.session c.args.out.now.items c.loop-at.out.items c.add_session.new.out.items c.loop-at.invariant
    (sym c.in-Some.is ∙ c.session.ensures) c.in-Ok.ensures.added
