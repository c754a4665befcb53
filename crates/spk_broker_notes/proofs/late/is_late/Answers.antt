use Rattle.std.proofs.Common.{sym, ◌∙◌}
use Rattle.spk_broker_notes.specs.Noted.{is_late}
use Rattle.spk_broker_notes.proofs.Pings.{is-late, next-late, none-late}
use Rattle.spk_broker_notes.proofs.late.is_late.Goals as goal

pub returns-in_default : goal.returns-in_default
returns-in_default c =
    none-late c.args.clock c.args.broker.now.sessions c.loop-at.at (is_late c.args.clock c.args.broker.now.sessions) c.loop-at.invariant (sym c.in_default.is ∙ c.session.ensures)

pub returns-then-is_some : goal.returns-then-is_some
returns-then-is_some c =
    is-late c.args.clock c.args.broker.now.sessions c.loop-at.at c.in-Some.session c.silent.result (is_late c.args.clock c.args.broker.now.sessions) c.loop-at.invariant
    (sym c.in-Some.is ∙ c.session.ensures) c.silent.ensures (sym c.is_some.ensures ∙ c.if-is_some.true)

pub loop-at-preserved : goal.loop-at-preserved
loop-at-preserved c =
    next-late c.args.clock c.args.broker.now.sessions c.loop-at.at c.in-Some.session c.silent.result (is_late c.args.clock c.args.broker.now.sessions) c.loop-at.invariant
    (sym c.in-Some.is ∙ c.session.ensures) c.silent.ensures (sym c.is_some.ensures ∙ c.if-is_some.false)
