use Rattle.std.proofs.Common.{drop, get_or, subst, sym}
use Rattle.spk_broker_events.specs.Record.{SaysNothing}
use Rattle.spk_broker_events.proofs.Saying.{first-there, nil-few, nothing-else, nothing-empty}
use Rattle.spk_broker_events.proofs.reading.read.Goals as goal

pub returns-in_default : goal.returns-in_default
returns-in_default c = nothing-empty c.args.content.now (nil-few c.args.content.now c.in_default.len_below)

pub returns : goal.returns
returns c = subst SaysNothing (sym (first-there c.args.content.now c.in-len1-up.len_at_least))
    (nothing-else (get_or c.args.content.now 0 0) (drop 1 c.args.content.now) c.if-code-eq1.false c.if-code-eq2.false c.if-code-eq3.false c.if-code-eq4.false c.if-code-eq5.false c.if-code-eq6.false c.if-code-eq7.false)
