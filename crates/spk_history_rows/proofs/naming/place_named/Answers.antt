use Rattle.std.proofs.Common.{below_more, sym, ◌∙◌}
use Rattle.spk_history_rows.proofs.Places.{found_name, no_name, other_name}
use Rattle.spk_history_rows.proofs.naming.place_named.Goals as goal

pub returns-then-is-clause-some : goal.returns-then-is-clause-some
returns-then-is-clause-some c =
    found_name c.args.names.now c.loop-i.i c.index-names-i.result (record { group = c.args.group.now; name = c.args.name.now }) c.loop-i-test.true
    c.index-names-i.is (sym c.is.ensures ∙ c.if-is.true)

pub loop-i-preserved : goal.loop-i-preserved
loop-i-preserved c =
    below_more _ _ c.loop-i.invariant
    (other_name c.args.names.now c.loop-i.i c.index-names-i.result (record { group = c.args.group.now; name = c.args.name.now }) c.loop-i-test.true
    c.index-names-i.is (sym c.is.ensures ∙ c.if-is.false))

pub returns-clause-none : goal.returns-clause-none
returns-clause-none c =
    no_name c.args.names.now c.loop-i.i (record { group = c.args.group.now; name = c.args.name.now }) c.loop-i-test.false c.loop-i.invariant
