use Rattle.std.proofs.Common.{◌++◌, ap, sym, ◌∙◌}
use Rattle.std.specs.List.{flat_map}
use Rattle.spk_broker_rules.specs.Words.{option_list}
use Rattle.spk_broker_journal.specs.Ending.{conns_of}
use Rattle.spk_broker_journal.proofs.Ends.{next-joined, no-joined}
use Rattle.spk_broker_journal.proofs.ending.add_sitting.Goals as goal

pub returns-in_default : goal.returns-in_default
returns-in_default c =
    no-joined conns_of c.args.broker.now.sessions c.loop-at.at c.loop-at.conns.items (c.args.conns.now.items ++ flat_map conns_of c.args.broker.now.sessions) c.loop-at.invariant
    (sym c.session.ensures ∙ c.in_default.is)

pub loop-at-preserved : goal.loop-at-preserved
loop-at-preserved c =
    next-joined conns_of c.args.broker.now.sessions c.loop-at.at c.in-Some.session c.loop-at.conns.items c.add_one.new.conns.items
    (c.args.conns.now.items ++ flat_map conns_of c.args.broker.now.sessions) c.loop-at.invariant (sym c.session.ensures ∙ c.in-Some.is)
    (c.in_ok-add_one.ensures ∙ ap (λ o. c.loop-at.conns.items ++ option_list o) c.connection.ensures)
