use Rattle.std.proofs.Common.{◌++◌, map}
use Rattle.std.specs.List.{flat_map}
use Rattle.spk_broker_snapshot.specs.Lines.{retained_line, session_lines, waiting_line}
use Rattle.spk_broker_journal.specs.Adding.{IsAdded, IsNamedIn}
use Rattle.spk_broker_journal.proofs.Records.{added-both, if-both, named-left, named-right, on-both}
use Rattle.spk_broker_journal.proofs.putting.add_behind.Goals as goal

pub returns-in-Ok-clause-added : goal.returns-in-Ok-clause-added
returns-in-Ok-clause-added c =
    let xs = map waiting_line c.args.broker.now.newcomers in
    let ys = flat_map session_lines c.args.broker.now.sessions ++ map retained_line c.args.broker.now.retained in
    on-both c.add_stored.result (IsAdded ys c.add.new.out.items c.add_stored.new.out.items) (IsAdded (xs ++ ys) c.args.out.now.items c.add_stored.new.out.items)
    (added-both xs ys c.args.out.now.items c.add.new.out.items c.add_stored.new.out.items c.in-Ok.ensures.added) c.add_stored.ensures.added

pub returns-in-Ok-clause-refused : goal.returns-in-Ok-clause-refused
returns-in-Ok-clause-refused c =
    let xs = map waiting_line c.args.broker.now.newcomers in
    let ys = flat_map session_lines c.args.broker.now.sessions ++ map retained_line c.args.broker.now.retained in
    if-both c.add_stored.result (λ e. IsNamedIn e ys) (λ e. IsNamedIn e (xs ++ ys)) (λ e n. named-right e xs ys c.in-Ok.ensures.added.writable n) c.add_stored.ensures.refused

pub returns-in-Err-clause-refused : goal.returns-in-Err-clause-refused
returns-in-Err-clause-refused c =
    let xs = map waiting_line c.args.broker.now.newcomers in
    let ys = flat_map session_lines c.args.broker.now.sessions ++ map retained_line c.args.broker.now.retained in
    named-left c.in-Err.fault xs ys c.in-Err.ensures.refused
