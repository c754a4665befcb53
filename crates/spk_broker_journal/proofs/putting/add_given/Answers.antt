use Rattle.std.proofs.Common.{◌∷◌, ◌++◌, map, None}
use Rattle.spk_broker_events.specs.declared.line.Kind.TheVariants as kind
use Rattle.spk_broker_snapshot.specs.Lines.{in_flight_line, in_use_line, line}
use Rattle.spk_broker_journal.specs.Adding.{IsAdded, IsNamedIn}
use Rattle.spk_broker_journal.proofs.Records.{added-both, if-both, named-left, named-right, on-both}
use Rattle.spk_broker_journal.proofs.putting.add_given.Goals as goal

pub returns-in-Ok-clause-added : goal.returns-in-Ok-clause-added
returns-in-Ok-clause-added c =
    let xs = map in_use_line c.args.of.now.used in
    let ys = line kind.Last c.args.of.now.last 0 None ∷ map in_flight_line c.args.of.now.in_flight in
    on-both c.add_kept.result (IsAdded ys c.add.new.out.items c.add_kept.new.out.items) (IsAdded (xs ++ ys) c.args.out.now.items c.add_kept.new.out.items)
    (added-both xs ys c.args.out.now.items c.add.new.out.items c.add_kept.new.out.items c.in-Ok.ensures.added) c.add_kept.ensures.added

pub returns-in-Ok-clause-refused : goal.returns-in-Ok-clause-refused
returns-in-Ok-clause-refused c =
    let xs = map in_use_line c.args.of.now.used in
    let ys = line kind.Last c.args.of.now.last 0 None ∷ map in_flight_line c.args.of.now.in_flight in
    if-both c.add_kept.result (λ e. IsNamedIn e ys) (λ e. IsNamedIn e (xs ++ ys)) (λ e n. named-right e xs ys c.in-Ok.ensures.added.writable n) c.add_kept.ensures.refused

pub returns-in-Err-clause-refused : goal.returns-in-Err-clause-refused
returns-in-Err-clause-refused c =
    let xs = map in_use_line c.args.of.now.used in
    let ys = line kind.Last c.args.of.now.last 0 None ∷ map in_flight_line c.args.of.now.in_flight in
    named-left c.in-Err.fault xs ys c.in-Err.ensures.refused
