use Rattle.std.proofs.Common.{ap, sym, ◌∙◌}
use Rattle.std.specs.Option.{option_map}
use Rattle.spk_broker_events.specs.Line.{kept}
use Rattle.spk_broker_journal.specs.Sources.{lines_of}
use Rattle.spk_broker_journal.proofs.Records.{line-fails, next-line, no-line}
use Rattle.spk_broker_journal.proofs.adding.add.Goals as goal

pub returns-in_default-clause-added : goal.returns-in_default-clause-added
returns-in_default-clause-added c =
    no-line (lines_of c.args.source) c.loop-at.at c.args.out.now.items c.loop-at.out.items c.loop-at.invariant (ap (option_map kept) (sym c.in_default.is) ∙ c.in_ok-line.ensures)

pub returns-in-Err-clause-refused : goal.returns-in-Err-clause-refused
returns-in-Err-clause-refused c =
    line-fails c.in-Err.fault (lines_of c.args.source) c.loop-at.at (kept c.in-Some.line) c.args.out.now.items c.loop-at.out.items c.loop-at.invariant
    (ap (option_map kept) (sym c.in-Some.is) ∙ c.in_ok-line.ensures) c.in-Err.ensures.refused

pub loop-at-preserved : goal.loop-at-preserved
loop-at-preserved c =
    next-line (lines_of c.args.source) c.loop-at.at (kept c.in-Some.line) c.args.out.now.items c.loop-at.out.items c.append_line.new.out.items c.loop-at.invariant
    (ap (option_map kept) (sym c.in-Some.is) ∙ c.in_ok-line.ensures) c.in-Ok.ensures.put c.in-Ok.ensures.writable
