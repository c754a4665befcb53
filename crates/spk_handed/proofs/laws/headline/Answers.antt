use Rattle.std.proofs.Common.{sym, subst}
use Rattle.spk_sequence.specs.Claims.{BirthPrefixes}
use Rattle.spk_handed.proofs.Skipped.{Laws, after_gap, before, births, cause, left_of}
use Rattle.spk_handed.proofs.laws.headline.Goals as goal

pub returns-clause-prefixes : goal.returns-clause-prefixes
returns-clause-prefixes c = λ s inputs r.
    let laws : Laws = record { live = c.positions.ensures.live; start_opens = c.records.ensures.start_opens } in
    let rest = left_of laws s inputs r in
    subst (BirthPrefixes s.published) (sym rest.1.agree.consumed) (c.positions.ensures.fronts s rest.0 rest.1.lawful)

pub returns-clause-after_gap : goal.returns-clause-after_gap
returns-clause-after_gap c = after_gap (record { live = c.positions.ensures.live; start_opens = c.records.ensures.start_opens }) c.positions.ensures.after_gap

pub returns-clause-after_death : goal.returns-clause-after_death
returns-clause-after_death c = λ s inputs input r. c.positions.ensures.after_death s inputs input r.node r.some_places r.few_places r.published

pub returns-clause-births : goal.returns-clause-births
returns-clause-births c = births (record { live = c.positions.ensures.live; start_opens = c.records.ensures.start_opens }) c.positions.ensures.births

pub returns-clause-cause : goal.returns-clause-cause
returns-clause-cause c = cause (record { live = c.positions.ensures.live; start_opens = c.records.ensures.start_opens }) c.positions.ensures.cause

pub returns-clause-before : goal.returns-clause-before
returns-clause-before c = before
