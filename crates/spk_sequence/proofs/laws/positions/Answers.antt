use Rattle.spk_sequence.proofs.Lawful.{same_step, live_by_positions, takes_birth, has_cause}
use Rattle.spk_sequence.proofs.Deaths.{after_death}
use Rattle.spk_sequence.proofs.Headline.{fronts, after_gap, taken_after, last_part, grows, still_lawful}
use Rattle.spk_sequence.proofs.RecordLemmas.{taken_opens}
use Rattle.spk_sequence.proofs.laws.positions.Goals as goal

pub returns-clause-same_steps : goal.returns-clause-same_steps
returns-clause-same_steps c = same_step

pub returns-clause-live : goal.returns-clause-live
returns-clause-live c = live_by_positions

pub returns-clause-births : goal.returns-clause-births
returns-clause-births c = takes_birth

pub returns-clause-cause : goal.returns-clause-cause
returns-clause-cause c = has_cause

pub returns-clause-fronts : goal.returns-clause-fronts
returns-clause-fronts c = fronts

pub returns-clause-after_gap : goal.returns-clause-after_gap
returns-clause-after_gap c = after_gap

pub returns-clause-after_death : goal.returns-clause-after_death
returns-clause-after_death c = after_death

pub returns-clause-taken : goal.returns-clause-taken
returns-clause-taken c = taken_after

pub returns-clause-last_part : goal.returns-clause-last_part
returns-clause-last_part c = last_part

pub returns-clause-grows : goal.returns-clause-grows
returns-clause-grows c = grows

pub returns-clause-taken_opens : goal.returns-clause-taken_opens
returns-clause-taken_opens c = taken_opens

pub returns-clause-still_lawful : goal.returns-clause-still_lawful
returns-clause-still_lawful c = still_lawful
