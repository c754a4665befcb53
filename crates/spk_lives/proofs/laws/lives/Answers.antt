use Rattle.spk_lives.proofs.EndToEnd.{all-numbered, apart, bds-all, counted, one-record, says-all}
use Rattle.spk_lives.proofs.Published.{Laws}
use Rattle.spk_lives.proofs.laws.lives.Goals as goal

pub returns-clause-record : goal.returns-clause-record
returns-clause-record c =
    let laws : Laws = record { node = c.any_list.ensures.record; openings = c.any_list.ensures.openings; joined = c.any_list.ensures.joined } in
    one-record laws

pub returns-clause-counted : goal.returns-clause-counted
returns-clause-counted c =
    let laws : Laws = record { node = c.any_list.ensures.record; openings = c.any_list.ensures.openings; joined = c.any_list.ensures.joined } in
    counted laws

pub returns-clause-apart : goal.returns-clause-apart
returns-clause-apart c = apart

pub returns-clause-bds : goal.returns-clause-bds
returns-clause-bds c = bds-all

pub returns-clause-sessions : goal.returns-clause-sessions
returns-clause-sessions c = says-all c.any_list.ensures.sessions

pub returns-clause-numbers : goal.returns-clause-numbers
returns-clause-numbers c =
    let laws : Laws = record { node = c.any_list.ensures.record; openings = c.any_list.ensures.openings; joined = c.any_list.ensures.joined } in
    all-numbered laws c.records.ensures.same_start
