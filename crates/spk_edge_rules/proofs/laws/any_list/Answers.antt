use Rattle.spk_edge_rules.proofs.Told.{births, goes_on, joined, kept_lawful, lost, openings, record_is, refused, same_steps, sessions, standing_is, whole_births}
use Rattle.spk_edge_rules.proofs.laws.any_list.Goals as goal

pub returns-clause-same_steps : goal.returns-clause-same_steps
returns-clause-same_steps c = same_steps

pub returns-clause-standing : goal.returns-clause-standing
returns-clause-standing c = standing_is

pub returns-clause-goes_on : goal.returns-clause-goes_on
returns-clause-goes_on c = goes_on

pub returns-clause-refused : goal.returns-clause-refused
returns-clause-refused c = refused

pub returns-clause-record : goal.returns-clause-record
returns-clause-record c = record_is

pub returns-clause-openings : goal.returns-clause-openings
returns-clause-openings c = openings

pub returns-clause-sessions : goal.returns-clause-sessions
returns-clause-sessions c = sessions

pub returns-clause-births : goal.returns-clause-births
returns-clause-births c = births

pub returns-clause-whole_births : goal.returns-clause-whole_births
returns-clause-whole_births c = whole_births

pub returns-clause-joined : goal.returns-clause-joined
returns-clause-joined c = joined

pub returns-clause-kept : goal.returns-clause-kept
returns-clause-kept c = kept_lawful

pub returns-clause-lost : goal.returns-clause-lost
returns-clause-lost c = lost
