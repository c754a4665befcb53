use Rattle.spk_story.proofs.Apart.{apart_are, ends_told}
use Rattle.spk_story.proofs.Following.{current_is, followed_is, lost_is}
use Rattle.spk_story.proofs.Totals.{missing_is, unused_is}
use Rattle.spk_story.proofs.laws.any_list.Goals as goal

pub returns-clause-current : goal.returns-clause-current
returns-clause-current c = current_is

pub returns-clause-lost : goal.returns-clause-lost
returns-clause-lost c = lost_is

pub returns-clause-followed : goal.returns-clause-followed
returns-clause-followed c = followed_is

pub returns-clause-apart : goal.returns-clause-apart
returns-clause-apart c = apart_are

pub returns-clause-missing : goal.returns-clause-missing
returns-clause-missing c = missing_is

pub returns-clause-unused : goal.returns-clause-unused
returns-clause-unused c = unused_is

pub returns-clause-ends : goal.returns-clause-ends
returns-clause-ends c = ends_told
