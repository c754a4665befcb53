use Rattle.spk_sequence.proofs.ConsecutiveLemmas.{follow_birth, follow_on, nothing_else}
use Rattle.spk_sequence.proofs.laws.consecutive.Goals as goal

pub returns-clause-birth : goal.returns-clause-birth
returns-clause-birth c = follow_birth

pub returns-clause-live : goal.returns-clause-live
returns-clause-live c s events = follow_on events s

pub returns-clause-none : goal.returns-clause-none
returns-clause-none c s events = nothing_else events s
