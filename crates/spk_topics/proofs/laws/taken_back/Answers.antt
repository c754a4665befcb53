use Rattle.spk_topics.proofs.GrantLemmas.{taken-back, set-again}
use Rattle.spk_topics.proofs.laws.taken_back.Goals as goal

pub returns-clause-new : goal.returns-clause-new
returns-clause-new c = taken-back

pub returns-clause-standing : goal.returns-clause-standing
returns-clause-standing c = set-again
