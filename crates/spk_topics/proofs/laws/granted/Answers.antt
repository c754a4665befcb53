use Rattle.spk_topics.proofs.GrantLemmas.{given-one, given-others}
use Rattle.spk_topics.proofs.laws.granted.Goals as goal

pub returns-clause-one : goal.returns-clause-one
returns-clause-one c = given-one

pub returns-clause-others : goal.returns-clause-others
returns-clause-others c = given-others
