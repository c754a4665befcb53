use Rattle.spk_topics.proofs.BoolLemmas.{and_parts, not_true}
use Rattle.spk_topics.proofs.LevelLemmas.{joined-levels, levels-joined}
use Rattle.spk_topics.proofs.laws.levels_are_parts.Goals as goal

pub returns-clause-parts : goal.returns-clause-parts
returns-clause-parts c = joined-levels

pub returns-clause-again : goal.returns-clause-again
returns-clause-again c = λ level rest h. let (first, others) = and_parts _ _ h in levels-joined level rest (not_true _ first) others
