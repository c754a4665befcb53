use Rattle.spk_topics.proofs.FitLemmas.{match-is}
use Rattle.spk_topics.proofs.laws.matching.Goals as goal

pub returns : goal.returns
returns c = match-is
