use Rattle.spk_topics.proofs.NamedLemmas.{reading}
use Rattle.spk_topics.proofs.laws.reading.Goals as goal

pub returns : goal.returns
returns c = reading
