use Rattle.spk_topics.proofs.SparkLemmas.{same_named}
use Rattle.spk_topics.proofs.laws.one_topic.Goals as goal

pub returns : goal.returns
returns c = same_named
