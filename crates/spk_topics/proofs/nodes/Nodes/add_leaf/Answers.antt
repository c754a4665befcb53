use Rattle.spk_topics.specs.Nodes.{rows_of}
use Rattle.spk_topics.proofs.ChangeLemmas.{keeps_more}
use Rattle.spk_topics.proofs.nodes.Nodes.add_leaf.Goals as goal

pub returns-in-Err-clause-keeps : goal.returns-in-Err-clause-keeps
returns-in-Err-clause-keeps c = keeps_more (rows_of c.args.self.now) (rows_of c.link.new.self) (rows_of c.prune.new.self) c.link.ensures.keeps c.prune.ensures.keeps
