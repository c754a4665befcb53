use Rattle.spk_topics.specs.Nodes.{rows_of}
use Rattle.spk_topics.proofs.ChangeLemmas.{keeps_more}
use Rattle.spk_topics.proofs.nodes.Nodes.prune.Goals as goal

pub returns-in-Some-clause-keeps : goal.returns-in-Some-clause-keeps
returns-in-Some-clause-keeps c = keeps_more (rows_of c.args.self.now) (rows_of c.free_leaf.new.self) (rows_of c.join.new.self) c.in-Some.ensures.keeps c.join.ensures.keeps

pub returns-in-None-clause-keeps : goal.returns-in-None-clause-keeps
returns-in-None-clause-keeps c = keeps_more (rows_of c.args.self.now) (rows_of c.free_leaf.new.self) (rows_of c.join-in-None.new.self) c.in-None.ensures.keeps c.join-in-None.ensures.keeps
