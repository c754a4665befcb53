use Rattle.std.proofs.Common.{subst, sym}
use Rattle.spk_topics.specs.Nodes.{ways_of}
use Rattle.spk_topics.specs.Whole.{HasOne}
use Rattle.spk_topics.proofs.BranchLemmas.{branch_one}
use Rattle.spk_topics.proofs.node.Children.only.Goals as goal

pub returns-in-One-clause-one : goal.returns-in-One-clause-one
returns-in-One-clause-one c = subst (λ k. HasOne (ways_of k) c.in-One.branch.number) (sym c.in-One.is) (branch_one c.in-One.branch)
