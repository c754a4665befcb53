use Rattle.std.proofs.Common.{◌∙◌, ap, length, sym}
use Rattle.std.proofs.lemmas.Bool.{false≢true}
use Rattle.spk_topics.specs.Nodes.{ways_of}
use Rattle.spk_topics.proofs.BranchLemmas.{branch_on, map_on}
use Rattle.spk_topics.proofs.node.Children.are_none.Goals as goal

pub returns-in-One-clause-some : goal.returns-in-One-clause-some
returns-in-One-clause-some c = λ _. let (l, n, h) = branch_on c.in-One.field-0 in (l, n, ap (λ k. ways_of k l) c.in-One.is ∙ h)

pub returns-in-Many-clause-some : goal.returns-in-Many-clause-some
returns-in-Many-clause-some c = λ no.
    let (l, n, h) = map_on c.in-Many.branches (λ e. false≢true (sym no ∙ c.is_empty.ensures.1 (ap length e))) in
    (l, n, ap (λ k. ways_of k l) c.in-Many.is ∙ h)
