use Rattle.std.proofs.Common.{◌∙◌, sym}
use Rattle.spk_topics.proofs.BranchLemmas.{map_one, map_two}
use Rattle.spk_topics.proofs.node.only_of.Goals as goal

pub returns-then-len-ne1-clause-none : goal.returns-then-len-ne1-clause-none
returns-then-len-ne1-clause-none c = map_two c.args.branches.now c.len.ensures.ordered (λ e. c.if-len-ne1.true (c.len.ensures.len ∙ e))

pub returns-in-Some-clause-one : goal.returns-in-Some-clause-one
returns-in-Some-clause-one c = map_one c.args.branches.now c.in-Some.field-0-0.now c.in-Some.number.now (sym c.len.ensures.len ∙ c.if-len-ne1.false) c.in-Some.ensures.first
