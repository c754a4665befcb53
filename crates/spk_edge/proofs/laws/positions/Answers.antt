use Rattle.spk_edge.proofs.Placed.{placed-at, placed-count, placed-more}
use Rattle.spk_edge.proofs.laws.positions.Goals as goal

pub returns-clause-at : goal.returns-clause-at
returns-clause-at c = placed-at

pub returns-clause-counts : goal.returns-clause-counts
returns-clause-counts c = placed-count

pub returns-clause-grows : goal.returns-clause-grows
returns-clause-grows c = λ s. placed-more s c.records.ensures.same_number
