use Rattle.spk_visitor.proofs.Bounded.{cut-bounded}
use Rattle.spk_visitor.proofs.laws.only_the_bounded_are_cut.Goals as goal

pub returns : goal.returns
returns c = cut-bounded
