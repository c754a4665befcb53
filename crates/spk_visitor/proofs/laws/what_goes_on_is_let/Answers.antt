use Rattle.spk_visitor.proofs.Letting.{let-filters, let-sent, let-stays}
use Rattle.spk_visitor.proofs.laws.what_goes_on_is_let.Goals as goal

pub returns-clause-sent : goal.returns-clause-sent
returns-clause-sent c = let-sent c.what_passes_is_let.ensures

pub returns-clause-filters : goal.returns-clause-filters
returns-clause-filters c = let-filters

pub returns-clause-stays : goal.returns-clause-stays
returns-clause-stays c = let-stays
